use Rattle.std.proofs.Common.{◌≡◌, arith, rules, sym, ap, ◌∙◌, to_z}
use Rattle.std.specs.Prelude.{ℕ, ℤ, pos, ◌+ℤ◌, ◌+◌, ◌-◌, ◌%◌, slice_index_or}
use Rattle.std.specs.Int.{w128, saturate_signed}
use Rattle.std.proofs.lemmas.Int.{to_z-of_z}
use Rattle.std.proofs.lemmas.List.{get_or_read}
use Rattle.tower_retry.specs.Slots.{place, slot}
use Rattle.tower_retry.proofs.SlotLemmas.{kept_sum_more, kept_sum_none}
use Rattle.tower_retry.proofs.retry.budget.slots.Slots.sum.Goals as goal

pub loop-back-init : goal.loop-back-init
loop-back-init c = sym (kept_sum_none _ _ _)

pub loop-back-preserved : goal.loop-back-preserved
loop-back-preserved c =
    let slots = c.args.self.now in
    let next = c.loop-back.back + 1 in
    let at : (slots.index + 9 - c.loop-back.back) % 10 ≡ place slots.index next = ap (λ (n : ℕ). n % 10) (omega arith) in
    let here : c.index.result.now ≡ slice_index_or slots.amounts.items ((slots.index + 9 - c.loop-back.back) % 10) (pos 0) =
    get_or_read slots.amounts.items _ _ (omega (arith, slots.ten)) c.index.ensures (pos 0) in
    let read : c.index.result.now ≡ slot slots.index slots.amounts.items next = here ∙ ap (λ (p : ℕ). slice_index_or slots.amounts.items p (pos 0)) at in
    let added = to_z-of_z w128 c.index.result.now (search rules) ∙ read in
    let sum = to_z-of_z w128 _ (search rules) ∙ c.saturating_add-sum.ensures ∙ ap (λ (z : ℤ). saturate_signed w128 (to_z w128 c.loop-back.sum-bits +ℤ z)) added in
    rw (kept_sum_more _ _ _ _) (sum ∙ ap (λ (z : ℤ). saturate_signed w128 (z +ℤ slot slots.index slots.amounts.items next)) c.loop-back.invariant)
