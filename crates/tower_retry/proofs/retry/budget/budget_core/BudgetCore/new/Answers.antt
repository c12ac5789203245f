use Rattle.std.proofs.Common.{◌≡◌, ◌<◌, ◌∙◌, ap, rules, to_z, refl, sym, arith, ◌^◌}
use Rattle.std.specs.Prelude.{ℤ, pos}
use Rattle.std.specs.Int.{w128}
use Rattle.std.proofs.lemmas.Int.{ints, to_z-of_z}
use Rattle.std.proofs.lemmas.List.{get_or-replicate}
use Rattle.tower_retry.specs.Slots.{kept_sum}
use Rattle.tower_retry.proofs.SlotLemmas.{blank_slots, place_low}
use Rattle.tower_retry.proofs.BudgetCoreLemmas.{ends_at}
use Rattle.tower_retry.proofs.retry.budget.budget_core.BudgetCore.new.Goals as goal

pub invariant_of-result : goal.invariant_of-result
invariant_of-result c =
    let terms = c.terms-terms.result in
    let slots = c.in_ok-slots.slots in
    let small : terms.reserve < 2 ^ 127 = search rules in
    let some : 0 < terms.window = search rules in
    let reserve : to_z w128 terms.reserve ≡ pos terms.reserve = omega (arith, ints) in
    record {
      windows = search rules;
      small = small;
      summed = to_z-of_z w128 c.sum.result (search rules) ∙ c.sum.ensures ∙ ap (λ (z : ℤ). kept_sum z slots.index slots.amounts.items 10) reserve;
      ends = ends_at c.args.moment terms.window 0 _ (omega (arith, some)) (omega (arith, some, c.saturating_add.ensures));
      begun = λ back early few. rw c.in_ok-slots.ensures (get_or-replicate 10 _ (pos 0) (pos 0) (place_low slots.index back));
    }

pub returns-clause-opens : goal.returns-clause-opens
returns-clause-opens c =
    let slots = c.in_ok-slots.slots in (
      c.args.ttl,
      c.args.min_per_sec,
      c.args.fraction,
      c.args.moment,
      c.requires,
      record {
        terms = sym c.terms-terms.ensures.terms;
        made = refl;
        generation = refl;
        present = λ small. refl;
        slots = blank_slots 0 slots.index slots.amounts.items (λ p low. rw c.in_ok-slots.ensures (get_or-replicate 10 p (pos 0) (pos 0) low)) slots.within;
      },
    )
