use Rattle.std.proofs.Common.{◌≡◌, arith, ap, subst, inl, inr, ◌≤◌, ◌⊎◌}
use Rattle.std.specs.Prelude.{ℤ}
use Rattle.std.specs.Int.{w128}
use Rattle.std.proofs.lemmas.Int.{to_z-of_z}
use Rattle.std.proofs.lemmas.Bool.Decides.{leb_tells}
use Rattle.tower_retry.specs.Slots.{Shifted}
use Rattle.tower_retry.proofs.SlotLemmas.{moves_more, moves_on}
use Rattle.tower_retry.proofs.retry.budget.slots.Slots.advance.Goals as goal

pub loop-past-preserved : goal.loop-past-preserved
loop-past-preserved c = record {
  moves = moves_more c.loop-past.past _ _ _ _ _ _ _ (omega arith) c.loop-past.invariant.moves c.put-in-loop-past.ensures.moves;
  writes = omega arith;
}

pub returns-clause-moves : goal.returns-clause-moves
returns-clause-moves c =
    let present = to_z-of_z w128 c.args.present c.ranges.present in
    let n = c.args.generations in
    let m = c.loop-past.past in
    let old = c.args.self.now in
    let slots = c.loop-past.self in
    let new = c.move_on.new.self in
    let moves : Shifted m c.args.present old.index old.amounts.items slots.index slots.amounts.items =
    subst (λ (z : ℤ). Shifted m z old.index old.amounts.items slots.index slots.amounts.items) present c.loop-past.invariant.moves in
    let ended : (n ≤ 11 × m ≡ n) ⊎ (11 ≤ n × m ≡ 11) =
    elim (leb_tells n 11) [ inl few ↦ inl (omega arith, omega arith) | inr many ↦ inr (omega arith, omega arith) ] in
    rw (ap (λ v. v.items) c.move_on.ensures.amounts)
    (moves_on n m c.saturating_sub.result c.args.present old.index slots.index new.index old.amounts.items slots.amounts.items ended slots.within c.saturating_sub.ensures c.move_on.ensures.index moves)
