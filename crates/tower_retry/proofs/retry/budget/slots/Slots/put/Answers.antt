use Rattle.std.proofs.Common.{arith, ap, ◌∙◌}
use Rattle.std.specs.Int.{w128}
use Rattle.std.specs.Prelude.{slice_set, ℤ}
use Rattle.std.proofs.lemmas.Int.{to_z-of_z}
use Rattle.tower_retry.proofs.SlotLemmas.{put_moves}
use Rattle.tower_retry.proofs.retry.budget.slots.Slots.put.Goals as goal

pub returns-clause-moves : goal.returns-clause-moves
returns-clause-moves c =
    let old = c.args.self.now in
    put_moves c.args.amount old.index _ old.amounts.items _ (omega arith) (omega arith) (omega arith)
    (ap (λ v. v.items) c.move_on.ensures.amounts ∙ ap (λ (z : ℤ). slice_set old.amounts.items old.index z) (to_z-of_z w128 c.args.amount c.ranges.amount))
