use Rattle.std.proofs.Common.{◌≡◌, ℕ, List, ◌++◌, length, vec_len}
use Rattle.std.specs.List.{sum_by, AllByRecursion}
use Rattle.crossbeam_utils.specs.Seq.{cell_view}
use Rattle.tower_latch.specs.History.{Rises}
use Rattle.tower_latch.specs.Tokens.{gatherer}
use Rattle.tower_latch.proofs.Places.{joined}
use Rattle.tower_latch.proofs.logged.passes.Held.into_history.Given as goal

abbrev pub invariant-loop-pass : goal.invariant-loop-pass
invariant-loop-pass g l =
    (done : List (List (ℕ × g.row.C-Step.Denot × g.row.C-Reply.Denot)))
    × (l.initial.passes.items ≡ l.passes.items ++ done)
    × (l.rest.parts ≡ length done)
    × (l.rest.amount ≡ sum_by length done)
    × (l.keeper.table_id ≡ g.K.Log.table)
    × (cell_view l.keeper ≡ gatherer l.history.items (joined done))
    × AllByRecursion Rises done

abbrev pub decreases-loop-pass : goal.decreases-loop-pass
decreases-loop-pass g l = vec_len l.passes
