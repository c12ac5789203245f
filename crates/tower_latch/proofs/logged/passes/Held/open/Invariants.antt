use Rattle.std.proofs.Common.{◌≡◌, ℕ, ◌+◌, List, [], vec_len}
use Rattle.std.specs.List.{AllByRecursion}
use Rattle.crossbeam_utils.specs.Seq.{cell_view}
use Rattle.tower_latch.specs.Tokens.{knower}
use Rattle.tower_latch.proofs.logged.passes.Held.open.Given as goal

abbrev pub invariant-loop : goal.invariant-loop
invariant-loop g l =
    (l.rest.parts + l.counter ≡ l.count)
    × (l.rest.amount ≡ 0)
    × (vec_len l.passes ≡ l.counter)
    × AllByRecursion (λ (p : List (ℕ × g.row.C-Step.Denot × g.row.C-Reply.Denot)). p ≡ []) l.passes.items
    × (l.keeper.table_id ≡ g.K.Log.table)
    × (cell_view l.keeper ≡ knower [])
