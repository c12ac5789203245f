-- The history of a line is a run of its machine.
use Rattle.std.specs.Prelude.{take}
use Rattle.tower_latch.specs.HistoryLemmas.{serves_first, plain_run}
use Rattle.tower_limit.specs.Line.{LineSteps, initial}
use Rattle.tower_limit.specs.LineCore.{StandsFor, Opens}
use Rattle.tower_limit.specs.LineHistory.{BoundedHistory}
use Rattle.tower_limit.proofs.LineRuns.{bounded}

pub bounded_history : BoundedHistory
bounded_history max line opening history held is legal n =
    let whole = plain_run Opens StandsFor LineSteps line (initial max) opening history held is legal in
    let first = serves_first LineSteps (initial max) whole.0 history n whole.1 in
    bounded max (take n history) first.0 first.1
