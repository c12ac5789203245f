use Rattle.std.proofs.Common.{drop}
use Rattle.tower_limit.specs.RotatingHistogram.{RotatingHistogramView, SeededAll}
use Rattle.tower_limit.proofs.hedge.rotating_histogram.RotatingHistogram.seed_all.Given as goal

-- the latencies to come are seeded after those so far
abbrev pub invariant-loop-millis : goal.invariant-loop-millis
invariant-loop-millis g l = (new : RotatingHistogramView g.row.L.Denot g.row.C.Denot)
    → SeededAll g.L.Latch.gave g.C.Clock l.self (drop l.millis-index l.fn.latencies) new
    → SeededAll g.L.Latch.gave g.C.Clock l.fn.self l.fn.latencies new
