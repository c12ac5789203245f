use Rattle.tower_limit.proofs.HistoCoreLemmas.{counts}
use Rattle.tower_limit.proofs.hedge.rotating_histogram.RotatingHistogram.points.Goals as goal

pub unreachable-requires : goal.unreachable-requires
unreachable-requires g c = let came = g.met.L.Latch.honest _ _ _ c.step.ensures in counts _ _ (came.0, came.1, came.3) c.in_default.not-Count
