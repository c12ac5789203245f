use Rattle.tower_limit.proofs.Counts.{loads}
use Rattle.tower_limit.proofs.load.pending_requests.service.PendingRequestsLoad.load.Goals as goal

pub unreachable-requires : goal.unreachable-requires
unreachable-requires g c = let came = g.met.L.Latch.honest _ _ _ c.step.ensures in loads _ (came.0, came.1, came.3) c.in_default.not-Count
