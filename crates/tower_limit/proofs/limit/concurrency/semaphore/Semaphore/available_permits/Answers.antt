use Rattle.tower_limit.proofs.Replies.{free_counts, free_gains_none}
use Rattle.tower_limit.proofs.limit.concurrency.semaphore.Semaphore.available_permits.Goals as goal

pub unreachable-requires : goal.unreachable-requires
unreachable-requires g c = let came = g.met.L.Latch.honest _ _ _ c.step.ensures in let counts = free_counts _ (came.0, came.1, came.3) in c.in_default.not-Count counts.0 counts.1

pub step-requires-clause-ungained : goal.step-requires-clause-ungained
step-requires-clause-ungained g c = free_gains_none
