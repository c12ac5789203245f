use Rattle.tower_buffer.proofs.Orders.{poll_orderly}
use Rattle.tower_buffer.proofs.buffer.worker.WorkerFuture.poll.Goals as goal

pub returns-clause-orderly : goal.returns-clause-orderly
returns-clause-orderly g c = poll_orderly g.L.Latch.gave g.S.Service _ _ _ c.step.ensures.step
