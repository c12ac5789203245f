use Rattle.tower_limit.proofs.Replies.{cancel_gains_none}
use Rattle.tower_limit.proofs.limit.concurrency.semaphore.PollSemaphore.drop.Goals as goal

pub step-requires-clause-ungained : goal.step-requires-clause-ungained
step-requires-clause-ungained g c = cancel_gains_none c.in-Some.key
