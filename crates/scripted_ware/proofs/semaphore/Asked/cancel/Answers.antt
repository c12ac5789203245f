use Rattle.tower_limit.proofs.Replies.{cancel_gains_none}
use Rattle.scripted_ware.proofs.semaphore.Asked.cancel.Goals as goal

pub step-requires-clause-ungained : goal.step-requires-clause-ungained
step-requires-clause-ungained g c = cancel_gains_none c.in-Ok.key
