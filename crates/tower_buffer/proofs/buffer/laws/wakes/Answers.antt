use Rattle.tower_buffer.proofs.MailFreed
use Rattle.tower_buffer.proofs.buffer.laws.wakes.Goals as goal

pub returns-clause-tickets : goal.returns-clause-tickets
returns-clause-tickets g c = MailFreed.tickets

pub returns-clause-responses : goal.returns-clause-responses
returns-clause-responses g c = MailFreed.responses_named

pub returns-clause-worker : goal.returns-clause-worker
returns-clause-worker g c = MailFreed.worker_named

pub returns-clause-decided : goal.returns-clause-decided
returns-clause-decided g c = MailFreed.decided
