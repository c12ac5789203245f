use Rattle.tower_latch.specs.LatchLemmas.{is_run}
use Rattle.tower_buffer.proofs.MailRuns
use Rattle.tower_buffer.proofs.Queues.{taken_as_sent}
use Rattle.tower_buffer.proofs.buffer.laws.law.Goals as goal

pub returns-clause-follows : goal.returns-clause-follows
returns-clause-follows g c = is_run _ _

pub returns-clause-once : goal.returns-clause-once
returns-clause-once g c = MailRuns.each_once

pub returns-clause-in_order : goal.returns-clause-in_order
returns-clause-in_order g c = MailRuns.in_order

pub returns-clause-fails : goal.returns-clause-fails
returns-clause-fails g c = MailRuns.fails_at_once

pub returns-clause-shut : goal.returns-clause-shut
returns-clause-shut g c = MailRuns.stays_shut

pub returns-clause-history : goal.returns-clause-history
returns-clause-history g c = taken_as_sent
