use Rattle.tower_buffer.proofs.Messages.{holds_none}
use Rattle.tower_buffer.proofs.buffer.messages.Messages.new.Goals as goal

pub returns-clause-holds : goal.returns-clause-holds
returns-clause-holds g c = holds_none c.new.result c.new.ensures.order c.new.ensures.entries
