use Rattle.tower_buffer.proofs.Messages.{sorted_of}
use Rattle.tower_buffer.proofs.Moves.{read}
use Rattle.tower_buffer.proofs.buffer.messages.Messages.is_cancelled.Goals as goal

pub invariant_of-self : goal.invariant_of-self
invariant_of-self g c =
    let old = c.args.self.now in
    let now = read old.stored old.links c.fate_of.new.links (sorted_of old) c.fate_of.ensures.order c.fate_of.ensures.entries in
    record { differ = now.differ; linked = now.linked; sent = now.sent }
