use Rattle.std.proofs.Common.{◌≡◌}
use Rattle.tower_buffer.proofs.Abandoned.{Walked}
use Rattle.tower_buffer.proofs.buffer.messages.Messages.abandon.Given as goal

abbrev pub invariant-loop-id : goal.invariant-loop-id
invariant-loop-id g l = Walked l.fn.self.links l.self.links l.id × (l.self.stored ≡ l.fn.self.stored)
