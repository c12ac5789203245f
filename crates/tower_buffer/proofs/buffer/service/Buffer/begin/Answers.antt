use Rattle.std.proofs.Common.{inr}
use Rattle.tower_buffer.proofs.buffer.service.Buffer.begin.Goals as goal

pub returns-clause-begins : goal.returns-clause-begins
returns-clause-begins g c = inr (c.in-Ok.buffer, c.in-Ok.worker, c.in-Ok.ensures.made.pair, c.hand_over.ensures)
