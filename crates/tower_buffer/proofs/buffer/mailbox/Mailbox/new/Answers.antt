use Rattle.std.proofs.Common.{length, refl, ap, arith}
use Rattle.tower_latch.specs.WaitList.{empty}
use Rattle.tower_buffer.proofs.buffer.mailbox.Mailbox.new.Goals as goal

pub returns : goal.returns
returns g c = (
  c.new-2.ensures.holds,
  (empty, c.new.ensures.stands, (omega (arith, ap length c.new-2.ensures.holds.order), refl, tt)),
  rw c.new-2.ensures.stored refl,
)
