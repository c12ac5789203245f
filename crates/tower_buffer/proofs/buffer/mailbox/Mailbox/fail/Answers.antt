use Rattle.std.proofs.Common.{◌+◌, refl, arith}
use Rattle.tower_buffer.specs.Mail.{holding}
use Rattle.tower_buffer.specs.MessageSteps.{queued}
use Rattle.tower_latch.specs.WaitList.{empty}
use Rattle.tower_limit.proofs.LineMoves.{empty_fits, stands_as}
use Rattle.tower_latch.proofs.WaitQueues.{empty_sizes}
use Rattle.tower_buffer.proofs.Closing.{closes}
use Rattle.tower_buffer.proofs.buffer.mailbox.Mailbox.fail.Goals as goal

pub invariant_of-self : goal.invariant_of-self
invariant_of-self g c =
    let old = c.args.self.now in
    let same = c.fail.ensures.queued in
    record {
      limit = old.limit;
      fits = omega (arith, old.fits, same);
      full = λ waits. omega (arith, old.full waits, same);
      room = omega (arith, old.room, c.fail.ensures.room.0, c.fail.ensures.room.1);
    }

pub invariant_of-self-2 : goal.invariant_of-self-2
invariant_of-self-2 g c =
    let old = c.args.self.now in
    let same = c.fail.ensures.queued in
    let w = empty_fits old.bound (old.reserved + queued c.fail.new.self) c.new.result (omega (arith, old.fits, same)) c.new.ensures.stands in
    let none = empty_sizes c.new.result c.new.ensures.stands in
    record {
      limit = old.limit;
      fits = w.fits;
      full = w.full;
      room = omega (arith, old.room, c.fail.ensures.room.0, c.fail.ensures.room.1, none.0, none.1);
    }

pub returns-then-not-fail-clause-follows : goal.returns-then-not-fail-clause-follows
returns-then-not-fail-clause-follows g c = λ messages line h s.
    let old = c.args.self.now in
    let u = c.if-not-fail.ensures.unknown refl in
    let k = u.0 messages h in (
      k.0,
      line,
      (k.1.0, rw (k.1.1, u.1) refl),
      k.2,
      stands_as old.bound (old.reserved + queued old.messages) (old.reserved + queued c.fail.new.self) old.queue line (omega (arith, c.fail.ensures.queued)) s,
    )

pub returns-clause-follows : goal.returns-clause-follows
returns-clause-follows g c = λ messages line h s.
    let old = c.args.self.now in
    let f = c.if-not-fail.ensures.fails refl in
    let k = f.0 messages h in
    let shut = closes _ _ _ line s.2 in (
      k.0,
      holding line,
      (k.1, rw f.1 refl),
      k.2,
      (empty, c.new.ensures.stands, (omega (arith, shut.0, c.fail.ensures.queued), shut.1, shut.2)),
    )
