use Rattle.std.proofs.Common.{◌<◌, ◌-◌, ◌+◌, inr, refl, arith}
use Rattle.tower_latch.specs.declared.Wakes.{Wakes}
use Rattle.tower_buffer.specs.MessageSteps.{queued}
use Rattle.tower_limit.proofs.LineMoves.{stands_as}
use Rattle.tower_buffer.proofs.MailOnes.{same_one, worker_goes}
use Rattle.tower_buffer.proofs.buffer.mailbox.Mailbox.send.Goals as goal

pub returns-clause-follows : goal.returns-clause-follows
returns-clause-follows g c = λ messages line h s.
    let old = c.args.self.now in
    let some : 0 < old.reserved = omega (arith, c.if-self-eq0.false) in
    let k = c.push-id.ensures.follows messages h in (
      k.0,
      line,
      (some, c.if-not-self.false, k.1.0, rw (k.1.1, c.push-id.ensures.stored) refl),
      k.2,
      stands_as old.bound (old.reserved + queued old.messages) (old.reserved - 1 + queued c.push-id.new.self) old.queue line (omega (arith, c.push-id.ensures.queued, some)) s,
    )

pub invariant_of-self : goal.invariant_of-self
invariant_of-self g c =
    let old = c.args.self.now in
    let some : 0 < old.reserved = omega (arith, c.if-self-eq0.false) in
    record {
      limit = old.limit;
      fits = omega (arith, old.fits, some, c.push-id.ensures.queued);
      full = λ waits. omega (arith, old.full waits, some, c.push-id.ensures.queued);
      room = omega (arith, old.room, some, c.push-id.ensures.room.0, c.push-id.ensures.room.1);
    }

pub returns-clause-one : goal.returns-clause-one
returns-clause-one g c = worker_goes _ _ _ _ _ (Wakes.One 0) (λ key e. (inr (omega (arith, c.push-id.ensures.queued)), same_one 0 key e))
