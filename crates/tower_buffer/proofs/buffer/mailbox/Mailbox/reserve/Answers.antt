use Rattle.std.proofs.Common.{◌≡◌, ◌+◌, refl, subst, arith}
use Rattle.tower_buffer.specs.Mail.{Mail, MailSteps}
use Rattle.tower_buffer.specs.Mailbox.{plain_of}
use Rattle.tower_buffer.specs.declared.buffer.mail.MailStep.TheVariants.{Reserve}
use Rattle.tower_buffer.specs.MessageSteps.{queued}
use Rattle.tower_limit.proofs.LineMoves.{joins, stands_as}
use Rattle.tower_buffer.proofs.buffer.mailbox.Mailbox.reserve.Goals as goal

pub invariant_of-self : goal.invariant_of-self
invariant_of-self g c =
    let old = c.args.self.now in
    let same = c.reserve.ensures.same in
    record {
      limit = old.limit;
      fits = omega (arith, old.fits, same.0);
      full = λ waits. omega (arith, old.full waits, same.0);
      room = omega (arith, old.room, same.1, c.reserve.ensures.capacity);
    }

pub returns-then-free-gt0-clause-follows : goal.returns-then-free-gt0-clause-follows
returns-then-free-gt0-clause-follows g c = λ messages line h s.
    let old = c.args.self.now in
    let now = c.reserve.new.self in
    let same = c.reserve.ensures.same in
    let k = c.reserve.ensures.follows messages h in
    let r = joins old.bound (old.reserved + queued old.messages) old.queue line s (omega (arith, c.free.ensures, c.if-free-gt0.true, same.0)) old.full in (
      k.0,
      r.0,
      (c.if-self.false, r.1, rw (k.1, same.2) refl),
      k.2,
      stands_as old.bound (old.reserved + queued old.messages + 1) (old.reserved + 1 + queued now) old.queue r.0 (omega (arith, same.0)) r.2,
    )

pub returns-clause-follows : goal.returns-clause-follows
returns-clause-follows g c = λ messages line h s.
    let old = c.args.self.now in
    let now = c.reserve.new.self in
    let same = c.reserve.ensures.same in
    let k = c.reserve.ensures.follows messages h in
    let r = c.queue_up.ensures.follows k.0 line k.2 (stands_as old.bound (old.reserved + queued old.messages) (old.reserved + queued now) old.queue line (omega (arith, same.0)) s) in
    let as_was : record (plain_of old k.0 line) { stored = now.stored } ≡ plain_of old messages line = rw (k.1, same.2) refl in
    (r.0, r.1, subst (λ (mail : Mail _ _ _). MailSteps mail Reserve c.queue_up.result.0 (plain_of c.queue_up.new.self r.0 r.1)) as_was r.2, r.3, r.4)
