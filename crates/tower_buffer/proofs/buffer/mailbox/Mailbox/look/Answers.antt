use Rattle.std.proofs.Common.{◌+◌, ◌∙◌, refl, sym, arith}
use Rattle.tower_buffer.specs.MailWakes.{Waiter}
use Rattle.tower_buffer.specs.MessageSteps.{queued}
use Rattle.tower_limit.proofs.LineMoves.{Fits, nobody, nobody_fits, sees, sees_fits, stands_as, waits_on, waits_on_fits}
use Rattle.tower_latch.proofs.WaitQueues.{saw_nobody, saw_one, saw_waiting}
use Rattle.tower_buffer.proofs.MailNames.{same_key}
use Rattle.tower_buffer.proofs.buffer.mailbox.Mailbox.look.Goals as goal

pub overflow_add-self : goal.overflow_add-self
overflow_add-self g c =
    let old = c.args.self.now in
    omega (arith, old.limit, old.fits, (saw_one old.queue c.look.new.self c.args.key c.in-Granted.ensures.follows).0)

pub invariant_of-self : goal.invariant_of-self
invariant_of-self g c =
    let old = c.args.self.now in
    let was : Fits old.bound (old.reserved + queued old.messages) old.queue = record { fits = old.fits; full = old.full } in
    let f = sees_fits old.bound (old.reserved + queued old.messages) old.queue c.look.new.self was c.args.key c.in-Granted.ensures.follows in
    let one = saw_one old.queue c.look.new.self c.args.key c.in-Granted.ensures.follows in
    record {
      limit = old.limit;
      fits = omega (arith, f.fits);
      full = λ waits. omega (arith, f.full waits);
      room = omega (arith, old.room, one.0, one.1);
    }

pub returns-in-Granted-clause-follows : goal.returns-in-Granted-clause-follows
returns-in-Granted-clause-follows g c = λ messages line p s.
    let old = c.args.self.now in
    let r = sees old.bound (old.reserved + queued old.messages) old.queue line s c.look.new.self c.args.key c.in-Granted.ensures.follows old.fits in
    (messages, r.0, (c.if-self.false, r.1, refl), p, stands_as old.bound (old.reserved + queued old.messages + 1) (old.reserved + 1 + queued old.messages) c.look.new.self r.0 (omega arith) r.2)

pub invariant_of-self-in-Waiting : goal.invariant_of-self-in-Waiting
invariant_of-self-in-Waiting g c =
    let old = c.args.self.now in
    let was : Fits old.bound (old.reserved + queued old.messages) old.queue = record { fits = old.fits; full = old.full } in
    let w = waits_on_fits old.bound (old.reserved + queued old.messages) old.queue c.look.new.self was c.args.key c.in-Waiting.ensures.follows in
    let same = (saw_waiting old.queue c.look.new.self c.args.key c.in-Waiting.ensures.follows).1 in
    record {
      limit = old.limit;
      fits = w.fits;
      full = w.full;
      room = omega (arith, old.room, same.0, same.1);
    }

pub returns-in-Waiting-clause-follows : goal.returns-in-Waiting-clause-follows
returns-in-Waiting-clause-follows g c = λ messages line p s.
    let old = c.args.self.now in
    let all = old.full (saw_waiting old.queue c.look.new.self c.args.key c.in-Waiting.ensures.follows).0 in
    let r = waits_on old.bound (old.reserved + queued old.messages) old.queue line s c.look.new.self c.args.key c.in-Waiting.ensures.follows (omega (arith, all)) in
    (messages, r.0, (c.if-self.false, r.1, rw r.1.4 refl), p, r.2)

pub invariant_of-self-in-Unknown : goal.invariant_of-self-in-Unknown
invariant_of-self-in-Unknown g c =
    let old = c.args.self.now in
    let was : Fits old.bound (old.reserved + queued old.messages) old.queue = record { fits = old.fits; full = old.full } in
    let w = nobody_fits old.bound (old.reserved + queued old.messages) old.queue c.look.new.self was c.args.key c.in-Unknown.ensures.follows in
    let same = saw_nobody old.queue c.look.new.self c.args.key c.in-Unknown.ensures.follows in
    record {
      limit = old.limit;
      fits = w.fits;
      full = w.full;
      room = omega (arith, old.room, same.0, same.1);
    }

pub returns-in-Unknown-clause-follows : goal.returns-in-Unknown-clause-follows
returns-in-Unknown-clause-follows g c = λ messages line p s.
    let old = c.args.self.now in
    let r = nobody old.bound (old.reserved + queued old.messages) old.queue line s c.look.new.self c.args.key c.in-Unknown.ensures.follows in
    (messages, r.0, (c.if-self.false, r.1, rw r.1.1 refl), p, r.2)

pub returns-in-Waiting-clause-pending : goal.returns-in-Waiting-clause-pending
returns-in-Waiting-clause-pending g c = λ at e. (Waiter.ticket c.args.key, sym c.ticket.ensures ∙ same_key _ at e, (c.if-self.false, c.look.ensures.stalls c.in-Waiting.is))
