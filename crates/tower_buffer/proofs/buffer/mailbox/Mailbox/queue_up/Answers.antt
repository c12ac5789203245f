use Rattle.std.proofs.Common.{◌+◌, ◌∙◌, inl, refl, sym, arith}
use Rattle.tower_buffer.specs.MailWakes.{Waiter}
use Rattle.tower_buffer.specs.MessageSteps.{queued}
use Rattle.tower_limit.proofs.LineMoves.{Fits, enters, enters_fits, no_memory}
use Rattle.tower_latch.proofs.WaitQueues.{entered_size, full_room}
use Rattle.tower_buffer.proofs.MailNames.{same_key}
use Rattle.tower_buffer.proofs.buffer.mailbox.Mailbox.queue_up.Goals as goal

pub invariant_of-self : goal.invariant_of-self
invariant_of-self g c =
    let old = c.args.self.now in
    let was : Fits old.bound (old.reserved + queued old.messages) old.queue = record { fits = old.fits; full = old.full } in
    let w = enters_fits old.bound (old.reserved + queued old.messages) old.queue c.wait.new.self was c.wait.result c.wait.ensures.follows c.requires.full in
    record {
      limit = old.limit;
      fits = w.fits;
      full = w.full;
      room = omega (arith, c.requires.room, entered_size old.queue c.wait.new.self c.wait.result c.wait.ensures.follows);
    }

pub returns-in-Ok-clause-follows : goal.returns-in-Ok-clause-follows
returns-in-Ok-clause-follows g c = λ messages line p s.
    let old = c.args.self.now in
    let r = enters old.bound (old.reserved + queued old.messages) old.queue line s c.wait.new.self c.in-Ok.key c.in-Ok.ensures.follows c.requires.full in
    (messages, r.0, (c.requires.closed, r.1, refl), p, r.2)

pub returns-in-Err-clause-follows : goal.returns-in-Err-clause-follows
returns-in-Err-clause-follows g c = λ messages line p s.
    let old = c.args.self.now in
    let r = no_memory old.bound (old.reserved + queued old.messages) old.queue line s c.wait.new.self _ c.in-Err.ensures.follows c.requires.full in
    (messages, r.0, (inl c.requires.closed, rw r.1.1 refl), p, r.2)

pub returns-in-Err-clause-excused : goal.returns-in-Err-clause-excused
returns-in-Err-clause-excused g c = λ same. full_room _ _ (λ less. c.in-Err.ensures.succeeds (omega (arith, less)))

pub returns-in-Ok-clause-pending : goal.returns-in-Ok-clause-pending
returns-in-Ok-clause-pending g c = λ at e. (Waiter.ticket c.in-Ok.key, sym c.ticket.ensures ∙ same_key _ at e, (c.requires.closed, c.in-Ok.ensures.stalls))
