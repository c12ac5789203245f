use Rattle.std.proofs.Common.{◌+◌, inl, inr, refl, arith}
use Rattle.tower_buffer.specs.MessageSteps.{queued}
use Rattle.tower_limit.proofs.LineMoves.{Fits, leaves_fits, leaves_line, nobody_left}
use Rattle.tower_latch.proofs.WaitQueues.{left_size}
use Rattle.tower_buffer.proofs.MailNames.{tickets_named}
use Rattle.tower_buffer.proofs.MailOnes.{named_goes, ticket_goes}
use Rattle.tower_buffer.proofs.buffer.mailbox.Mailbox.cancel.Goals as goal

pub returns-then-has_left-clause-follows : goal.returns-then-has_left-clause-follows
returns-then-has_left-clause-follows g c = λ messages line p s.
    let old = c.args.self.now in
    let r = leaves_line old.bound (old.reserved + queued old.messages) old.queue line s c.leave-has_left.new.self c.args.key (rw c.if-has_left.true at c.leave-has_left.ensures.follows) in
    (messages, r.0, inr (c.if-self.false, r.1, refl), p, r.2)

pub invariant_of-self : goal.invariant_of-self
invariant_of-self g c =
    let old = c.args.self.now in
    let was : Fits old.bound (old.reserved + queued old.messages) old.queue = record { fits = old.fits; full = old.full } in
    let w = leaves_fits old.bound (old.reserved + queued old.messages) old.queue c.leave-has_left.new.self was c.args.key c.leave-has_left.result.0 c.leave-has_left.ensures.follows in
    record {
      limit = old.limit;
      fits = w.fits;
      full = w.full;
      room = omega (arith, old.room, left_size old.queue c.leave-has_left.new.self c.args.key c.leave-has_left.result.0 c.leave-has_left.ensures.follows);
    }

pub returns-clause-follows : goal.returns-clause-follows
returns-clause-follows g c = λ messages line p s.
    let old = c.args.self.now in
    let r = nobody_left old.bound (old.reserved + queued old.messages) old.queue line s c.leave-has_left.new.self c.args.key (rw c.if-has_left.false at c.leave-has_left.ensures.follows) in
    (messages, r.0, (c.if-self.false, r.1, rw r.1.1 refl), p, r.2)

pub returns-then-has_left-clause-names : goal.returns-then-has_left-clause-names
returns-then-has_left-clause-names g c = (λ s. inl s, tickets_named _ _ _ _ _ c.leave-has_left.ensures.names.0 c.named-wakes.ensures.named)

pub returns-clause-names : goal.returns-clause-names
returns-clause-names g c = (λ s. inl s, tickets_named _ _ _ _ _ c.leave-has_left.ensures.names.0 c.named-wakes.ensures.named)

pub returns-then-has_left-clause-pending : goal.returns-then-has_left-clause-pending
returns-then-has_left-clause-pending g c = λ key e. absurd (c.named-wakes.ensures.waits key e)

pub returns-clause-pending : goal.returns-clause-pending
returns-clause-pending g c = λ key e. absurd (c.named-wakes.ensures.waits key e)

pub returns-then-has_left-clause-one : goal.returns-then-has_left-clause-one
returns-then-has_left-clause-one g c =
    ticket_goes _ _ _ _ _ c.named-wakes.result (named_goes c.leave-has_left.new.self c.leave-has_left.result.1 c.named-wakes.result c.named-wakes.ensures.one c.leave-has_left.ensures.one)

pub returns-clause-one : goal.returns-clause-one
returns-clause-one g c =
    ticket_goes _ _ _ _ _ c.named-wakes.result (named_goes c.leave-has_left.new.self c.leave-has_left.result.1 c.named-wakes.result c.named-wakes.ensures.one c.leave-has_left.ensures.one)

pub returns-then-has_left-clause-most : goal.returns-then-has_left-clause-most
returns-then-has_left-clause-most g c = let t = c.named-wakes.ensures.most c.args.self.now.queue c.leave-has_left.new.self c.leave-has_left.ensures.most in ((λ e. absurd (t.0 e)), t.1)

pub returns-clause-most : goal.returns-clause-most
returns-clause-most g c = let t = c.named-wakes.ensures.most c.args.self.now.queue c.leave-has_left.new.self c.leave-has_left.ensures.most in ((λ e. absurd (t.0 e)), t.1)
