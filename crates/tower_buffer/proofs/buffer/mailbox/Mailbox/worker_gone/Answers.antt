use Rattle.std.proofs.Common.{◌≡◌, ◌+◌, ◌∙◌, length, refl, sym, ap, arith}
use Rattle.tower_buffer.specs.Mail.{holding, queued as queued_of}
use Rattle.tower_buffer.specs.MessageSteps.{queued}
use Rattle.tower_buffer.proofs.Abandoned.{queued_length}
use Rattle.tower_latch.specs.WaitList.{empty}
use Rattle.tower_limit.proofs.LineMoves.{empty_fits}
use Rattle.tower_latch.proofs.WaitQueues.{empty_sizes}
use Rattle.tower_buffer.proofs.Closing.{closes, leave}
use Rattle.tower_buffer.proofs.buffer.mailbox.Mailbox.worker_gone.Goals as goal

pub invariant_of-self : goal.invariant_of-self
invariant_of-self g c =
    let old = c.args.self.now in
    let w = empty_fits old.bound (old.reserved + queued c.abandon.new.self) c.new.result (omega (arith, old.fits, c.abandon.ensures.queued)) c.new.ensures.stands in
    let none = empty_sizes c.new.result c.new.ensures.stands in
    record {
      limit = old.limit;
      fits = w.fits;
      full = w.full;
      room = omega (arith, old.room, c.abandon.ensures.room.0, c.abandon.ensures.room.1, none.0, none.1);
    }

pub returns-clause-follows : goal.returns-clause-follows
returns-clause-follows g c = λ messages line h s.
    let old = c.args.self.now in
    let k = c.abandon.ensures.follows messages h in
    let shut = closes _ _ _ line s.2 in
    let all : queued_of messages ≡ queued old.messages = queued_length messages ∙ ap length (sym h.order) in
    let r = leave _ _ old.reserved _ (holding line) (omega (arith, shut.0, all), shut.1, shut.2) in (
      k.0,
      r.0,
      (r.1, rw (k.1, c.abandon.ensures.stored) refl),
      k.2,
      (empty, c.new.ensures.stands, (omega (arith, r.2.0, c.abandon.ensures.queued), r.2.1, r.2.2)),
    )
