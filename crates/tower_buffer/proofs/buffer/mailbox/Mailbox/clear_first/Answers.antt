use Rattle.std.proofs.Common.{◌+◌, ◌-◌, refl, arith}
use Rattle.tower_buffer.specs.MessageSteps.{queued}
use Rattle.tower_limit.proofs.LineMoves.{admits, admits_fits, returned, stands_as}
use Rattle.tower_latch.proofs.WaitQueues.{admits_size}
use Rattle.tower_buffer.proofs.MailOnes.{named_goes}
use Rattle.tower_buffer.proofs.buffer.mailbox.Mailbox.clear_first.Goals as goal

pub invariant_of-self : goal.invariant_of-self
invariant_of-self g c =
    let old = c.args.self.now in
    let less = c.clear.ensures.queued in
    let w = admits_fits old.bound (old.reserved + queued c.clear.new.self) old.queue c.admit.new.self (record { fits = omega (arith, old.fits, less); full = λ waits. omega (arith, old.full waits, less) }) c.admit.ensures.follows in
    let same = admits_size old.queue c.admit.new.self c.admit.ensures.follows in
    record {
      limit = old.limit;
      fits = w.fits;
      full = w.full;
      room = omega (arith, old.room, same, c.clear.ensures.room.0, c.clear.ensures.room.1);
    }

pub returns-clause-clears : goal.returns-clause-clears
returns-clause-clears g c = λ messages line h s.
    let old = c.args.self.now in
    let less = c.clear.ensures.queued in
    let k = c.clear.ensures.follows messages h in
    let r = returned old.bound (old.reserved + queued old.messages) old.queue line s (omega (arith, less)) in (
      k.0,
      r.0,
      (k.1.0, k.1.1, k.1.2, k.1.3, k.1.4, r.1, rw (k.1.5, c.clear.ensures.stored) refl),
      k.2,
      admits old.bound (old.reserved + queued c.clear.new.self) old.queue r.0
          (stands_as old.bound (old.reserved + queued old.messages - 1) (old.reserved + queued c.clear.new.self) old.queue r.0 (omega (arith, less)) r.2)
          c.admit.new.self c.admit.ensures.follows,
    )

pub returns-clause-one : goal.returns-clause-one
returns-clause-one g c = named_goes c.admit.new.self c.admit.result c.named.result c.named.ensures.one c.admit.ensures.one

pub returns-clause-most : goal.returns-clause-most
returns-clause-most g c = c.named.ensures.most c.args.self.now.queue c.admit.new.self c.admit.ensures.most
