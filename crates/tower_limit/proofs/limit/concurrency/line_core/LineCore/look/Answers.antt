use Rattle.std.proofs.Common.{refl, arith}
use Rattle.tower_limit.proofs.LineMoves.{Fits, nobody, nobody_fits, sees, sees_fits, waits_on, waits_on_fits}
use Rattle.tower_latch.proofs.WaitQueues.{saw_one, saw_waiting}
use Rattle.tower_limit.proofs.limit.concurrency.line_core.LineCore.look.Goals as goal

pub overflow_add-self : goal.overflow_add-self
overflow_add-self c =
    let old = c.args.self.now in
    omega (arith, old.limit, old.fits, (saw_one old.queue c.look.new.self c.args.key c.in-Granted.ensures.follows).0)

pub invariant_of-self : goal.invariant_of-self
invariant_of-self c =
    let old = c.args.self.now in
    let was : Fits old.max old.held old.queue = record { fits = old.fits; full = old.full } in
    let w = sees_fits old.max old.held old.queue c.look.new.self was c.args.key c.in-Granted.ensures.follows in
    record { limit = c.args.self.now.limit; fits = w.fits; full = w.full }

pub returns-in-Granted-clause-follows : goal.returns-in-Granted-clause-follows
returns-in-Granted-clause-follows c = record {
  same = refl;
  goes = λ line s. sees c.args.self.now.max c.args.self.now.held c.args.self.now.queue line s c.look.new.self c.args.key c.in-Granted.ensures.follows c.args.self.now.fits;
  excused = tt;
  room = omega (arith, c.look.ensures.room);
  few = omega (arith, c.look.ensures.touches);
}

pub invariant_of-self-in-Waiting : goal.invariant_of-self-in-Waiting
invariant_of-self-in-Waiting c =
    let old = c.args.self.now in
    let was : Fits old.max old.held old.queue = record { fits = old.fits; full = old.full } in
    let w = waits_on_fits old.max old.held old.queue c.look.new.self was c.args.key c.in-Waiting.ensures.follows in
    record { limit = c.args.self.now.limit; fits = w.fits; full = w.full }

pub returns-in-Waiting-clause-follows : goal.returns-in-Waiting-clause-follows
returns-in-Waiting-clause-follows c = record {
  same = refl;
  goes = λ line s.
      let all = c.args.self.now.full (saw_waiting c.args.self.now.queue c.look.new.self c.args.key c.in-Waiting.ensures.follows).0 in
      waits_on c.args.self.now.max c.args.self.now.held c.args.self.now.queue line s c.look.new.self c.args.key c.in-Waiting.ensures.follows (omega (arith, all));
  excused = tt;
  room = omega (arith, c.look.ensures.room);
  few = omega (arith, c.look.ensures.touches);
}

pub invariant_of-self-in-Unknown : goal.invariant_of-self-in-Unknown
invariant_of-self-in-Unknown c =
    let old = c.args.self.now in
    let was : Fits old.max old.held old.queue = record { fits = old.fits; full = old.full } in
    let w = nobody_fits old.max old.held old.queue c.look.new.self was c.args.key c.in-Unknown.ensures.follows in
    record { limit = c.args.self.now.limit; fits = w.fits; full = w.full }

pub returns-in-Unknown-clause-follows : goal.returns-in-Unknown-clause-follows
returns-in-Unknown-clause-follows c = record {
  same = refl;
  goes = λ line s. nobody c.args.self.now.max c.args.self.now.held c.args.self.now.queue line s c.look.new.self c.args.key c.in-Unknown.ensures.follows;
  excused = tt;
  room = omega (arith, c.look.ensures.room);
  few = omega (arith, c.look.ensures.touches);
}
