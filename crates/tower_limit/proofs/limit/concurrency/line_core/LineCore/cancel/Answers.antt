use Rattle.std.proofs.Common.{refl, arith}
use Rattle.tower_limit.proofs.LineMoves.{Fits, leaves_fits, leaves_line, nobody_left}
use Rattle.tower_limit.proofs.limit.concurrency.line_core.LineCore.cancel.Goals as goal

pub returns-then-has_left-clause-follows : goal.returns-then-has_left-clause-follows
returns-then-has_left-clause-follows c = record {
  same = refl;
  goes = λ line s. leaves_line c.args.self.now.max c.args.self.now.held c.args.self.now.queue line s c.leave-has_left.new.self c.args.key (rw c.if-has_left.true at c.leave-has_left.ensures.follows);
  excused = tt;
  room = omega (arith, c.leave-has_left.ensures.room);
  few = omega (arith, c.leave-has_left.ensures.touches);
}

pub invariant_of-self : goal.invariant_of-self
invariant_of-self c =
    let old = c.args.self.now in
    let was : Fits old.max old.held old.queue = record { fits = old.fits; full = old.full } in
    let w = leaves_fits old.max old.held old.queue c.leave-has_left.new.self was c.args.key c.leave-has_left.result.0 c.leave-has_left.ensures.follows in
    record { limit = c.args.self.now.limit; fits = w.fits; full = w.full }

pub returns-clause-follows : goal.returns-clause-follows
returns-clause-follows c = record {
  same = refl;
  goes = λ line s. nobody_left c.args.self.now.max c.args.self.now.held c.args.self.now.queue line s c.leave-has_left.new.self c.args.key (rw c.if-has_left.false at c.leave-has_left.ensures.follows);
  excused = tt;
  room = omega (arith, c.leave-has_left.ensures.room);
  few = omega (arith, c.leave-has_left.ensures.touches);
}
