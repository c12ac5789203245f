use Rattle.std.proofs.Common.{◌<◌, ◌-◌, refl, arith}
use Rattle.tower_limit.proofs.LineMoves.{admits, admits_fits, none_held, positive, returned}
use Rattle.tower_limit.proofs.limit.concurrency.line_core.LineCore.release.Goals as goal

pub returns-then-self-eq0-clause-follows : goal.returns-then-self-eq0-clause-follows
returns-then-self-eq0-clause-follows c = record {
  same = refl;
  goes = λ line s. (line, none_held c.args.self.now.max c.args.self.now.held c.args.self.now.queue line s c.if-self-eq0.true, s);
  excused = tt;
  room = omega arith;
  few = omega arith;
}

pub invariant_of-self : goal.invariant_of-self
invariant_of-self c =
    let old = c.args.self.now in
    let some : 0 < old.held = positive old.held c.if-self-eq0.false in
    let w = admits_fits old.max (old.held - 1) old.queue c.admit.new.self (record { fits = omega (arith, old.fits, some); full = λ waits. omega (arith, old.full waits, some) }) c.admit.ensures.follows in
    record { limit = c.args.self.now.limit; fits = w.fits; full = w.full }

pub returns-clause-follows : goal.returns-clause-follows
returns-clause-follows c = record {
  same = refl;
  goes = λ line s.
      let old = c.args.self.now in
      let r = returned old.max old.held old.queue line s (positive old.held c.if-self-eq0.false) in
      (r.0, r.1, admits old.max (old.held - 1) old.queue r.0 r.2 c.admit.new.self c.admit.ensures.follows);
  excused = tt;
  room = omega (arith, c.admit.ensures.room);
  few = omega (arith, c.admit.ensures.touches);
}
