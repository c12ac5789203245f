use Rattle.std.proofs.Common.{refl, arith}
use Rattle.tower_limit.proofs.LineMoves.{Fits, enters, enters_fits, joins, no_memory}
use Rattle.tower_latch.proofs.WaitQueues.{full_room}
use Rattle.tower_limit.proofs.limit.concurrency.line_core.LineCore.join.Goals as goal

pub returns-then-self-granted-clause-follows : goal.returns-then-self-granted-clause-follows
returns-then-self-granted-clause-follows c = record {
  same = refl;
  goes = λ line s. joins c.args.self.now.max c.args.self.now.held c.args.self.now.queue line s (omega (arith, c.granted.ensures, c.if-self-granted.true)) c.args.self.now.full;
  excused = tt;
  room = omega arith;
  few = omega arith;
}

pub invariant_of-self-2 : goal.invariant_of-self-2
invariant_of-self-2 c =
    let old = c.args.self.now in
    let was : Fits old.max old.held old.queue = record { fits = old.fits; full = old.full } in
    let w = enters_fits old.max old.held old.queue c.wait.new.self was c.wait.result c.wait.ensures.follows (omega (arith, c.granted.ensures, c.if-self-granted.false)) in
    record { limit = c.args.self.now.limit; fits = w.fits; full = w.full }

pub returns-in-Ok-clause-follows : goal.returns-in-Ok-clause-follows
returns-in-Ok-clause-follows c = record {
  same = refl;
  goes = λ line s. enters c.args.self.now.max c.args.self.now.held c.args.self.now.queue line s c.wait.new.self c.in-Ok.key c.in-Ok.ensures.follows (omega (arith, c.granted.ensures, c.if-self-granted.false));
  excused = tt;
  room = c.wait.ensures.room;
  few = omega (arith, c.wait.ensures.touches);
}

pub returns-in-Err-clause-follows : goal.returns-in-Err-clause-follows
returns-in-Err-clause-follows c = record {
  same = refl;
  goes = λ line s. no_memory c.args.self.now.max c.args.self.now.held c.args.self.now.queue line s c.wait.new.self _ c.in-Err.ensures.follows (omega (arith, c.granted.ensures, c.if-self-granted.false));
  excused = full_room _ _ (λ less. c.in-Err.ensures.succeeds (omega (arith, less)));
  room = c.wait.ensures.room;
  few = omega (arith, c.wait.ensures.touches);
}
