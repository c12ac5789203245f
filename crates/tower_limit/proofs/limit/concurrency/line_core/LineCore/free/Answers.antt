use Rattle.std.proofs.Common.{refl, arith}
use Rattle.tower_limit.proofs.LineMoves.{counts}
use Rattle.tower_limit.proofs.limit.concurrency.line_core.LineCore.free.Goals as goal

pub returns : goal.returns
returns c = record {
  same = refl;
  goes = λ line s. (line, counts c.args.self.now.max c.args.self.now.held c.args.self.now.queue line s _ (omega (arith, c.granted.ensures)) c.args.self.now.full, s);
  excused = tt;
  room = omega arith;
  few = omega arith;
}
