use Rattle.std.specs.Prelude.{IfSome}
use Rattle.tower_bench.proofs.buffers.both.Given as goal

abbrev pub invariant-loop-number : goal.invariant-loop-number
invariant-loop-number g l = g.B.Service.sound l.buffer × IfSome l.worker g.W.Steps.can_poll
