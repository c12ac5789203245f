use Rattle.std.proofs.Common.{◌≡◌, ◌⊎◌}
use Rattle.futures.specs.Task.{Keeps}
use Rattle.tower_base.specs.Iterations.{Iterates}
use Rattle.tower_base.specs.Quiet.{Ever, Quiet}
use Rattle.tower_buffer.specs.Worker.{Iteration}
use Rattle.tower_buffer.proofs.buffer.worker.Worker.iterate.Given as goal

abbrev pub invariant-loop-iteration : goal.invariant-loop-iteration
invariant-loop-iteration g l = record {
  went : Iterates (Iteration g.L.Latch.gave g.S.Service) l._iteration l.fn.self l.self;
  sound : g.S.Service.sound l.self.service;
  same : l.self.latch ≡ l.fn.self.latch;
  quiet : Quiet (g.L.Latch.stirs l.fn.self.latch ⊎ Ever g.S.Service.stirs) l.fn.cx l.cx;
  kept : Keeps l.fn.cx l.cx;
}
