use Rattle.futures.specs.Task.{Keeps}
use Rattle.std.proofs.Common.{◌≡◌}
use Rattle.tower_base.specs.Iterations.{Iterates}
use Rattle.tower_base.specs.Quiet.{Quiet}
use Rattle.tower_pool.specs.SpawnReady.{Begins, Iteration, IterationStirs, Sound, view_of}
use Rattle.tower_pool.proofs.spawn_ready.service.SpawnReady.go_on.Given as goal

abbrev pub invariant-loop-iteration : goal.invariant-loop-iteration
invariant-loop-iteration g l = record {
  went : (start : _) → Begins g.S.Service start l.fn.polled (view_of l.fn.self)
      → Iterates (Iteration g.S.Service g.L.Latch g.X.Executor) l._iteration start (view_of l.self);
  sound : Sound g.S.Service.sound g.X.Executor (view_of l.self);
  latch : l.self.latch ≡ l.fn.self.latch;
  quiet : Quiet (IterationStirs g.S.Service g.L.Latch g.X.Executor g.L.Latch.stirs l.self.latch) l.fn.cx l.cx;
  kept : Keeps l.fn.cx l.cx;
}
