use Rattle.futures.specs.Task.{Keeps}
use Rattle.tower_base.specs.Iterations.{Iterates}
use Rattle.tower_base.specs.Quiet.{Quiet}
use Rattle.tower_ware.specs.IterationsQuiet.{SomeStirs}
use Rattle.tower_ware.specs.Reconnect.{Iteration, Sound, StirsOnce, view_of}
use Rattle.tower_ware.proofs.reconnect.ReconnectService.poll_ready.Given as goal

abbrev pub invariant-loop-iteration : goal.invariant-loop-iteration
invariant-loop-iteration g l = record {
  went : Iterates (Iteration g.M.Service g.M.Future.Steps g.S.Service g.Target.Clone) l._iteration (view_of l.fn.self) (view_of l.self);
  sound : Sound g.M.Service g.M.Future.Steps g.M.Future.Steps.can_poll g.S.Service.sound (view_of l.self);
  quiet : Quiet (SomeStirs (Iteration g.M.Service g.M.Future.Steps g.S.Service g.Target.Clone)
      (StirsOnce g.M.Service g.M.Future.Steps g.S.Service g.Target.Clone) (view_of l.fn.self)) l.fn.cx l.cx;
  kept : Keeps l.fn.cx l.cx;
}
