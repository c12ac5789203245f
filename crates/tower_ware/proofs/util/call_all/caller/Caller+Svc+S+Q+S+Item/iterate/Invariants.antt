use Rattle.std.proofs.Common.{◌≡◌, IsSomeAnd, false}
use Rattle.futures.specs.Task.{Keeps}
use Rattle.tower_base.specs.Iterations.{Iterates}
use Rattle.tower_base.specs.Quiet.{Quiet}
use Rattle.tower_ware.specs.IterationsQuiet.{SomeStirs}
use Rattle.tower_ware.specs.CallAll.{Iteration, StirsOnce, view_of}
use Rattle.tower_ware.proofs.util.call_all.caller.Caller+Svc+S+Q+S+Item.iterate.Given as goal

abbrev pub invariant-loop-iteration : goal.invariant-loop-iteration
invariant-loop-iteration g l = record {
  there : IsSomeAnd l.self.service g.Svc.Service.sound;
  queue : g.Q.CallQueue.sound l.self.queue;
  flow : l.self.ended ≡ false → g.S.Stream.can_poll l.self.requests;
  went : Iterates (Iteration g.Svc.Service g.S.Flow g.Q.CallQueue)
      l._iteration (view_of l.fn.self) (view_of l.self);
  quiet : Quiet (SomeStirs (Iteration g.Svc.Service g.S.Flow g.Q.CallQueue) (StirsOnce g.Svc.Service g.S.Flow g.Q.CallQueue)
      (view_of l.fn.self)) l.fn.cx l.cx;
  kept : Keeps l.fn.cx l.cx;
}
