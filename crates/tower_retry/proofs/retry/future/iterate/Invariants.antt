use Rattle.futures.specs.Task.{Keeps}
use Rattle.tower_base.specs.Iterations.{Iterates}
use Rattle.tower_base.specs.Quiet.{Quiet}
use Rattle.tower_retry.specs.Retry.{Iteration, Sound, Stirred}
use Rattle.tower_retry.proofs.retry.future.iterate.Given as goal

abbrev pub invariant-loop-iteration : goal.invariant-loop-iteration
invariant-loop-iteration g l = record {
  went : Iterates (Iteration g.S.Service g.S.Future.Steps.stepped g.P.Policy g.P.Future.Steps.stepped) l._iteration l.fn.attempts l.attempts;
  sound : Sound g.P.Policy.sound g.S.Service.sound g.S.Future.Steps.can_poll g.P.Future.Steps.can_poll l.attempts;
  quiet : Quiet (Stirred g.S.Service g.S.Future.Steps.stepped g.P.Policy g.P.Future.Steps.stepped g.S.Future.Steps.stirs g.P.Future.Steps.stirs l.fn.attempts) l.fn.cx l.cx;
  kept : Keeps l.fn.cx l.cx;
}
