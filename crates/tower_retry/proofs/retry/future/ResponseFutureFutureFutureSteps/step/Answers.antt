use Rattle.std.proofs.Common.{refl}
use Rattle.tower_retry.proofs.retry.future.ResponseFutureFutureFutureSteps.step.Goals as goal

pub returns-clause-step : goal.returns-clause-step
returns-clause-step g c = rw (← c.self.view_is, c.in-Some.is) (c.iterate.new.attempts, refl, c.iterate.ensures.iterations)
