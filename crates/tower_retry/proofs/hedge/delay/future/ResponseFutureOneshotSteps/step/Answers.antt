use Rattle.std.proofs.Common.{refl}
use Rattle.futures.specs.declared.task.Poll.TheVariants.{Ready, Pending}
use Rattle.tower_retry.proofs.hedge.delay.future.ResponseFutureOneshotSteps.step.Goals as goal

pub returns-in-Pending-clause-step : goal.returns-in-Pending-clause-step
returns-in-Pending-clause-step g c = rw (← c.self.view_is, c.in-Delaying.is) (Pending, c.step.new.self, rw c.in-Pending.is at c.step.ensures.step, (refl, refl))

pub returns-in-Ready-clause-step : goal.returns-in-Ready-clause-step
returns-in-Ready-clause-step g c = rw (← c.self.view_is, c.in-Delaying.is) (Ready tt, c.step.new.self, rw c.in-Ready.is at c.step.ensures.step, c.begin.ensures.begun)
