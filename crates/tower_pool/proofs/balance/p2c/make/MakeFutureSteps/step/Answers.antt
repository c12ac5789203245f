use Rattle.std.proofs.Common.{Ok, Err, ap, sym, ◌∙◌}
use Rattle.futures.specs.declared.task.Poll.TheVariants.{Ready, Pending}
use Rattle.tower_pool.specs.declared.balance.p2c.make.State.TheVariants.{Asked}
use Rattle.tower_pool.proofs.MakeLemmas.{draws_by, stepped_asked}
use Rattle.tower_pool.proofs.balance.p2c.make.MakeFutureSteps.step.Goals as goal
use Rattle.tower_pool.proofs.balance.p2c.make.MakeFutureSteps.step.Goals.{in-Ready-Ok, in-Ready-Err, in-Pending}

pub returns-clause-step : goal.returns-clause-step
returns-clause-step g c = elim c.match-step.branch [
  | in-Ready-Ok w ↦ stepped_asked g.F.Steps g.F.Steps.can_poll _ c.in-Asked.discover c.in-Asked.rng (Ready (Ok w.in-Ready-Ok.discover)) c.step.new.self _ _ (sym c.self.view_is ∙ c.in-Asked.is) c.requires
      (rw w.in-Ready-Ok.field-0-is at w.in-Ready-Ok.ensures.step)
      (λ rng e. (
        w.from_rng.result,
        draws_by w.from_rng.result _ _ w.unwrap-rng.result rng (sym w.take.ensures.value ∙ w.unwrap-rng.ensures) e w.from_rng.ensures.parts,
        w.result-is,
        ap (λ v. v.state) w.self-inside-is ∙ ap (Asked c.step.new.self) w.take.ensures.after,
      ))
  | in-Ready-Err w ↦ stepped_asked g.F.Steps g.F.Steps.can_poll _ c.in-Asked.discover c.in-Asked.rng (Ready (Err w.in-Ready-Err.error)) c.step.new.self _ _ (sym c.self.view_is ∙ c.in-Asked.is) c.requires
      (rw w.in-Ready-Err.field-0-is at w.in-Ready-Err.ensures.step) (λ rng e. (w.result-is, ap (λ v. v.state) w.self-inside-is ∙ ap (Asked c.step.new.self) e))
  | in-Pending w ↦ stepped_asked g.F.Steps g.F.Steps.can_poll _ c.in-Asked.discover c.in-Asked.rng Pending c.step.new.self _ _ (sym c.self.view_is ∙ c.in-Asked.is) c.requires
      w.in-Pending.ensures.step (λ rng e. (w.result-is, ap (λ v. v.state) w.self-inside-is ∙ ap (Asked c.step.new.self) e))
]
