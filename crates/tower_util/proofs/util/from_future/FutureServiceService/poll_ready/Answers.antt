use Rattle.futures.specs.declared.task.Poll.TheVariants.{Ready, Pending}
use Rattle.tower_base.specs.GivesLemmas.{gives_value, gives_same}
use Rattle.tower_util.proofs.util.from_future.FutureServiceService.poll_ready.Goals as goal

pub serve-answer-requires : goal.serve-answer-requires
serve-answer-requires g c =
    let sound = rw (← c.self.view_is, c.in-Coming.is) at c.requires in
    let given = gives_value g.F.Steps.stepped _ (Ready c.in-Ready-Ok.field-0) _ c.in-Ready-Ok.ensures.step in
    sound.1 _ (rw c.in-Ready-Ok.field-0-is at given)

pub returns-in-Pending-clause-sound : goal.returns-in-Pending-clause-sound
returns-in-Pending-clause-sound g c =
    let sound = rw (← c.self.view_is, c.in-Coming.is) at c.requires in
    (c.in-Pending.ensures.again, λ s given. sound.1 s (gives_same g.F.Steps.stepped _ Pending _ c.in-Pending.ensures.step _ given))
