use Rattle.tower.specs.WaitRunsLemmas.{ran_on, ran_on_start}
use Rattle.uses.proofs.waits.count_answers.Goals as goal

pub loop-request-init : goal.loop-request-init
loop-request-init g c = record { sound = c.requires; ran = ran_on_start g.W.Service _ }

pub loop-request-preserved : goal.loop-request-preserved
loop-request-preserved g c = record {
  sound = c.block_on_call.ensures.sound;
  ran = ran_on g.W.Service g.W.Future.Steps.stepped c.loop-request.invariant.ran c.in_ok-answer.ensures.answered;
}

pub returns : goal.returns
returns g c = let ran = c.loop-request.invariant.ran in (ran.0, c.within_rate.ensures _ _ _ ran.1)
