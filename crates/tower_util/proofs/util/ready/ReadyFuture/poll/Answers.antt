use Rattle.tower_util.proofs.ReadyLemmas.{value_and, same_and, hands_back, hands_same}
use Rattle.tower_util.specs.Ready.{HandsBack}
use Rattle.tower_util.proofs.util.ready.ReadyFuture.poll.Goals as goal

pub returns-clause-value : goal.returns-clause-value
returns-clause-value g c =
    value_and _ (λ r out. HandsBack g.T.Service.sound g.T.Service.ready r.service out) _ _ _ c.step.ensures.step
    (hands_back g.T.Service.sound g.T.Service.ready g.T.Service.polled _ _ _ c.step.ensures.step)

pub returns-clause-same : goal.returns-clause-same
returns-clause-same g c =
    same_and _ (λ r out. HandsBack g.T.Service.sound g.T.Service.ready r.service out) _ _ _ c.step.ensures.step
    (hands_same g.T.Service.sound g.T.Service.ready g.T.Service.polled _ _ _ c.step.ensures.step)
