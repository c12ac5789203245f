use Rattle.tower_ware.specs.Bag.{bag}
use Rattle.tower_ware.specs.OrderedCalls.{line}
use Rattle.tower_ware.proofs.CalmLemmas.{flows_calm, may_yield_map}
use Rattle.tower_ware.proofs.CallOrderLemmas.{in_any_order, in_order}
use Rattle.tower_ware.proofs.util.call_all.law.Goals as goal

pub returns-clause-ordered : goal.returns-clause-ordered
returns-clause-ordered g c = in_order g.Svc.Service g.S.Flow g.Svc.Future.Steps g.Svc.Future.Steps.can_poll

pub returns-clause-unordered : goal.returns-clause-unordered
returns-clause-unordered g c = in_any_order g.Svc.Service g.S.Flow g.Svc.Future.Steps g.Svc.Future.Steps.can_poll

pub returns-clause-calm : goal.returns-clause-calm
returns-clause-calm g c = λ never s items last. may_yield_map _ _
    (λ v w a. flows_calm g.Svc.Service g.S.Flow (line g.Svc.Future.Steps g.Svc.Future.Steps.can_poll) never v w a)
    s items last

pub returns-clause-calm_unordered : goal.returns-clause-calm_unordered
returns-clause-calm_unordered g c = λ never s items last. may_yield_map _ _
    (λ v w a. flows_calm g.Svc.Service g.S.Flow (bag g.Svc.Future.Steps g.Svc.Future.Steps.can_poll) never v w a)
    s items last
