use Rattle.tower_base.specs.ServiceRun.{relations}
use Rattle.tower_limit.specs.RateRun.{rate_of}
use Rattle.tower_base.specs.ProjectionLemmas.{composed_once}
use Rattle.tower.proofs.WaitRates.{runs_within}
use Rattle.tower.proofs.util.runs.within_rate_through.Goals as goal

pub returns : goal.returns
returns g c inside first = runs_within g.V.Service g.S.Service g.C.Clock (λ v. g.W.Contains.inside (inside v)) g.W.Contains.goes g.met.C.Monotonic.forward
    (composed_once (relations g.V.Service) (relations g.W.Service) (rate_of g.S.Service g.C.Clock) inside g.W.Contains.inside g.W.Contains.goes first g.met.W.Contains.projects)
