use Rattle.tower_base.specs.ServiceRun.{relations}
use Rattle.tower_base.specs.Projection.{Once}
use Rattle.tower_base.specs.ProjectionLemmas.{composed_once}
use Rattle.tower_base.proofs.run.laws.compose.Goals as goal

pub returns : goal.returns
returns g c = λ outside inside. composed_once (relations g.S.Service) (relations g.M.Service) (relations g.I.Service) outside inside Once
