use Rattle.tower_base.specs.ServiceRun.{relations}
use Rattle.tower_util.specs.Projections.{sides}
use Rattle.tower_util.proofs.util.projection.either.Goals as goal

pub returns : goal.returns
returns g c = sides (relations g.A.Service) (relations g.B.Service)
