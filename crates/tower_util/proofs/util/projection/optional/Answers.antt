use Rattle.tower_util.specs.Projections.{optional}
use Rattle.tower_util.proofs.util.projection.optional.Goals as goal

pub returns : goal.returns
returns g c = optional g.T.Service
