use Rattle.tower_limit.specs.Projections.{constant}
use Rattle.tower_limit.proofs.load.constant.projection.Goals as goal

pub returns : goal.returns
returns g c = constant g.S.Service
