use Rattle.tower_util.specs.Projections.{map_response}
use Rattle.tower_util.proofs.util.projection.map_response.Goals as goal

pub returns : goal.returns
returns g c = map_response g.S.Service
