use Rattle.tower_util.specs.Projections.{map_request}
use Rattle.tower_util.proofs.util.projection.map_request.Goals as goal

pub returns : goal.returns
returns g c = map_request g.S.Service _
