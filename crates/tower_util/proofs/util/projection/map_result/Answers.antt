use Rattle.tower_util.specs.Projections.{map}
use Rattle.tower_util.proofs.util.projection.map_result.Goals as goal

pub returns : goal.returns
returns g c = map g.S.Service (λ _. g.U.From.from_gives)
