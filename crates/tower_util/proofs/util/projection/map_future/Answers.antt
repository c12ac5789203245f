use Rattle.tower_util.specs.Projections.{map_future}
use Rattle.tower_util.proofs.util.projection.map_future.Goals as goal

pub returns : goal.returns
returns g c = map_future g.S.Service (λ _. g.E.From.from_gives) _
