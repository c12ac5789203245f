use Rattle.tower_util.specs.Projections.{map}
use Rattle.tower_util.proofs.util.projection.map_err.Goals as goal

pub returns : goal.returns
returns g c = map g.S.Service (λ f x. g.F.Fn.post f (x, tt))
