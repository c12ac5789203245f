use Rattle.tower.specs.Projections.{hedge}
use Rattle.tower.proofs.projection.hedge.Goals as goal

pub returns : goal.returns
returns g c = hedge g.N.Service
