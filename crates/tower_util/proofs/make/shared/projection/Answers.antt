use Rattle.tower_util.specs.Projections.{shared}
use Rattle.tower_util.proofs.make.shared.projection.Goals as goal

pub returns : goal.returns
returns g c = shared g.S.Clone g.S.Service
