use Rattle.tower_ware.specs.Projections.{timeout}
use Rattle.tower_ware.proofs.timeout.projection.Goals as goal

pub returns : goal.returns
returns g c = timeout g.S.Service g.C.Clock
