use Rattle.tower.specs.Projections.{first, second}
use Rattle.tower.proofs.projection.select.Goals as goal

pub returns : goal.returns
returns g c = record { first = first g.P.Policy g.A.Service g.B.Service; second = second g.P.Policy g.A.Service g.B.Service }
