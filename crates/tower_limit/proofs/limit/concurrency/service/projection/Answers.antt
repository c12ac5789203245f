use Rattle.tower_limit.specs.Projections.{concurrency_limit}
use Rattle.tower_limit.proofs.limit.concurrency.service.projection.Goals as goal

pub returns : goal.returns
returns g c = concurrency_limit g.S.Service g.L.Latch
