use Rattle.tower_retry.specs.Projections.{latency}
use Rattle.tower.proofs.projection.latency.Goals as goal

pub returns : goal.returns
returns g c = latency g.S.Service g.R.Clone g.C.Clock
