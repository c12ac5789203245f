use Rattle.tower_laws.proofs.LatencyLemmas.{records_latency}
use Rattle.tower_laws.proofs.latency.law.Goals as goal

pub returns : goal.returns
returns g c = records_latency g.S.Service g.S.Future.Steps g.R.Clone g.R.Record g.C.Clock
