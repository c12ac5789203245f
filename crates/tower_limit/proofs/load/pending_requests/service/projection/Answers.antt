use Rattle.tower_limit.specs.Projections.{pending_requests}
use Rattle.tower_limit.proofs.load.pending_requests.service.projection.Goals as goal

pub returns : goal.returns
returns g c = pending_requests g.S.Service g.L.Latch
