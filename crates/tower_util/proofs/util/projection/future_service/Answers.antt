use Rattle.tower_util.specs.Projections.{future_service}
use Rattle.tower_util.proofs.util.projection.future_service.Goals as goal

pub returns : goal.returns
returns g c = future_service g.S.Service g.F.Steps.stepped
