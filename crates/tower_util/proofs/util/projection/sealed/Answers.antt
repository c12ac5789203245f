use Rattle.tower_base.specs.ProjectionLemmas.{itself}
use Rattle.tower_base.specs.ServiceRun.{relations}
use Rattle.tower_util.proofs.util.projection.sealed.Goals as goal

pub returns : goal.returns
returns g c = itself (relations g.S.Service)
