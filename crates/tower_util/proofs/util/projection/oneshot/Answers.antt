use Rattle.tower_util.specs.Projections.{oneshot}
use Rattle.tower_util.proofs.util.projection.oneshot.Goals as goal

pub returns : goal.returns
returns g c = λ old answer new. oneshot g.S.Service g.S.Future.Steps.stepped old.state answer new.state
