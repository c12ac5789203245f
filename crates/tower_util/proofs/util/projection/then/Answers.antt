use Rattle.tower_util.specs.Projections.{chain}
use Rattle.tower_util.proofs.util.projection.then.Goals as goal

pub returns : goal.returns
returns g c = chain g.S.Service (λ _. g.U.From.from_gives)
