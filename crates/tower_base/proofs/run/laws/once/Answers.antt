use Rattle.tower_base.specs.ProjectionLemmas.{once_same}
use Rattle.tower_base.proofs.run.laws.once.Goals as goal

pub returns : goal.returns
returns g c = once_same
