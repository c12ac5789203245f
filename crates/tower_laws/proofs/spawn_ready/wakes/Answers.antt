use Rattle.tower_laws.proofs.WakesLemmas.{owner_named, task_named}
use Rattle.tower_laws.proofs.spawn_ready.wakes.Goals as goal

pub returns : goal.returns
returns g c = record { owner = owner_named; task = task_named }
