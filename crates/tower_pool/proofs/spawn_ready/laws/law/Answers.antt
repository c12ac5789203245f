use Rattle.tower_pool.proofs.SlotRuns.{comes_from_a_task}
use Rattle.tower_pool.proofs.spawn_ready.laws.law.Goals as goal

pub returns : goal.returns
returns g c = comes_from_a_task _ _
