use Rattle.tower_latch.proofs.Settling.{leaves_none_asleep}
use Rattle.tower_latch.proofs.settled.law.Goals as goal

pub returns : goal.returns
returns g c = leaves_none_asleep g.C.Core
