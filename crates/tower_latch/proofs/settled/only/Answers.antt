use Rattle.tower_latch.proofs.Settling.{wakes_none_in_vain}
use Rattle.tower_latch.proofs.settled.only.Goals as goal

pub returns : goal.returns
returns g c = wakes_none_in_vain g.C.Core
