use Rattle.std.proofs.Common.{◌-◌, length}
use Rattle.tower_latch.specs.Wakes.{IsSpared}
use Rattle.tower_latch.proofs.Crowds.{Sifts}
use Rattle.tower_latch.proofs.guarded.waiters.Waiters.take_several.Given as goal

abbrev pub invariant-looking : goal.invariant-looking
invariant-looking g l = Sifts (IsSpared (g.C.Core.stalls l.core) l.fn.wakes) l.fn.self l.self l.groups.items l.key

abbrev pub decreases-looking : goal.decreases-looking
decreases-looking g l = length l.self - l.key
