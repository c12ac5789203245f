use Rattle.std.proofs.Common.{◌+◌, ◌-◌, vec_len}
use Rattle.tower_latch.specs.Guarded.{IsSame}
use Rattle.tower_latch.proofs.guarded.waiters.grow.Given as goal

abbrev pub invariant-loop-alloc : goal.invariant-loop-alloc
invariant-loop-alloc l = IsSame l.fn.crowds.items l.crowds.items

abbrev pub decreases-loop-alloc : goal.decreases-loop-alloc
decreases-loop-alloc l = (l.key + 1) - vec_len l.crowds
