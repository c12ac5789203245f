use Rattle.std.proofs.Common.{◌≡◌}
use Rattle.tower_retry.specs.Slots.{kept_sum}
use Rattle.tower_retry.proofs.retry.budget.slots.Slots.sum.Given as goal

abbrev pub invariant-loop-back : goal.invariant-loop-back
invariant-loop-back l = l.sum ≡ kept_sum l.fn.reserve l.self.index l.self.amounts.items l.back
