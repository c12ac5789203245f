use Rattle.std.proofs.Common.{◌≡◌, ◌+◌}
use Rattle.tower_retry.specs.Slots.{Shifted}
use Rattle.tower_retry.proofs.retry.budget.slots.Slots.advance.Given as goal

abbrev pub invariant-loop-past : goal.invariant-loop-past
invariant-loop-past l = record {
  moves : Shifted l.past l.fn.present l.fn.self.index l.fn.self.amounts.items l.self.index l.self.amounts.items;
  writes : l.self.writes.count ≡ l.fn.self.writes.count + l.past;
}
