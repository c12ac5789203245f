use Rattle.std.proofs.Common.{◌≡◌}
use Rattle.tower_latch.proofs.guarded.Shared.lock_late.Given as goal

abbrev pub invariant-loop : goal.invariant-loop
invariant-loop g l = record {
  iterates : (goal.iterator-loop g).can_next l.iterator' × (goal.iterator-loop g).is_finite l.iterator';
  same : l.seat.me ≡ l.fn.seat.me;
  its : l.seat.table_id ≡ l.fn.seat.table_id;
}
