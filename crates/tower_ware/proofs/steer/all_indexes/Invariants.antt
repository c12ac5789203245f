use Rattle.std.proofs.Common.{◌≡◌, ◌≤◌}
use Rattle.std.specs.VecDeque.{deque_capacity, deque_len}
use Rattle.tower_ware.specs.Steer.{upto}
use Rattle.tower_ware.proofs.steer.all_indexes.Given as goal

abbrev pub invariant-loop-index : goal.invariant-loop-index
invariant-loop-index l = record {
  listed : l.listed.items ≡ upto l.index;
  count : deque_len l.listed ≡ l.index;
  room : l.fn.count ≤ deque_capacity l.listed;
}
