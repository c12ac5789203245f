use Rattle.std.proofs.Common.{◌≡◌, All, ◌<◌, ◌≤◌, ℕ, drop, length, slice_index_or}
use Rattle.std.specs.VecDeque.{deque_capacity, deque_len}
use Rattle.futures.specs.Task.{Keeps}
use Rattle.tower_base.specs.Quiet.{Quiet}
use Rattle.tower_ware.specs.OrderedCalls.{LineStirs, MayAsk, SlotPolled}
use Rattle.tower_ware.proofs.util.call_all.line.ask_others.Given as goal

abbrev pub invariant-loop-i : goal.invariant-loop-i
invariant-loop-i g l = record {
  size : length l.slots.items ≡ length l.fn.slots.items;
  count : deque_len l.slots ≡ l.i-end;
  begins : 1 ≤ l.i;
  front : (d : _) → 0 < length l.fn.slots.items → slice_index_or l.slots.items 0 d ≡ slice_index_or l.fn.slots.items 0 d;
  done : (k : ℕ) (d : _) → 0 < k → k < l.i → k < length l.fn.slots.items
      → SlotPolled g.F.Steps (slice_index_or l.fn.slots.items k d) (slice_index_or l.slots.items k d);
  todo : (k : ℕ) (d : _) → l.i ≤ k → slice_index_or l.slots.items k d ≡ slice_index_or l.fn.slots.items k d;
  again : All (MayAsk g.F.Steps.can_poll) l.slots.items;
  room : deque_capacity l.slots ≡ deque_capacity l.fn.slots;
  quiet : Quiet (LineStirs g.F.Steps.stirs (drop 1 l.fn.slots.items)) l.fn.cx l.cx;
  kept : Keeps l.fn.cx l.cx;
}
