use Rattle.std.proofs.Common.{◌≡◌, All, ◌<◌, ◌≤◌, ◌++◌, ℕ, List, Option, drop, slice_index_or, take, vec_len}
use Rattle.std.specs.Vec.{vec_capacity}
use Rattle.futures.specs.Task.{IsArmed, Keeps}
use Rattle.tower_base.specs.Quiet.{Quiet}
use Rattle.tower_ware.specs.Bag.{BagStirs, EachPolled}
use Rattle.tower_ware.proofs.util.call_all.bag.ask_each.Given as goal

abbrev pub invariant-loop-i : goal.invariant-loop-i
invariant-loop-i g l = record {
  asked : (a : Option _) (gs : List _) → EachPolled g.F.Steps (drop l.i l.futures.items) a gs
      → EachPolled g.F.Steps l.fn.futures.items a (take l.i l.futures.items ++ gs);
  count : vec_len l.futures ≡ l.i-end;
  again : All g.F.Steps.can_poll l.futures.items;
  room : vec_capacity l.futures ≡ vec_capacity l.fn.futures;
  armed : 0 < l.i → IsArmed l.cx;
  size : vec_len l.fn.futures ≡ l.i-end;
  todo : (k : ℕ) (d : _) → l.i ≤ k → slice_index_or l.futures.items k d ≡ slice_index_or l.fn.futures.items k d;
  quiet : Quiet (BagStirs g.F.Steps.stirs l.fn.futures.items) l.fn.cx l.cx;
  kept : Keeps l.fn.cx l.cx;
}
