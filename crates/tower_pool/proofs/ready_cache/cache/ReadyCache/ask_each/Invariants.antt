use Rattle.std.proofs.Common.{◌≡◌, ◌≤◌, ◌+◌, ◌*◌, true, length}
use Rattle.futures.specs.Task.{IsArmed, Keeps}
use Rattle.indexmap.specs.IndexMap.{spare}
use Rattle.tower_base.specs.Quiet.{Ever, Quiet}
use Rattle.tower_pool.specs.ReadyCache.{HeardFrom, Sound}
use Rattle.tower_pool.specs.Pending.{Holds, cache_of}
use Rattle.tower_pool.proofs.AskLemmas.{Asking}
use Rattle.tower_pool.proofs.ready_cache.cache.ReadyCache.ask_each.Given as goal

abbrev pub invariant-loop-left : goal.invariant-loop-left
invariant-loop-left g l = record {
  held : Holds g.K.PartialEq.eq g.K.Clone.is_clone l.ready.entries l.pending;
  asking : Asking g.K.PartialEq.eq g.S.Service (cache_of l.fn.ready.entries l.fn.pending) (cache_of l.ready.entries l.pending) l.left l.waits;
  sound : Sound g.S.Service.sound (cache_of l.ready.entries l.pending);
  armed : l.waits ≡ true → IsArmed l.cx;
  heard : HeardFrom g.S.Service.needs l.cx l.left l.pending.items;
  quiet : Quiet (Ever g.S.Service.stirs) l.fn.cx l.cx;
  kept : Keeps l.fn.cx l.cx;
  used : spare l.fn.ready + l.left ≤ spare l.ready + length l.fn.pending.items;
  touches : l.pending.touches + 5 * l.left ≤ l.fn.pending.touches + 5 * length l.fn.pending.items;
}

abbrev pub decreases-loop-left : goal.decreases-loop-left
decreases-loop-left g l = l.left
