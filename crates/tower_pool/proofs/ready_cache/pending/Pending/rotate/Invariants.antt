use Rattle.std.proofs.Common.{◌≡◌, ◌≤◌, ◌+◌, ◌*◌, ◌-◌, length}
use Rattle.tower_pool.specs.ReadyCache.{Apart}
use Rattle.tower_pool.specs.ReadyCachePoll.{rotated}
use Rattle.tower_pool.specs.Pending.{knows}
use Rattle.tower_pool.proofs.ready_cache.pending.Pending.rotate.Given as goal

abbrev pub invariant-loop : goal.invariant-loop
invariant-loop g l = record {
  items : rotated (l.fn.count - l.counter) l.self.items ≡ rotated l.fn.count l.fn.self.items;
  apart : Apart g.K.PartialEq.eq l.self.items;
  fits : length l.self.items ≤ l.self.room;
  knows : (k : _) → knows g.K.PartialEq.eq l.self k ≡ knows g.K.PartialEq.eq l.fn.self k;
  room : l.self.room ≡ l.fn.self.room;
  touches : l.self.touches ≤ l.fn.self.touches + 5 * l.counter;
}
