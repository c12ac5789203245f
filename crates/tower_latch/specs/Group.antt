-- The waiters of one key, taken out.
use Rattle.std.specs.Prelude.{◌∷◌, List, []}
use Rattle.tower_latch.specs.declared.guarded.crowd.Members.{Members}
use Rattle.tower_latch.specs.declared.guarded.crowd.Waiter.{Waiter}

-- the waiters of a group
abbrev pub members_of : Members → List Waiter
members_of (Members.One waiter) = waiter ∷ []
members_of (Members.Several list) = list.items
