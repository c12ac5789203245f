-- The waiters of a queue.
use Rattle.std.specs.Prelude.{◌≡◌, ◌&&◌, not, if◌then◌else◌, is_some, ℕ, zero, suc, Bool, true, List, [], ◌∷◌, ◌++◌, length}
use Rattle.slab.specs.Slab.{get}
use Rattle.tower_base.specs.Links.{LinksView}
use Rattle.tower_base.specs.Order.{has, Apart}

-- No key occurs twice.
abbrev pub are_apart : List ℕ → Bool
are_apart [] = true
are_apart (key ∷ rest) = not (has rest key) && are_apart rest

-- whether the key has an entry that stands outside the order
abbrev pub stands_outside : LinksView (Unit {0}) → ℕ → Bool
stands_outside waiters key = is_some (get waiters.entries key) && not (has waiters.order key)

-- the keys below this number whose entries stand outside the order
abbrev pub outside_below : LinksView (Unit {0}) → ℕ → List ℕ
outside_below waiters zero = []
outside_below waiters (suc key) = if stands_outside waiters key then key ∷ outside_below waiters key else outside_below waiters key

abbrev pub outside : LinksView (Unit {0}) → List ℕ
outside waiters = outside_below waiters (length waiters.entries.slots)

-- Each key in the order has an entry.
abbrev pub IsPresent : LinksView (Unit {0}) → Type 0
IsPresent waiters = (key : ℕ) → has waiters.order key ≡ true → is_some (get waiters.entries key) ≡ true

-- The waiters are those in `granted`, who have a grant that they haven't seen, and behind them those in the order.
pub record Waits (granted : List ℕ) (waiters : LinksView (Unit {0})) : Type 0 where
  pub apart : Apart (granted ++ waiters.order)
  pub present : (key : ℕ) → has (granted ++ waiters.order) key ≡ is_some (get waiters.entries key)
