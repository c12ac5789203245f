-- The ends of the order, and how a call changes them and the entries.
use Rattle.std.specs.Prelude.{ℕ, ◌+◌, ◌-◌, List, Option, Some, None}
use Rattle.slab.specs.Slab.{Slab}
use Rattle.tower_base.specs.declared.links.cells.LinkState.{LinkState}
use Rattle.tower_base.specs.declared.links.cells.LinkState.TheVariants.{Linked, Outside}
use Rattle.tower_base.specs.declared.links.cells.Entry.{Entry}
use Rattle.tower_base.specs.declared.links.Ends.{Ends}
use Rattle.tower_base.specs.Cells.{place_at, with_place_at, bypassed}
use Rattle.tower_base.specs.Order.{chain, IsOrder, end_after, with_next}

abbrev pub left_ends : Option LinkState → Ends → Ends
left_ends None e = e
left_ends (Some Outside) e = e
left_ends (Some (Linked previous next)) e =
    record { first = end_after previous next e.first; last = end_after next previous e.last; len = e.len - 1 }

abbrev pub pushed_ends : ℕ → Ends → Ends
pushed_ends key e = record { first = end_after e.last (Some key) e.first; last = Some key; len = e.len + 1 }

module _ {T : Type 0} where
  -- the keys of the linked entries, from the front
  abbrev pub order_of : Slab (Entry T) → Ends → List ℕ
  order_of s e = chain (place_at s) e.len e.first

  abbrev pub IsSound : Slab (Entry T) → Ends → Type 0
  IsSound s e = (keys : List ℕ) × IsOrder (place_at s) keys e.first e.last e.len s.capacity

  abbrev pub left_slab : Slab (Entry T) → Option LinkState → Slab (Entry T)
  left_slab s None = s
  left_slab s (Some Outside) = s
  left_slab s (Some (Linked previous next)) = bypassed s previous next

  abbrev pub pushed_slab : Slab (Entry T) → ℕ → Ends → Slab (Entry T)
  pushed_slab s key e = with_place_at s e.last (with_next (Some key))
