-- What the contracts of `Cells` say about a slab of entries.
use Rattle.std.specs.Prelude.{ℕ, map, Option, Some, None}
use Rattle.tower_base.specs.Order.{with_next, with_previous}
use Rattle.slab.specs.Slab.{Slab, get, with_value}
use Rattle.tower_base.specs.declared.links.cells.LinkState.{LinkState}
use Rattle.tower_base.specs.declared.links.cells.Entry.{Entry}

module _ {T : Type 0} where
  abbrev pub entry : T → LinkState → Entry T
  entry value place = record { value = value; place = place }

  -- the place of the entry, if there is one
  abbrev pub place_of : Option (Entry T) → Option LinkState
  place_of None = None
  place_of (Some e) = Some e.place

  -- the value of the entry, if there is one
  abbrev pub value_of : Option (Entry T) → Option T
  value_of None = None
  value_of (Some e) = Some e.value

  abbrev pub place_at : Slab (Entry T) → ℕ → Option LinkState
  place_at s key = place_of (get s key)

  abbrev pub value_at : Slab (Entry T) → ℕ → Option T
  value_at s key = value_of (get s key)

  -- the slab in which the place of this entry, if there is one, is changed by f
  abbrev pub with_place_if : Slab (Entry T) → ℕ → (LinkState → LinkState) → Option (Entry T) → Slab (Entry T)
  with_place_if s key f None = s
  with_place_if s key f (Some e) = with_value s key (entry e.value (f e.place))

  abbrev pub with_place : Slab (Entry T) → ℕ → (LinkState → LinkState) → Slab (Entry T)
  with_place s key f = with_place_if s key f (get s key)

  abbrev pub with_place_at : Slab (Entry T) → Option ℕ → (LinkState → LinkState) → Slab (Entry T)
  with_place_at s None f = s
  with_place_at s (Some key) f = with_place s key f

  -- the slab in which the entries at these keys, if there are any, link to each other
  abbrev pub bypassed : Slab (Entry T) → Option ℕ → Option ℕ → Slab (Entry T)
  bypassed s previous next =
      with_place_at (with_place_at s previous (with_next next)) next (with_previous previous)

  -- the slab of the values alone, each under its key
  abbrev pub values_of : Slab (Entry T) → Slab T
  values_of s = record { slots = map value_of s.slots; vacant_key = s.vacant_key; capacity = s.capacity }
