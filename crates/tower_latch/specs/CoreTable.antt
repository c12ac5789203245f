-- The slot of a core under its lock: its invariant, and what each operation on it shows.
use Rattle.std.specs.Prelude.{◌≡◌, ◌≢◌, ◌≤◌, ◌+◌, ◌-◌, ℕ, List, [], ◌∷◌, Bool, true, false}
use Rattle.std.specs.List.{sum_by}
use mathlib.Core.Option.{Option, some}
use lib.ListN.{get_elem?}
use Rattle.atomic_table.specs.Table.{State, Me, Step}
use Rattle.tower_latch.specs.BadgeViews.{out_by}
use Rattle.tower_latch.specs.declared.guarded.table.View.{View}
use Rattle.tower_latch.specs.declared.guarded.token.Token.{Token}

-- a seat with no place and without the core
abbrev pub initial : View
initial = record { out = 0; has = false; held = 0 }

abbrev pub with_those : View → View → View
with_those v w = record v { out = v.out + w.out }

abbrev pub one_if : Bool → ℕ
one_if true = 1
one_if false = 0

abbrev pub has_of : View → ℕ
has_of v = one_if v.has

abbrev pub out_of : View → ℕ
out_of v = v.out

-- `is` tells which cores it may be.
module _ {K : Type 0} (is : K → Type 0) (out : K → ℕ) where
  -- If the word is 0, nobody has the core, which is at home, and all seats together have as many places as it counts. Otherwise one seat
  -- has the core, and knows how many places all seats have.
  abbrev pub Agree : State K View → Type 0
  Agree s = (w : ℕ) × (h : Option K) × (s.words ≡ w ∷ []) × (s.homes ≡ h ∷ [])
      × (w ≡ 0 → (sum_by has_of s.views ≡ 0) × ((k : K) × (h ≡ some k) × is k × (out k ≡ sum_by out_of s.views)))
      × (w ≢ 0 → sum_by has_of s.views ≡ 1)
      × ((by : ℕ) (v : View) → get_elem? s.views by ≡ some v → v.has ≡ true → v.held ≡ sum_by out_of s.views)

  -- The seat had this view, and has the core now.
  abbrev pub Holds : View → Me K View → Type 0
  Holds v me = (k : K) × (me ≡ (record v { has = true; held = out k }, (0, k) ∷ [])) × is k

  -- The same for a seat that was a badge.
  abbrev pub HoldsBadge : List View → Me K View → Type 0
  HoldsBadge views me = (v : View) × (views ≡ v ∷ []) × Holds v me

  -- A seat that found 0 has the core now.
  abbrev pub Taken : Step K → Me K View → ℕ → Me K View → Type 0
  Taken at old found new = (found ≡ 0 → Holds old.0 new) × (found ≢ 0 → new ≡ old)

  -- The seat has the core, and knows how many places it counts.
  abbrev pub HasCore : Me K View → Type 0
  HasCore me = (k : K) × (me.1 ≡ (0, k) ∷ []) × is k × (me.0.held ≡ out k)

  -- The core may go back: it counts the places of the others, and any number for the seat.
  abbrev pub MayFree : Me K View → Type 0
  MayFree me = (k : K) × (me.1 ≡ (0, k) ∷ []) × is k × (me.0.held ≤ me.0.out + out k)

module _ {K : Type 0} (out : K → ℕ) where
  -- The seat no longer has the core, and has those of the places that the core counts and others don't have.
  abbrev pub left : View → K → View
  left v k = record v { has = false; held = 0; out = (v.out + out k) - v.held }

  -- A seat that had the core no longer has it. It had no more places than all seats together.
  abbrev pub Leaves : Me K View → Me K View → Type 0
  Leaves old new = (k : K) × (old.1 ≡ (0, k) ∷ []) × (new ≡ (left old.0 k, [])) × (old.0.out ≤ old.0.held)

  abbrev pub Freed : Step K → Me K View → ℕ → Me K View → Type 0
  Freed at old found new = Leaves old new

  -- The same for the views of its badge.
  abbrev pub LeavesBadge : Me K View → List View → Type 0
  LeavesBadge old views = (k : K) × (old.1 ≡ (0, k) ∷ []) × (views ≡ left old.0 k ∷ []) × (old.0.out ≤ old.0.held)

-- the number of places that a token has
abbrev pub places : Token → ℕ
places token = out_by token.badge.views
