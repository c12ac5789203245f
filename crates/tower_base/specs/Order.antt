-- What it means that the entries of a slab are linked in one order.
use Rattle.std.specs.Prelude.{◌≡◌, ℕ, zero, suc, ◌<◌, Bool, true, false, eqb, not, if◌then◌else◌, List, [], ◌∷◌, length, Option, Some, None}
use Rattle.std.specs.List.{list_any, filter}
use Rattle.tower_base.specs.declared.links.cells.LinkState.{LinkState}
use Rattle.tower_base.specs.declared.links.cells.LinkState.TheVariants.{Linked, Outside}

-- the place of each key's entry
abbrev pub LinkStates : Type 0
LinkStates = ℕ → Option LinkState

-- whether the list has this key
abbrev pub has : List ℕ → ℕ → Bool
has keys key = list_any (eqb key) keys

-- the list without this key
abbrev pub without : List ℕ → ℕ → List ℕ
without keys key = filter (λ other. not (eqb key other)) keys

-- No key occurs twice.
abbrev pub Apart : List ℕ → Type 0
Apart [] = Unit {0}
Apart (key ∷ rest) = (has rest key ≡ false) × Apart rest

abbrev pub with_next : Option ℕ → LinkState → LinkState
with_next next (Linked before after) = Linked before next
with_next next Outside = Outside

abbrev pub with_previous : Option ℕ → LinkState → LinkState
with_previous previous (Linked before after) = Linked previous after
with_previous previous Outside = Outside

abbrev pub place_map : (LinkState → LinkState) → Option LinkState → Option LinkState
place_map f None = None
place_map f (Some place) = Some (f place)

-- the places, with the one at this key changed by f if there is a key
abbrev pub moved : LinkStates → Option ℕ → (LinkState → LinkState) → LinkStates
moved places None f key = places key
moved places (Some at) f key = if eqb key at then place_map f (places key) else places key

abbrev pub is_linked : Option LinkState → Bool
is_linked None = false
is_linked (Some Outside) = false
is_linked (Some (Linked before after)) = true

abbrev pub next_of : Option LinkState → Option ℕ
next_of None = None
next_of (Some Outside) = None
next_of (Some (Linked before after)) = after

-- the keys from this one on, at most the given number of them
abbrev pub chain : LinkStates → ℕ → Option ℕ → List ℕ
chain places zero at = []
chain places (suc count) None = []
chain places (suc count) (Some key) = key ∷ chain places count (next_of (places key))

-- the first of the keys, or else `after`
abbrev pub first_or : List ℕ → Option ℕ → Option ℕ
first_or [] after = after
first_or (key ∷ rest) after = Some key

-- the last of the keys, or else `before`
abbrev pub last_or : List ℕ → Option ℕ → Option ℕ
last_or [] before = before
last_or (key ∷ rest) before = last_or rest (Some key)

-- Each key's entry has the keys before and after it.
abbrev pub IsChain : LinkStates → Option ℕ → List ℕ → Option ℕ → Type 0
IsChain places before [] after = Unit {0}
IsChain places before (key ∷ rest) after =
    (places key ≡ Some (Linked before (first_or rest after))) × IsChain places (Some key) rest after

-- The keys are those of the linked entries, in their order.
pub record IsOrder (places : LinkStates) (keys : List ℕ) (first last : Option ℕ) (len capacity : ℕ) : Type 0 where
  pub starts : first ≡ first_or keys None
  pub ends : last ≡ last_or keys None
  pub counted : len ≡ length keys
  pub apart : Apart keys
  pub chained : IsChain places None keys None
  pub all : (key : ℕ) → is_linked (places key) ≡ true → has keys key ≡ true
  pub in_range : (key : ℕ) → has keys key ≡ true → key < capacity

-- One end of the order after an entry is taken out. If the entry had none beside it on that side, the end is its neighbour on the other side.
abbrev pub end_after : Option ℕ → Option ℕ → Option ℕ → Option ℕ
end_after None beyond end = beyond
end_after (Some beside) beyond end = end
