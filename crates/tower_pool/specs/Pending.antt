-- The pending endpoints of a `ReadyCache`: a slab whose entries are in the order of waiting, a last endpoint that may be stored beside it, and a
-- place for each key.
use Rattle.std.specs.Prelude.{min, ℕ, ◌≡◌, ◌⊎◌, ◌+◌, ◌<◌, ◌≤◌, Bool, true, false, not, ◌||◌, eqb, List, [], ◌∷◌, Option, Some, None, is_some, length, IfSome, IsSomeAnd}
use Rattle.std.specs.Map.{lookup}
use Rattle.std.specs.declared.clone.Clone.{Ghosts as CloneOf}
use Rattle.slab.specs.Slab.{get, slab_len}
use Rattle.tower_base.specs.Links.{LinksView}
use Rattle.tower_base.specs.Order.{Apart, has}
use Rattle.tower_pool.specs.ReadyCache.{CacheInvariant, PendingView, ReadyCacheView}

-- What contracts see: the pending endpoints, longest waiting first, the keys' places, how many endpoints there is room for, how many more keys there
-- is room for, and how many entries of the slab were reached so far.
pub record PendingListView (K S : Type 0) : Type 0 where
  pub items : List (PendingView K S)
  pub places : List (K × Option ℕ)
  pub room : ℕ
  pub spare : ℕ
  pub touches : ℕ

-- whether the key has a place
abbrev pub knows : {K S : Type 0} → (K → K → Bool) → PendingListView K S → K → Bool
knows eq v k = is_some (lookup (eq k) v.places)

-- Room for `more` endpoints, one of this key included, may have been refused: a clone of the key may fail; or the key has no place, and no further
-- key fits; or at most `more` further endpoints fit.
abbrev pub MayRefuse : {K S : Type 0} → CloneOf K → (K → K → Bool) → PendingListView K S → K → ℕ → Type 0
MayRefuse clones eq old key more = (¬ (clones.is_infallible key)) ⊎ ((old.spare ≡ 0) × (knows eq old key ≡ false)) ⊎ (old.room ≤ length old.items + more)

-- an endpoint by its key, its service, and whether it is cancelled
abbrev pub entry_of : {K S : Type 0} → K × S × Bool → PendingView K S
entry_of e = record { key = e.0; service = e.1; cancelled = e.2 }

-- the cache of these ready endpoints and of those that wait
abbrev pub cache_of : {K S : Type 0} → List (K × S) → PendingListView K S → ReadyCacheView K S
cache_of ready v = record { ready = ready; pending = v.items }

-- The invariant of a cache holds for these ready endpoints and these pending ones.
abbrev pub Holds : {K S : Type 0} → (K → K → Bool) → (K → K → Type 0) → List (K × S) → PendingListView K S → Type 0
Holds eq is_clone ready v = CacheInvariant eq is_clone ready v.items (knows eq v) v.room

-- how many fit into the slab and beside it, as far as a `usize` can count them
abbrev pub room_of : ℕ → ℕ
room_of capacity = min (capacity + 1) 18446744073709551615

-- whether a key's place names this entry
abbrev pub names : ℕ → Option (Option ℕ) → Bool
names i None = false
names i (Some None) = false
names i (Some (Some at)) = eqb at i

-- whether a key's place names an entry
abbrev pub names_one : Option (Option ℕ) → Bool
names_one None = false
names_one (Some at) = is_some at

module _ {K S : Type 0} (place : K → Option (Option ℕ)) where
  -- an entry, which is cancelled unless the place of its key names it
  abbrev pub seen : ℕ → K × S → PendingView K S
  seen i u = record { key = u.0; service = u.1; cancelled = not (names i (place u.0)) }

  abbrev pub item_at : ℕ → Option (K × S) → List (PendingView K S) → List (PendingView K S)
  item_at i None rest = rest
  item_at i (Some u) rest = seen i u ∷ rest

  -- the entries under these numbers, in their order
  abbrev pub items_of : (ℕ → Option (K × S)) → List ℕ → List (PendingView K S)
  items_of entry [] = []
  items_of entry (i ∷ order) = item_at i (entry i) (items_of entry order)

-- All entries are in the order. A key's place names no entry, or one of an equal key.
pub record Placed {K S : Type 0} (eq : K → K → Bool) (place : K → Option (Option ℕ)) (links : LinksView (K × S)) : Type 0 where
  pub apart : Apart links.order
  pub present : (i : ℕ) → has links.order i ≡ true → is_some (get links.entries i) ≡ true
  pub count : slab_len links.entries ≡ length links.order
  pub told : (k : K) (i : ℕ) → place k ≡ Some (Some i) → (has links.order i ≡ true) × IsSomeAnd (get links.entries i) (λ u. eq k u.0 ≡ true)

module _ {K S : Type 0} (eq : K → K → Bool) (es : List (K × Option ℕ)) where
  -- the endpoints in the slab
  abbrev pub stored : LinksView (K × S) → List (PendingView K S)
  stored links = items_of (λ k. lookup (eq k) es) (get links.entries) links.order

  -- The place of the endpoint beside the slab names no entry, unless that endpoint is cancelled. All endpoints can be counted.
  pub record Stands (links : LinksView (K × S)) (last : Option (K × S × Bool)) : Type 0 where
    pub placed : Placed eq (λ k. lookup (eq k) es) links
    pub beside : IfSome last (λ e. e.2 ≡ false → lookup (eq e.0) es ≡ Some None)
    pub small : length links.order + 1 < 18446744073709551616

-- the endpoint beside the slab, as a list
abbrev pub last_of : {K S : Type 0} → Option (K × S × Bool) → List (PendingView K S)
last_of None = []
last_of (Some e) = entry_of e ∷ []

-- the endpoint, which is cancelled if it is the key's
abbrev pub marked : {K S : Type 0} → (K → K → Bool) → K → Option (K × S × Bool) → Option (K × S × Bool)
marked eq k None = None
marked eq k (Some e) = Some (e.0, e.1, e.2 || eq k e.0)
