-- The machine of `ready_cache`: a list of ready endpoints, each under its key, and a list of pending ones, longest waiting first.
use Rattle.std.specs.Prelude.{All, ℕ, ◌+◌, ◌≡◌, ◌⊎◌, ◌≤◌, Bool, true, false, not, ◌&&◌, ◌||◌, is_some, List, [], ◌∷◌, ◌++◌, Option, Some, drop, length, slice_get, position, if◌then◌else◌, Result, Ok, Err}
use Rattle.std.specs.List.{list_any, swap_remove}
use Rattle.std.specs.Map.{keys_of, lookup}
use Rattle.std.specs.Option.{MatchOption}
use Rattle.std.specs.declared.clone.Clone.{Ghosts as CloneOf}
use Rattle.futures.specs.Task.{Hears}
use Rattle.futures.specs.declared.task.Poll.{Poll}
use Rattle.futures.specs.declared.task.context.Context.{Context}
use Rattle.futures.specs.declared.task.Poll.TheVariants.{Ready, Pending}
use Rattle.indexmap.specs.IndexMap.{set_value_at}
use Rattle.tower_base.specs.declared.service.Service.{Ghosts as ServiceOf}
use Rattle.tower_pool.specs.declared.ready_cache.error.Failed.{Failed}

-- A pending endpoint. A cancelled one leaves, without being polled, once a poll of the cache comes to it.
pub record PendingView (K S : Type 0) : Type 0 where
  pub key : K
  pub service : S
  pub cancelled : Bool

-- a `ReadyCache`
pub record ReadyCacheView (K S : Type 0) : Type 0 where
  pub ready : List (K × S)
  pub pending : List (PendingView K S)

-- How much room there is: for `endpoints` endpoints, ready or pending; for `keys` more keys; and for `ready` more ready endpoints.
pub record Room : Type 0 where
  pub endpoints : ℕ
  pub keys : ℕ
  pub ready : ℕ

-- What contracts see of a `ReadyCache`: the two lists; the room that it has without an allocation; and `touches`, which counts how often an entry of
-- the pending list was reached so far. It bounds what a call costs.
pub record CountedView (K S : Type 0) : Type 0 where
  pub lists : ReadyCacheView K S
  pub room : Room
  pub touches : ℕ

-- a new pending endpoint
abbrev pub pending_entry : {K S : Type 0} → K → S → PendingView K S
pending_entry k s = record { key = k; service = s; cancelled = false }

module _ {K S : Type 0} (eq : K → K → Bool) where
  -- whether the entry has this key and isn't cancelled
  abbrev pub is_entry_of : K → PendingView K S → Bool
  is_entry_of k p = not p.cancelled && eq k p.key

  -- whether the list has such an entry
  abbrev pub is_pending : K → List (PendingView K S) → Bool
  is_pending k ps = list_any (is_entry_of k) ps

  -- the list with that entry cancelled
  abbrev pub cancel : K → List (PendingView K S) → List (PendingView K S)
  cancel k [] = []
  cancel k (p ∷ ps) = if is_entry_of k p then (record p { cancelled = true }) ∷ ps else p ∷ cancel k ps

  -- An endpoint that was ready becomes the last pending one. If a newer one of its key is pending, it is dropped instead.
  abbrev pub put_back : K → S → List (PendingView K S) → List (PendingView K S)
  put_back k s ps = if is_pending k ps then ps else ps ++ pending_entry k s ∷ []

  -- A push of this key may have been refused: a clone of the key may fail; or the key has no endpoint yet, and no further key fits; or there is room
  -- for one more endpoint at most. (`lookup (eq key) es` is the value under the key in a list of pairs, if there is one.)
  abbrev pub MayRefuse : CloneOf K → CountedView K S → K → Type 0
  MayRefuse clones old key = (¬ (clones.is_infallible key))
      ⊎ ((old.room.keys ≡ 0) × ((is_some (lookup (eq key) old.lists.ready) || is_pending key old.lists.pending) ≡ false))
      ⊎ (old.room.endpoints ≤ length old.lists.ready + length old.lists.pending + 1)

  -- The keys of entries that aren't cancelled are distinct.
  abbrev pub Apart : List (PendingView K S) → Type 0
  Apart [] = Unit {0}
  Apart (p ∷ ps) = (p.cancelled ≡ false → is_pending p.key ps ≡ false) × Apart ps

  -- The index of the key's ready endpoint. (`keys_of` lists the keys of a list of pairs.)
  abbrev pub place : K → List (K × S) → Option ℕ
  place k es = position (eq k) (keys_of es)

  -- What each cache preserves. `clones`: a clone of a key equals it. `apart`: the keys of pending endpoints that aren't cancelled are distinct.
  -- `known`: the index by key (`knows`) has exactly the keys of ready endpoints and of pending ones that aren't cancelled. `fits`: the pending
  -- list has room (`room`) for the ready endpoints too, so that each can go back without an allocation.
  pub record CacheInvariant (is_clone : K → K → Type 0) (ready : List (K × S)) (pending : List (PendingView K S)) (knows : K → Bool) (room : ℕ) : Type 0 where
    pub clones : (x y : K) → is_clone x y → y ≡ x
    pub apart : Apart pending
    pub known : (k : K) → knows k ≡ (is_some (lookup (eq k) ready) || is_pending k pending)
    pub fits : length ready + length pending ≤ room

-- A pending endpoint's service is sound, unless the endpoint is cancelled.
abbrev pub Askable : {K S : Type 0} → (S → Type 0) → PendingView K S → Type 0
Askable sound p = p.cancelled ≡ false → sound p.service

-- Each service that may be polled is sound. Nothing is known of a cancelled endpoint, so it can't be polled again.
pub record Sound {K S : Type 0} (sound : S → Type 0) (v : ReadyCacheView K S) : Type 0 where
  pub ready : All (λ e. sound e.1) v.ready
  pub pending : All (Askable sound) v.pending

-- the sources that the pending endpoints wait for
abbrev pub PendingNeeds : {K S : Type 0} → (S → ℕ → Type 0) → List (PendingView K S) → ℕ → Type 0
PendingNeeds needs [] source = ⊥
PendingNeeds needs (p ∷ ps) source = needs p.service source ⊎ PendingNeeds needs ps source

-- The poll's task is registered at each source that a pending endpoint waits for. The first `n` endpoints don't count.
abbrev pub HeardFrom : {K S : Type 0} → (S → ℕ → Type 0) → Context → ℕ → List (PendingView K S) → Type 0
HeardFrom needs cx n ps = (source : ℕ) → PendingNeeds needs (drop n ps) source → Hears cx source

-- There is an element at the index, and P holds of it.
abbrev pub At : {X : Type 0} → List X → ℕ → (X → Type 0) → Type 0
At {X} xs i P = (x : X) × (slice_get xs i ≡ Some x) × P x

-- Why a poll of the ready endpoint at the index may ask for another: the endpoint's causes, be it kept or dropped.
abbrev pub StirsAt : {K S : Type 0} → (S → S → Type 0) → List (K × S) → ℕ → Type 0
StirsAt {S = S} stirs ready index = At ready index (λ e. (left : S) × stirs e.1 left)

-- The key has a ready endpoint, and P holds of its index.
abbrev pub AtKey : {K S : Type 0} → (K → K → Bool) → K → List (K × S) → (ℕ → Type 0) → Type 0
AtKey eq k es P = (i : ℕ) × (place eq k es ≡ Some i) × P i

module _ {K S Q A E G : Type 0} (eq : K → K → Bool) (s : ServiceOf S Q A E G) where
  -- What follows a poll of the ready endpoint `e`. If it is ready still, it stays (`Ok true`). If it failed, it leaves, with its key and error.
  -- If it is pending, it goes back to the pending ones (`Ok false`). The last ready endpoint takes the index of one that leaves (`swap_remove`, whose
  -- last argument matters only for an index past the end). `set_value_at es i v` is `es` with the value `v` at the index `i`.
  abbrev pub Settles : ReadyCacheView K S → ℕ → K × S → S → Poll (Result (Unit {0}) E) → Result Bool (Failed K E) → ReadyCacheView K S → Type 0
  Settles old index e left (Ready (Ok u)) answer new = (answer ≡ Ok true) × (new ≡ record old { ready = set_value_at old.ready index left })
  Settles old index e left (Ready (Err x)) answer new =
      (answer ≡ Err (record { 0 = e.0; 1 = x })) × (new ≡ record old { ready = swap_remove old.ready index e })
  Settles old index e left Pending answer new =
      (answer ≡ Ok false) × (new ≡ record { ready = swap_remove old.ready index e; pending = put_back eq e.0 left old.pending })

  -- `check_ready_index` polls the ready endpoint at this index once. If there is none, it returns `Ok false` too, and nothing changes.
  abbrev pub Checked : ReadyCacheView K S → ℕ → Result Bool (Failed K E) → ReadyCacheView K S → Type 0
  Checked old index answer new =
      MatchOption (slice_get old.ready index) ((answer ≡ Ok false) × (new ≡ old))
      (λ e. (inner : Poll (Result (Unit {0}) E)) × (left : S) × s.polled e.1 inner left × Settles old index e left inner answer new)

  -- `check_ready` does so with the key's ready endpoint. If there is none, it returns `Ok false`, and nothing changes.
  abbrev pub CheckedKey : ReadyCacheView K S → K → Result Bool (Failed K E) → ReadyCacheView K S → Type 0
  CheckedKey old k answer new =
      MatchOption (place eq k old.ready) ((answer ≡ Ok false) × (new ≡ old)) (λ index. Checked old index answer new)

  -- A call of the endpoint at the index, which was ready, and then goes back to the pending ones, unless a newer one of its key is pending.
  pub record Called (old : ReadyCacheView K S) (index : ℕ) (request : Q) (future : G) (new : ReadyCacheView K S) : Type 0 where
    pub key : K
    pub service : S
    pub left : S
    pub there : slice_get old.ready index ≡ Some (key, service)
    pub ready : s.ready service
    pub called : s.called service request future left
    pub same : new ≡ record { ready = swap_remove old.ready index (key, service); pending = put_back eq key left old.pending }
