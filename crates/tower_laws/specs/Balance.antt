-- What a `Balance` keeps to, over its runs. (`loaded`, `cmp`, `drew`, `discovered`: as in Balance.antt of `tower_pool`.)
use Rattle.std.specs.Prelude.{All, ◌≡◌, ◌⊎◌, ℕ, Bool, true, false, if◌then◌else◌, List, [], ◌∷◌, ◌++◌, length, slice_get, Option, Some, Result, Ok}
use Rattle.std.specs.Ordering.{partial_le}
use Rattle.std.specs.declared.cmp.Ordering.{Ordering}
use Rattle.futures.specs.declared.task.Poll.{Poll}
use Rattle.futures.specs.declared.task.Poll.TheVariants.{Ready}
use Rattle.indexmap.specs.IndexMap.{set_value_at}
use Rattle.tower_base.specs.Draw.{Drawn}
use Rattle.tower_base.specs.Projection.{RunInside}
use Rattle.tower_base.specs.ServiceRun.{Relations, relations, Transition, ServiceRun}
use Rattle.tower_base.specs.declared.service.Service.{Ghosts as ServiceOf}
use Rattle.tower_limit.specs.Discover.{Found}
use Rattle.tower_limit.specs.declared.discover.Change.{Change}
use Rattle.tower_limit.specs.declared.discover.Change.TheVariants.{Insert, Remove}
use Rattle.tower_pool.specs.Balance.{BalanceView, initial}
use Rattle.tower_pool.specs.ReadyCache.{At, PendingView}
use Rattle.tower_pool.specs.declared.balance.error.Error.{Error}

-- the changes among what a discovery returned, in their order
abbrev pub changes : {K S X : Type 0} → List (Found K S X) → List (Change K S)
changes [] = []
changes (Ready (Some (Ok change)) ∷ rest) = change ∷ changes rest
changes (found ∷ rest) = changes rest

-- The polls of a discovery, one after another, return this.
abbrev pub Finds : {D K S X : Type 0} → (D → Found K S X → D → Type 0) → D → List (Found K S X) → D → Type 0
Finds discovered old [] new = new ≡ old
Finds {D} discovered old (found ∷ rest) new = (mid : D) × discovered old found mid × Finds discovered mid rest new

module _ {K S : Type 0} (eq : K → K → Bool) where
  -- The change removes the key.
  abbrev pub removes : K → Change K S → Bool
  removes key (Remove other) = eq key other
  removes key (Insert other service) = false

  -- One of the changes inserted this key with a service that came to be this one by polls and calls, and no later change removes the key.
  pub record Came {Q A E G : Type 0} (s : ServiceOf S Q A E G) (all : List (Change K S)) (key : K) (service : S) : Type 0 where
    pub before : List (Change K S)
    pub other : K
    pub first : S
    pub after : List (Change K S)
    pub place : all ≡ before ++ Insert other first ∷ after
    pub same : eq key other ≡ true
    pub stays : All (λ (change : Change K S). removes key change ≡ false) after
    pub leads : RunInside (relations s) (λ requests. Unit {0}) first service

-- The index is that of the only one of these ready endpoints. Or two of them were drawn, which left the generator `rng`. Then the index is the first's
-- if its load is at most the second's, and otherwise the second's.
abbrev pub IsChosen : {R K S M : Type 0} → (S → M → Type 0) → (M → M → Option Ordering) → (R → ℕ → R → Type 0) → List (K × S) → R → ℕ → Type 0
IsChosen {R} {K} {S} {M} loaded cmp drew ready rng index = ((length ready ≡ 1) × (index ≡ 0))
    ⊎ ((first second : ℕ) × (before : R) × Drawn drew before (length ready) (first ∷ second ∷ []) rng
    × (load other : M) × At ready first (λ e. loaded e.1 load) × At ready second (λ e. loaded e.1 other)
    × (index ≡ (if partial_le cmp load other then first else second)))

-- A call reaches the endpoint at the kept index, and the poll before it found that endpoint ready.
abbrev pub Reaches : {D R K S Q A E G : Type 0} → ServiceOf S Q A E G → BalanceView D R K S → Q → Option G → Type 0
Reaches {K = K} {S = S} {G = G} s polled request future = (index : ℕ) × (polled.kept ≡ Some index)
    × (key : K) × (service : S) × (slice_get polled.services.ready index ≡ Some (key, service))
    × ((before : S) × s.polled before (Ready (Ok tt)) service)
    × (response : G) × (left : S) × s.called service request response left × (future ≡ Some response)

module _ {D R K S Q A E G X M B : Type 0} (balance : Relations B Q (Error E X) (Option G)) (view : B → BalanceView D R K S) (eq : K → K → Bool) (s : ServiceOf S Q A E G)
    (loaded : S → M → Type 0) (cmp : M → M → Option Ordering) (drew : R → ℕ → R → Type 0) (discovered : D → Found K S X → D → Type 0) where
  -- Each call after a poll that returned `Ok` reaches that endpoint.
  abbrev pub CallsReachKept : Type 0
  CallsReachKept = (old mid new : B) (request : Q) (future : Option G) → balance.polled old (Ready (Ok tt)) mid → balance.called mid request future new
      → Reaches s (view mid) request future

  -- The index that a poll keeps was kept before it. Or the poll chose it from the endpoints that are still ready, by the balancer's generator. (After the
  -- choice that endpoint was polled once more.)
  abbrev pub KeepsChosen : Type 0
  KeepsChosen = (old new : B) (answer : Poll (Result (Unit {0}) (Error E X))) (index : ℕ) → balance.polled old answer new → (view new).kept ≡ Some index
      → ((view old).kept ≡ Some index)
      ⊎ ((ready : List (K × S)) × (left : S) × ((view new).services.ready ≡ set_value_at ready index left) × IsChosen loaded cmp drew ready (view new).rng index)

  -- Each endpoint that is ready, or pending and not cancelled, came by the changes that were read since the balancer was made.
  abbrev pub EndpointsCame : Type 0
  EndpointsCame = (discover : D) (rng : R) (made last : B) (run : List (Transition B Q (Error E X) (Option G))) → view made ≡ initial discover rng → ServiceRun balance made run last
      → (found : List (Found K S X)) × Finds discovered discover found (view last).discover
      × All (λ (e : K × S). Came eq s (changes found) e.0 e.1) (view last).services.ready
      × All (λ (p : PendingView K S). p.cancelled ≡ false → Came eq s (changes found) p.key p.service) (view last).services.pending
