-- What `poll_pending` does: it polls each pending endpoint that isn't cancelled once, longest waiting first. It stops at the
-- first that fails, or for which allocation fails.
use Rattle.std.specs.Prelude.{ℕ, zero, suc, ◌≡◌, Bool, true, false, List, [], ◌∷◌, ◌++◌, Result, Ok, Err, ◌⊎◌}
use Rattle.futures.specs.declared.task.Poll.{Poll}
use Rattle.futures.specs.declared.task.Poll.TheVariants.{Ready, Pending}
use Rattle.indexmap.specs.IndexMap.{insert_entry}
use Rattle.tower_base.specs.declared.service.Service.{Ghosts as ServiceOf}
use Rattle.tower_pool.specs.ReadyCache.{PendingView, ReadyCacheView}
use Rattle.tower_pool.specs.declared.ready_cache.error.Error.{Error}
use Rattle.tower_pool.specs.declared.ready_cache.error.Error.TheVariants.{Failed, Memory}

-- one of two facts, by a test
abbrev pub IfThenElse : Bool → Type 0 → Type 0 → Type 0
IfThenElse true P Q = P
IfThenElse false P Q = Q

-- one of three facts, by whether an endpoint is ready, failed or is pending
abbrev pub PollCases : {E : Type 0} → Poll (Result (Unit {0}) E) → Type 0 → (E → Type 0) → Type 0 → Type 0
PollCases (Ready (Ok u)) P Fails Waits = P
PollCases (Ready (Err e)) P Fails Waits = Fails e
PollCases Pending P Fails Waits = Waits

-- what a poll returns once it has polled all: `Ok` if none of them is pending still
abbrev pub Ends : {X E : Type 0} → List X → Poll (Result (Unit {0}) E) → Type 0
Ends [] answer = answer ≡ Ready (Ok tt)
Ends (x ∷ xs) answer = answer ≡ Pending

module _ {K S Q A E G : Type 0} (eq : K → K → Bool) (s : ServiceOf S Q A E G) where
  -- What a poll does with the entries that it hasn't polled yet (the second list), if those of the first list were polled and are still pending. A
  -- cancelled entry leaves. For another one, room among the ready ones is allocated; if that fails, the poll stops (`Memory`). Then it is polled
  -- once. If it is ready, it goes to the end of the ready ones, or takes the index of an older one of its key, whose key stays. If it failed, it
  -- leaves, and the poll stops. If it is pending, it stays.
  abbrev pub EachPolled : List (PendingView K S) → List (PendingView K S) → List (K × S) → Poll (Result (Unit {0}) (Error K E)) → ReadyCacheView K S → Type 0
  EachPolled polled [] ready answer new = Ends polled answer × (new ≡ record { ready = ready; pending = polled })
  EachPolled polled (p ∷ rest) ready answer new =
      IfThenElse p.cancelled (EachPolled polled rest ready answer new)
      (((answer ≡ Ready (Err Memory)) × (new ≡ record { ready = ready; pending = polled ++ p ∷ rest }))
      ⊎ ((inner : Poll (Result (Unit {0}) E)) × (left : S) × s.polled p.service inner left × PollCases inner
      (EachPolled polled rest (insert_entry eq ready p.key left) answer new)
      (λ e. (answer ≡ Ready (Err (Failed p.key e))) × (new ≡ record { ready = ready; pending = polled ++ rest }))
      (EachPolled (polled ++ (record p { service = left }) ∷ []) rest ready answer new)))

  -- a whole poll: none was polled yet
  abbrev pub PendingPolled : ReadyCacheView K S → Poll (Result (Unit {0}) (Error K E)) → ReadyCacheView K S → Type 0
  PendingPolled old answer new = EachPolled [] old.pending old.ready answer new

  -- One entry's part of a poll, as the code's loop makes it: `Ok true` says that the entry is pending still, and is the last now; `Ok false` that
  -- it left the list, since it was cancelled or is ready.
  abbrev pub Asked : List (K × S) → PendingView K S → List (PendingView K S) → Result Bool (Error K E) → ReadyCacheView K S → Type 0
  Asked ready p rest (Ok false) new =
      IfThenElse p.cancelled (new ≡ record { ready = ready; pending = rest })
      ((left : S) × s.polled p.service (Ready (Ok tt)) left × (new ≡ record { ready = insert_entry eq ready p.key left; pending = rest }))
  Asked ready p rest (Ok true) new =
      (p.cancelled ≡ false) × ((left : S) × s.polled p.service Pending left × (new ≡ record { ready = ready; pending = rest ++ (record p { service = left }) ∷ [] }))
  Asked ready p rest (Err Memory) new = (p.cancelled ≡ false) × (new ≡ record { ready = ready; pending = rest ++ p ∷ [] })
  Asked ready p rest (Err (Failed k e)) new =
      (p.cancelled ≡ false) × (k ≡ p.key) × ((left : S) × s.polled p.service (Ready (Err e)) left × (new ≡ record { ready = ready; pending = rest }))

  -- the first entry's part, if there is an entry
  abbrev pub PolledFirst : ReadyCacheView K S → Result Bool (Error K E) → ReadyCacheView K S → Type 0
  PolledFirst old answer new = (p : PendingView K S) (rest : List (PendingView K S)) → old.pending ≡ p ∷ rest → Asked old.ready p rest answer new

-- The list after this many of its first entries went to its end, one after another. A poll that stops early so puts the entries that it hasn't
-- polled behind those that are pending still.
abbrev pub rotated : {X : Type 0} → ℕ → List X → List X
rotated zero xs = xs
rotated (suc n) [] = rotated n []
rotated (suc n) (x ∷ xs) = rotated n (xs ++ x ∷ [])
