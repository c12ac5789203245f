-- What a `ReadyCache` keeps to, over its calls.
use Rattle.std.specs.Prelude.{All, ◌≡◌, ◌||◌, ℕ, Bool, true, is_some, List, [], ◌∷◌, Result, Ok, Err}
use Rattle.std.specs.Map.{lookup}
use Rattle.futures.specs.declared.task.Poll.{Poll}
use Rattle.futures.specs.declared.task.Poll.TheVariants.{Ready}
use Rattle.tower_base.specs.declared.service.Service.{Ghosts as ServiceOf}
use Rattle.tower_pool.specs.Balance.{evicted, pushed}
use Rattle.tower_pool.specs.ReadyCache.{AtKey, Called, Checked, CheckedKey, ReadyCacheView, is_pending}
use Rattle.tower_pool.specs.ReadyCachePoll.{PendingPolled}
use Rattle.tower_pool.specs.declared.ready_cache.error.Failed.{Failed as Failure}
use Rattle.tower_pool.specs.declared.ready_cache.error.Error.{Error}
use Rattle.tower_pool.specs.declared.ready_cache.error.Error.TheVariants.{Failed}

-- A call that may change a cache's endpoints, with what it takes and what it returns.
pub data Call (K S Q E G : Type 0) : Type 0 where
  push : K → S → Result (Unit {0}) (K × S) → Call K S Q E G
  evict : K → Bool → Call K S Q E G
  poll_pending : Poll (Result (Unit {0}) (Error K E)) → Call K S Q E G
  check_ready : K → Result Bool (Failure K E) → Call K S Q E G
  check_ready_index : ℕ → Result Bool (Failure K E) → Call K S Q E G
  call_ready : K → Q → G → Call K S Q E G
  call_ready_index : ℕ → Q → G → Call K S Q E G

module _ {K S Q A E G : Type 0} (eq : K → K → Bool) (s : ServiceOf S Q A E G) where
  -- what each call does, by its contract
  abbrev pub Does : ReadyCacheView K S → Call K S Q E G → ReadyCacheView K S → Type 0
  Does old (Call.push key service (Ok done)) new = new ≡ pushed eq old key service
  Does old (Call.push key service (Err back)) new = new ≡ old
  Does old (Call.evict key found) new = new ≡ evicted eq old key
  Does old (Call.poll_pending answer) new = PendingPolled eq s old answer new
  Does old (Call.check_ready key answer) new = CheckedKey eq s old key answer new
  Does old (Call.check_ready_index index answer) new = Checked eq s old index answer new
  Does old (Call.call_ready key request future) new = AtKey eq key old.ready (λ index. Called eq s old index request future new)
  Does old (Call.call_ready_index index request future) new = Called eq s old index request future new

  -- These calls, one after another, lead from the old cache to the new one.
  abbrev pub Calls : ReadyCacheView K S → List (Call K S Q E G) → ReadyCacheView K S → Type 0
  Calls old [] new = new ≡ old
  Calls old (first ∷ rest) new = (mid : ReadyCacheView K S) × Does old first mid × Calls mid rest new

  -- The key has an endpoint: one that is ready, or one that is pending and isn't cancelled.
  abbrev pub has : K → ReadyCacheView K S → Bool
  has key cache = is_some (lookup (eq key) cache.ready) || is_pending eq key cache.pending

  -- The call evicts the key, or returns the failure of its endpoint.
  abbrev pub Ends : K → Call K S Q E G → Type 0
  Ends key (Call.evict other found) = eq key other ≡ true
  Ends key (Call.poll_pending (Ready (Err (Failed other error)))) = eq key other ≡ true
  Ends key (Call.check_ready other (Err failure)) = eq key failure.0 ≡ true
  Ends key (Call.check_ready_index index (Err failure)) = eq key failure.0 ≡ true
  Ends key call = ⊥

  -- A key with an endpoint has one after any calls that don't end it, and a key that was pushed has one.
  abbrev pub NoKeyIsLost : Type 0
  NoKeyIsLost = (old new : ReadyCacheView K S) (calls : List (Call K S Q E G)) (key : K) → Calls old calls new → All (λ call. ¬ (Ends key call)) calls
      → has key old ≡ true → has key new ≡ true

  abbrev pub PushedIsThere : Type 0
  PushedIsThere = (old new : ReadyCacheView K S) (key : K) (service : S) → Does old (Call.push key service (Ok tt)) new → has key new ≡ true
