-- The machine of `balance::p2c`: a discovery (an `impl Discover`), a ready cache of the endpoints that it inserted, and the index of the endpoint that
-- is to be called next.
use Rattle.std.specs.Prelude.{ℕ, zero, suc, ◌+◌, ◌≡◌, ◌≤◌, Bool, true, false, List, [], ◌∷◌, ◌++◌, Option, Some, None, IfSome, Result, Ok, Err, ◌⊎◌, length, slice_get, if◌then◌else◌}
use Rattle.std.specs.List.Sorted.{IsPermutation}
use Rattle.std.specs.Option.{MatchOption, option_map_or}
use Rattle.std.specs.Ordering.{partial_le}
use Rattle.std.specs.declared.cmp.Ordering.{Ordering}
use Rattle.futures.specs.declared.task.Poll.{Poll}
use Rattle.futures.specs.declared.task.Poll.TheVariants.{Ready, Pending}
use Rattle.indexmap.specs.IndexMap.{swap_remove_entry}
use Rattle.tower_base.specs.Answers.{answered}
use Rattle.tower_base.specs.Draw.{Drawn}
use Rattle.tower_base.specs.Iterations.{Iterates, Iterations, limit}
use Rattle.tower_base.specs.Quiet.{Ever}
use Rattle.tower_base.specs.declared.service.Service.{Ghosts as ServiceOf}
use Rattle.tower_base.specs.declared.service.Steps.{Ghosts as StepsOf}
use Rattle.tower_limit.specs.Discover.{Found, MayInsert}
use Rattle.tower_limit.specs.declared.discover.Change.TheVariants.{Insert, Remove}
use Rattle.tower_pool.specs.ReadyCache.{At, Called as CacheCalled, Checked, PendingNeeds, ReadyCacheView, Sound as CacheSound, cancel, pending_entry}
use Rattle.tower_pool.specs.ReadyCachePoll.{IfThenElse, PendingPolled}
use Rattle.tower_util.specs.Fuse.{Stepped as FuseStepped}
use Rattle.tower_pool.specs.declared.balance.p2c.service.Balance.{Balance}
use Rattle.tower_pool.specs.declared.balance.error.Error.{Error}
use Rattle.tower_pool.specs.declared.balance.error.Error.TheVariants.{Discover, Inner, Memory}
use Rattle.tower_pool.specs.declared.ready_cache.error.Failed.{Failed}
use Rattle.tower_pool.specs.declared.ready_cache.error.Error.{Error as CacheError}
use Rattle.tower_pool.specs.declared.ready_cache.error.Error.TheVariants.{Failed as EndpointFailed, Memory as NoRoom}

-- The value of a `Balance`. `kept` is the index of the endpoint that was chosen, `change` an insert that found no room yet, and `is_over` says
-- whether the discovery has ended.
pub record BalanceView (D R K S : Type 0) : Type 0 where
  pub discover : D
  pub services : ReadyCacheView K S
  pub kept : Option ℕ
  pub rng : R
  pub change : Option (K × S)
  pub is_over : Bool

-- the view of a `Balance`
abbrev pub view_of : {D R Q K S X : Type 0} → Balance D R Q K S X → BalanceView D R K S
view_of b = record { discover = b.discover; services = b.services.lists; kept = b.kept; rng = b.rng; change = b.change; is_over = b.is_over }

-- a new `Balance`
abbrev pub initial : {D R K S : Type 0} → D → R → BalanceView D R K S
initial discover rng = record { discover = discover; services = record { ready = []; pending = [] }; kept = None; rng = rng; change = None; is_over = false }

-- the number of endpoints, ready or pending
abbrev pub count_of : {D R K S : Type 0} → BalanceView D R K S → ℕ
count_of v = length v.services.ready + length v.services.pending

-- The discovery has ended, and there is no endpoint. Then a pending poll waits for nothing but the kit's `pending`, whose poll may ask for another: no
-- clause of the kit bounds that.
abbrev pub IsIdle : {D R K S : Type 0} → BalanceView D R K S → Type 0
IsIdle v = (v.is_over ≡ true) × (count_of v ≡ 0)

-- A `Balance` is sound, as the constructors ensure, if the discovery, each endpoint and whatever the discovery may insert are sound.
-- (`discovered old found new`: a poll of the discovery may return `found`.)
pub record Sound {D R K S X : Type 0} (discovers : D → Type 0) (discovered : D → Found K S X → D → Type 0) (sound : S → Type 0) (v : BalanceView D R K S) : Type 0 where
  pub discover : discovers v.discover
  pub services : CacheSound sound v.services
  pub change : IfSome v.change (λ e. sound e.1)
  pub inserts : (key : K) (service : S) → MayInsert discovered v.discover key service → sound service

-- What a pending `Balance` waits for: the discovery, unless it has ended, and each pending endpoint.
abbrev pub Needs : {D R K S : Type 0} → (D → ℕ → Type 0) → (S → ℕ → Type 0) → BalanceView D R K S → ℕ → Type 0
Needs discovery endpoint v source = ((v.is_over ≡ false) × discovery v.discover source) ⊎ PendingNeeds endpoint v.services.pending source

module _ {K S : Type 0} (eq : K → K → Bool) where
  -- the cache after a push that found room
  abbrev pub pushed : ReadyCacheView K S → K → S → ReadyCacheView K S
  pushed c k s = record c { pending = cancel eq k c.pending ++ pending_entry k s ∷ [] }

  -- the balancer after an insert that was kept is pushed, if there is one
  abbrev pub push_kept : {D R : Type 0} → Option (K × S) → BalanceView D R K S → BalanceView D R K S
  push_kept None old = old
  push_kept (Some e) old = record old { services = pushed old.services e.0 e.1; change = None }

  -- the cache after an eviction
  abbrev pub evicted : ReadyCacheView K S → K → ReadyCacheView K S
  evicted c k = record { ready = swap_remove_entry (eq k) c.ready; pending = cancel eq k c.pending }

module _ {D R K S X : Type 0} (discovered : D → Found K S X → D → Type 0) (eq : K → K → Bool) {E : Type 0} where
  -- An insert is pushed. If there is no room, it is kept for the next poll.
  abbrev pub Inserted : BalanceView D R K S → K → S → Option (Result (Unit {0}) (Error E X)) → BalanceView D R K S → Type 0
  Inserted old k s answer new = ((answer ≡ None) × (new ≡ record old { services = pushed eq old.services k s }))
      ⊎ ((answer ≡ Some (Err Memory)) × (new ≡ record old { change = Some (k, s) }))

  -- one iteration of reading the discovery, by what was found
  abbrev pub AfterFound : BalanceView D R K S → Found K S X → Option (Result (Unit {0}) (Error E X)) → BalanceView D R K S → Type 0
  AfterFound old (Ready (Some (Ok (Insert k s)))) answer new = Inserted old k s answer new
  AfterFound old (Ready (Some (Ok (Remove k)))) answer new = (answer ≡ None) × (new ≡ record old { services = evicted eq old.services k })
  AfterFound old (Ready (Some (Err x))) answer new = (answer ≡ Some (Err (Discover x))) × (new ≡ old)
  AfterFound old (Ready None) answer new = (answer ≡ Some (Ok tt)) × (new ≡ record old { is_over = true })
  AfterFound old Pending answer new = (answer ≡ Some (Ok tt)) × (new ≡ old)

  -- One iteration of reading polls the discovery once.
  abbrev pub Reads : BalanceView D R K S → Option (Result (Unit {0}) (Error E X)) → BalanceView D R K S → Type 0
  Reads old answer new = (found : Found K S X) × (left : D) × discovered old.discover found left × AfterFound (record old { discover = left }) found answer new

  -- A discovery that hasn't ended is read, in 64 iterations at most.
  abbrev pub ReadsAll : BalanceView D R K S → Result (Unit {0}) (Error E X) → BalanceView D R K S → Type 0
  ReadsAll old answer new = IfThenElse old.is_over ((answer ≡ Ok tt) × (new ≡ old)) (Iterations Reads (Ok tt) old answer new)

  -- An insert that was kept is pushed first.
  abbrev pub ChangedAt : Option (K × S) → BalanceView D R K S → Result (Unit {0}) (Error E X) → BalanceView D R K S → Type 0
  ChangedAt None old answer new = ReadsAll old answer new
  ChangedAt (Some e) old answer new = ((answer ≡ Err Memory) × (new ≡ old))
      ⊎ ReadsAll (record old { services = pushed eq old.services e.0 e.1; change = None }) answer new

  -- the changes of a poll
  abbrev pub Changed : BalanceView D R K S → Result (Unit {0}) (Error E X) → BalanceView D R K S → Type 0
  Changed old answer new = ChangedAt old.change old answer new

-- The reading of a discovery that hasn't ended reaches the limit: 64 iterations in a row give no answer.
abbrev pub ReadsToLimit : {D R K S X : Type 0} → (D → Found K S X → D → Type 0) → (K → K → Bool) → (E : Type 0) → BalanceView D R K S → BalanceView D R K S → Type 0
ReadsToLimit discovered eq E old new = (old.is_over ≡ false) × Iterates (Reads discovered eq {E = E}) limit old new

-- Why the reading may ask for another poll: the causes of the discovery, unless it has ended, or the limit.
abbrev pub ReadStirs : {D R K S X E : Type 0} → (D → Found K S X → D → Type 0) → (K → K → Bool) → (D → D → Type 0) → BalanceView D R K S → Result (Unit {0}) (Error E X) → BalanceView D R K S → Type 0
ReadStirs {E = E} discovered eq stirs old answer new = ((old.is_over ≡ false) × Ever stirs) ⊎ ((answer ≡ Ok tt) × ReadsToLimit discovered eq E old new)

-- the ready endpoint that an iteration polls, if there is one: the endpoint at the kept index
abbrev pub polled_at : {K S : Type 0} → Option ℕ → List (K × S) → List (K × S)
polled_at None ready = []
polled_at (Some i) ready = option_map_or (λ e. e ∷ []) (slice_get ready i) []

-- If an iteration picked an endpoint, another iteration follows. If it picked none, the poll is pending.
abbrev pub answer_of : {A : Type 0} → Option ℕ → Option (Poll A)
answer_of None = Some Pending
answer_of (Some i) = None

module _ {K S Q A E G X : Type 0} (eq : K → K → Bool) (s : ServiceOf S Q A E G) where
  -- how the promotion ends, by the last poll of the pending endpoints
  abbrev pub Ended : Poll (Result (Unit {0}) (CacheError K E)) → Result (Unit {0}) (Error E X) → Type 0
  Ended (Ready (Ok u)) answer = answer ≡ Ok tt
  Ended Pending answer = answer ≡ Ok tt
  Ended (Ready (Err NoRoom)) answer = answer ≡ Err Memory
  Ended (Ready (Err (EndpointFailed k e))) answer = ⊥

  -- The pending endpoints are polled again after each that failed, which is dropped. The number is that of the endpoints that failed.
  abbrev pub PromotesAfter : ℕ → ReadyCacheView K S → Result (Unit {0}) (Error E X) → ReadyCacheView K S → Type 0
  PromotesAfter zero old answer new = (inner : Poll (Result (Unit {0}) (CacheError K E))) × PendingPolled eq s old inner new × Ended inner answer
  PromotesAfter (suc n) old answer new = (mid : ReadyCacheView K S) × (k : K) × (e : E) × PendingPolled eq s old (Ready (Err (EndpointFailed k e))) mid × PromotesAfter n mid answer new

  abbrev pub Promotes : ReadyCacheView K S → Result (Unit {0}) (Error E X) → ReadyCacheView K S → Type 0
  Promotes old answer new = (n : ℕ) × PromotesAfter n old answer new

-- `loaded service load` says that the service may report this load, `cmp` compares loads, and `drew old word new` says that the generator may make this
-- word.
module _ {K S M : Type 0} (loaded : S → M → Type 0) (cmp : M → M → Option Ordering) where
  -- Whether the load that one endpoint reports is at most that of the other. If the loads don't compare, it isn't.
  abbrev pub IsLighter : List (K × S) → ℕ → ℕ → Bool → Type 0
  IsLighter ready i j lighter = (x : M) × (y : M) × At ready i (λ e. loaded e.1 x) × At ready j (λ e. loaded e.1 y) × (lighter ≡ partial_le cmp x y)

module _ {R K S M : Type 0} (loaded : S → M → Type 0) (cmp : M → M → Option Ordering) (drew : R → ℕ → R → Type 0) where
  -- If no endpoint is ready, none is picked. If just one is ready, it is picked. Of more, two are drawn and report their loads: the first is picked if
  -- its load is at most the second's, and otherwise the second.
  abbrev pub PickedOf : List (K × S) → List (K × S) → R → Option ℕ → R → Type 0
  PickedOf [] ready old index new = (index ≡ None) × (new ≡ old)
  PickedOf (e ∷ []) ready old index new = (index ≡ Some 0) × (new ≡ old)
  PickedOf (e ∷ f ∷ es) ready old index new = (i : ℕ) × (j : ℕ) × (lighter : Bool) × Drawn drew old (length ready) (i ∷ j ∷ []) new
      × IsLighter loaded cmp ready i j lighter × (index ≡ Some (if lighter then i else j))

  abbrev pub Picked : List (K × S) → R → Option ℕ → R → Type 0
  Picked ready old index new = PickedOf ready ready old index new

module _ {D R K S Q A E G X : Type 0} (eq : K → K → Bool) (s : ServiceOf S Q A E G) where
  -- the promotion of a poll
  abbrev pub Promoted : BalanceView D R K S → Result (Unit {0}) (Error E X) → BalanceView D R K S → Type 0
  Promoted old answer new = Promotes eq s old.services answer new.services × (new ≡ record old { services = new.services })

module _ {D R K S Q A E G X M : Type 0} (eq : K → K → Bool) (s : ServiceOf S Q A E G) (loaded : S → M → Type 0) (cmp : M → M → Option Ordering) (drew : R → ℕ → R → Type 0) where
  -- The index that was picked is kept, and is checked in the next iteration. If none was picked, the poll is pending.
  abbrev pub Chooses : BalanceView D R K S → Option (Poll (Result (Unit {0}) (Error E X))) → BalanceView D R K S → Type 0
  Chooses old answer new = (index : Option ℕ) × (rng : R) × Picked loaded cmp drew old.services.ready old.rng index rng
      × (answer ≡ answer_of index) × (new ≡ record old { rng = rng; kept = index })

  -- After a check the endpoint at the kept index is ready, or another one is chosen.
  abbrev pub AfterCheck : BalanceView D R K S → ℕ → Result Bool (Failed K E) → Option (Poll (Result (Unit {0}) (Error E X))) → BalanceView D R K S → Type 0
  AfterCheck old i (Ok true) answer new = At old.services.ready i (λ e. s.ready e.1) × (answer ≡ Some (Ready (Ok tt))) × (new ≡ old)
  AfterCheck old i (Ok false) answer new = Chooses old answer new
  AfterCheck old i (Err x) answer new = Chooses old answer new

  -- one iteration of choosing, which checks a kept index once
  abbrev pub IterationAt : Option ℕ → BalanceView D R K S → Option (Poll (Result (Unit {0}) (Error E X))) → BalanceView D R K S → Type 0
  IterationAt None old answer new = Chooses old answer new
  IterationAt (Some i) old answer new = (inner : Result Bool (Failed K E)) × (services : ReadyCacheView K S) × Checked eq s old.services i inner services
      × AfterCheck (record old { services = services }) i inner answer new

  abbrev pub Iteration : BalanceView D R K S → Option (Poll (Result (Unit {0}) (Error E X))) → BalanceView D R K S → Type 0
  Iteration old answer new = IterationAt old.kept old answer new

  -- an iteration, with the endpoints that were polled so far
  abbrev pub CountedIteration : BalanceView D R K S × List (K × S) → Option (Poll (Result (Unit {0}) (Error E X))) → BalanceView D R K S × List (K × S) → Type 0
  CountedIteration old answer new = Iteration old.0 answer new.0 × (new.1 ≡ old.1 ++ polled_at old.0.kept old.0.services.ready)

  -- The choosing of a poll makes at most one iteration more than endpoints were ready when it began. The endpoints that were ready then are, in some
  -- order, those that were polled and the rest, so each is polled at most once.
  pub record Chosen (old : BalanceView D R K S) (answer : Poll (Result (Unit {0}) (Error E X))) (new : BalanceView D R K S) : Type 0 where
    pub count : ℕ
    pub last : BalanceView D R K S
    pub polled : List (K × S)
    pub rest : List (K × S)
    pub within : count ≤ length old.services.ready
    pub went : Iterates CountedIteration count (old, []) (last, polled)
    pub ends : Iteration last (Some answer) new
    pub once : IsPermutation old.services.ready ((polled ++ polled_at last.kept last.services.ready) ++ rest)

  -- `AfterPromotion` is what follows the promotion, and `AfterChanges` what follows the changes, which come first.
  abbrev pub AfterPromotion : Result (Unit {0}) (Error E X) → BalanceView D R K S → Poll (Result (Unit {0}) (Error E X)) → BalanceView D R K S → Type 0
  AfterPromotion (Err e) old answer new = (answer ≡ Ready (Err e)) × (new ≡ old)
  AfterPromotion (Ok u) old answer new = Chosen old answer new

  abbrev pub AfterChanges : Result (Unit {0}) (Error E X) → BalanceView D R K S → Poll (Result (Unit {0}) (Error E X)) → BalanceView D R K S → Type 0
  AfterChanges (Err e) old answer new = (answer ≡ Ready (Err e)) × (new ≡ old)
  AfterChanges (Ok u) old answer new = (inner : Result (Unit {0}) (Error E X)) × (mid : BalanceView D R K S) × Promoted eq s old inner mid × AfterPromotion inner mid answer new

  -- a poll of readiness: changes, promotion, and then the choosing
  pub record Polled (discovered : D → Found K S X → D → Type 0) (old : BalanceView D R K S) (answer : Poll (Result (Unit {0}) (Error E X))) (new : BalanceView D R K S) : Type 0 where
    pub inner : Result (Unit {0}) (Error E X)
    pub mid : BalanceView D R K S
    pub changed : Changed discovered eq old inner mid
    pub goes : AfterChanges inner mid answer new

  -- Why a poll of readiness may ask for another: the causes of the discovery, unless it has ended, and those of the endpoints; the reading reaches
  -- the limit, and then comes what follows the changes; or nothing is left that could wake the task (`IsIdle`).
  abbrev pub Stirs : (D → Found K S X → D → Type 0) → (D → D → Type 0) → BalanceView D R K S → BalanceView D R K S → Type 0
  Stirs discovered stirs old new = ((old.is_over ≡ false) × Ever stirs) ⊎ Ever s.stirs ⊎ IsIdle new
      ⊎ ((mid : BalanceView D R K S) × (answer : Poll (Result (Unit {0}) (Error E X))) × ReadsToLimit discovered eq E (push_kept eq old.change old) mid
      × AfterChanges (Ok tt) mid answer new)

-- an index is kept, and the endpoint there is ready
abbrev pub IsReady : {D R K S : Type 0} → (S → Type 0) → BalanceView D R K S → Type 0
IsReady ready v = MatchOption v.kept ⊥ (λ i. At v.services.ready i (λ e. ready e.1))

module _ {D R K S Q A E G : Type 0} (eq : K → K → Bool) (s : ServiceOf S Q A E G) where
  -- A call goes to the endpoint at the kept index, which is no longer kept afterwards.
  abbrev pub Called : BalanceView D R K S → Q → Option G → BalanceView D R K S → Type 0
  Called old request future new = MatchOption old.kept ⊥ (λ i. (inner : G) × CacheCalled eq s old.services i request inner new.services
      × (future ≡ Some inner) × (new ≡ record old { services = new.services; kept = None }))

module _ {F A E X : Type 0} (f : StepsOf F (Result A E)) where
  -- A poll of an endpoint's response, whose error is wrapped in `Inner`. The response is dropped once it is ready.
  pub record Stepped (old : Option F) (answer : Poll (Result A (Error E X))) (new : Option F) : Type 0 where
    pub inner : Poll (Result A E)
    pub stepped : FuseStepped f.stepped old inner new
    pub answers : answer ≡ answered Inner inner
