-- The order of calls: which calls the items of a whole stream come from.
use Rattle.std.specs.Prelude.{◌≡◌, ℕ, zero, suc, List, [], ◌∷◌, Option, Some, None, Result, Ok, Err}
use Rattle.std.specs.List.{AllZip}
use Rattle.std.specs.List.Sorted.{IsPermutation}
use Rattle.futures.specs.declared.task.Poll.{Poll}
use Rattle.futures.specs.declared.task.Poll.TheVariants.{Ready, Pending}
use Rattle.tower_base.specs.Gives.{MayGive, MayYield}
use Rattle.tower_base.specs.declared.service.Flow.{Ghosts as FlowOf}
use Rattle.tower_base.specs.declared.service.Service.{Ghosts as ServiceOf}
use Rattle.tower_base.specs.declared.service.Steps.{Ghosts as StepsOf}
use Rattle.tower_ware.specs.CallAll.{CallAllFlowed, CallAllUnorderedFlowed, CallerView, New}
use Rattle.tower_ware.specs.Queue.{Queue}
use Rattle.tower_ware.specs.declared.util.call_all.error.Error.{Error}
use Rattle.tower_ware.specs.declared.util.call_all.error.Error.TheVariants.{Inner, Memory}
use Rattle.tower_ware.specs.declared.util.call_all.slot.Slot.{Slot}

-- the answers among the items: all items but `Memory`
abbrev pub answers_of : {A E : Type 0} → List (Result A (Error E)) → List (Result A E)
answers_of [] = []
answers_of (Ok x ∷ items) = Ok x ∷ answers_of items
answers_of (Err (Inner e) ∷ items) = Err e ∷ answers_of items
answers_of (Err Memory ∷ items) = answers_of items

-- The answer isn't an error.
abbrev pub IsCalm : {E : Type 0} → Poll (Result (Unit {0}) E) → Type 0
IsCalm (Ready (Err e)) = ⊥
IsCalm (Ready (Ok x)) = Unit {0}
IsCalm Pending = Unit {0}

-- No poll of readiness returns an error.
abbrev pub NeverFails : {S R A E F : Type 0} → ServiceOf S R A E F → Type 0
NeverFails {S} {E = E} s = (old new : S) (e : E) → ¬ s.polled old (Ready (Err e)) new

-- the service without the polls of readiness that return an error
abbrev pub unfailing : {S R A E F : Type 0} → ServiceOf S R A E F → ServiceOf S R A E F
unfailing s = record s { polled = λ old answer new. s.polled old answer new × IsCalm answer }

module _ {S R A E F : Type 0} (s : ServiceOf S R A E F) where
  -- The given number of polls of readiness were pending.
  abbrev pub Waits : ℕ → Option S → Option S → Type 0
  Waits zero old new = new ≡ old
  Waits (suc n) old new = (service polled : S) × (old ≡ Some service) × s.polled service Pending polled × Waits n (Some polled) new

  -- the call of a request: some polls of readiness were pending, the next one returned `Ok`, and the ready value that it left was called
  pub record IsCall (old : Option S) (request : R) (future : F) (new : Option S) : Type 0 where
    pub waited : ℕ
    pub service : S
    pub willing : S
    pub left : S
    pub waits : Waits waited old (Some service)
    pub polled : s.polled service (Ready (Ok tt)) willing
    pub ready : s.ready willing
    pub called : s.called willing request future left
    pub after : new ≡ Some left

  -- A run of the service to an end value: one call for each of these requests, in this order, which returned these futures, and finally some
  -- polls of readiness that were pending.
  abbrev pub Serves : List R → List F → Option S → Option S → Type 0
  Serves [] [] old new = (n : ℕ) × Waits n old new
  Serves (request ∷ requests) (future ∷ futures) old new = (mid : Option S) × IsCall old request future mid × Serves requests futures mid new
  Serves [] (future ∷ futures) old new = ⊥
  Serves (request ∷ requests) [] old new = ⊥

-- the requests of the stream, after the kept request if there is one
abbrev pub after_kept : {R : Type 0} → Option R → List R → List R
after_kept None requests = requests
after_kept (Some request) requests = request ∷ requests

module _ {S Q R A E F : Type 0} (s : ServiceOf S R A E F) (q : FlowOf Q R) (f : StepsOf F (Result A E)) (can_poll : F → Type 0) where
  -- The stream yielded these requests, in this order, and then ended. The service was called once with each, in this order, after the kept
  -- request. Each call has one of these answers, in this order.
  pub record CameOf (service : Option S) (stream : Q) (kept : Option R) (answers : List (Result A E)) : Type 0 where
    pub requests : List R
    pub futures : List F
    pub end : Option S
    pub requested : MayYield q.flowed stream requests None
    pub made : Serves s (after_kept kept requests) futures service end
    pub gave : AllZip (MayGive f.stepped) futures answers

  -- An ordered stream that yielded these items and then ended, without a readiness error: one answer for each request, in the order of the
  -- requests.
  abbrev pub InOrder : Option S → Q → Option R → Type 0
  InOrder service stream kept = (old : CallerView S Q (Queue (Slot F (Result A E))) R) (items : List (Result A (Error E))) → New service stream kept old
      → MayYield (CallAllFlowed (unfailing s) q f can_poll) old items None → CameOf service stream kept (answers_of items)

  -- An unordered stream: one answer for each request, in any order.
  abbrev pub InAnyOrder : Option S → Q → Option R → Type 0
  InAnyOrder service stream kept = (old : CallerView S Q (Queue F) R) (items : List (Result A (Error E))) → New service stream kept old
      → MayYield (CallAllUnorderedFlowed (unfailing s) q f can_poll) old items None
      → (answers : List (Result A E)) × CameOf service stream kept answers × IsPermutation answers (answers_of items)

  -- If readiness never fails, a stream yields its items without a readiness error.
  abbrev pub Calms : {D : Type 0}
      → (ServiceOf S R A E F → CallerView S Q D R → Poll (Option (Result A (Error E))) → CallerView S Q D R → Type 0) → Type 0
  Calms {D} Flowed = NeverFails s → (old : CallerView S Q D R) (items : List (Result A (Error E))) (last : Option (Result A (Error E)))
      → MayYield (Flowed s) old items last → MayYield (Flowed (unfailing s)) old items last
