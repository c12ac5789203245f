-- The machine of `filter`, for both kinds.
use Rattle.std.specs.Prelude.{◌≡◌, ⊤, ◌⊎◌, ℕ, Result, Ok, Err}
use Rattle.std.specs.declared.clone.Clone.{Ghosts as CloneOf}
use Rattle.futures.specs.declared.task.Poll.{Poll}
use Rattle.futures.specs.declared.task.Poll.TheVariants.{Ready, Pending}
use Rattle.tower_base.specs.Answers.{answered}
use Rattle.tower_base.specs.declared.service.Service.{Ghosts as ServiceOf}
use Rattle.tower_base.specs.declared.service.Steps.{Ghosts as StepsOf}
use Rattle.tower_ware.specs.declared.filter.error.Error.{Error}
use Rattle.tower_ware.specs.declared.filter.error.Error.TheVariants.{Inner, Rejected, Memory}
use Rattle.tower_ware.specs.declared.filter.predicate.AsyncPredicate.{Ghosts as AsyncPredicateOf}
use Rattle.tower_ware.specs.declared.filter.predicate.Predicate.{Ghosts as PredicateOf}
use Rattle.tower_ware.specs.declared.filter.state.State.{State}
use Rattle.tower_ware.specs.declared.filter.state.State.TheVariants.{Response, Refusal, Answered}
use Rattle.tower_ware.specs.declared.filter.state.AsyncState.{AsyncState}
use Rattle.tower_ware.specs.declared.filter.state.AsyncState.TheVariants.{Check, InFlight, NoClone}

-- a filter of either kind
pub record FilterView (S U : Type 0) : Type 0 where
  pub inner : S
  pub predicate : U

-- The future of a `Filter` may be polled if its response may be, or if it holds a refusal. Once it has returned either, it may not.
abbrev pub ResponseFutureCanPoll : {F P : Type 0} → (F → Type 0) → State F P → Type 0
ResponseFutureCanPoll can_poll (Response f) = can_poll f
ResponseFutureCanPoll can_poll (Refusal p) = ⊤
ResponseFutureCanPoll can_poll Answered = ⊥

-- the sources that it waits for: those of its response
abbrev pub response_future_needs : {F P : Type 0} → (F → ℕ → Type 0) → State F P → ℕ → Type 0
response_future_needs needs (Response f) source = needs f source
response_future_needs needs (Refusal p) source = ⊥
response_future_needs needs Answered source = ⊥

-- The future of an `AsyncFilter` may be polled if its check may be and the service beside the check is sound and ready, or if its response may be.
-- After an answer it still holds the check or the response that it polled last, whose own rule decides whether it may be polled again.
abbrev pub AsyncResponseFutureCanPoll : {S Q A E G C F : Type 0} → ServiceOf S Q A E G → (C → Type 0) → (F → Type 0) → AsyncState C S F → Type 0
AsyncResponseFutureCanPoll s check response (Check c service) = check c × s.sound service × s.ready service
AsyncResponseFutureCanPoll s check response (InFlight f) = response f
AsyncResponseFutureCanPoll s check response NoClone = ⊤

-- the sources that it waits for: those of its check or of its response
abbrev pub async_response_future_needs : {S C F : Type 0} → (C → ℕ → Type 0) → (F → ℕ → Type 0) → AsyncState C S F → ℕ → Type 0
async_response_future_needs check response (Check c service) source = check c source
async_response_future_needs check response (InFlight f) source = response f source
async_response_future_needs check response NoClone source = ⊥

-- why a poll of it may ask for another: the response's causes, also if this was the response's last poll
abbrev pub response_future_stirs : {F P : Type 0} → (F → F → Type 0) → State F P → State F P → Type 0
response_future_stirs stirs (Response old) (Response new) = stirs old new
response_future_stirs {F} stirs (Response old) Answered = (left : F) × stirs old left
response_future_stirs stirs (Response old) (Refusal p) = ⊥
response_future_stirs stirs (Refusal p) new = ⊥
response_future_stirs stirs Answered new = ⊥

-- Why a poll of it may ask for another: the causes of its check or of its response. If the check accepted in this poll, the response was made and
-- polled in it, too.
abbrev pub async_response_future_stirs : {S C F : Type 0} → (C → C → Type 0) → (F → F → Type 0) → AsyncState C S F → AsyncState C S F → Type 0
async_response_future_stirs check response (Check old service) (Check new other) = check old new
async_response_future_stirs {C = C} {F = F} check response (Check old service) (InFlight new) =
    ((left : C) × check old left) ⊎ ((made : F) × response made new)
async_response_future_stirs check response (InFlight old) (InFlight new) = response old new
async_response_future_stirs check response (Check old service) NoClone = ⊥
async_response_future_stirs check response (InFlight old) (Check new service) = ⊥
async_response_future_stirs check response (InFlight old) NoClone = ⊥
async_response_future_stirs check response NoClone new = ⊥

-- a poll of readiness: one poll of the inner service
pub record Polled {S Q A E F U P : Type 0} (s : ServiceOf S Q A E F)
    (old : FilterView S U) (answer : Poll (Result (Unit {0}) (Error E P))) (new : FilterView S U) : Type 0 where
  pub inner : Poll (Result (Unit {0}) E)
  pub polled : s.polled old.inner inner new.inner
  pub answers : answer ≡ answered Inner inner
  pub same : new.predicate ≡ old.predicate

-- A call: the predicate is called once; `checked` is its own relation between its old value, the request, its result and its new value. If it
-- accepts the request, which it may change, the inner service, which is ready, is called with it. If it rejects the request, the future holds its
-- error, and the inner service isn't called.
abbrev pub FilterCalled : {S Q A E F U R P : Type 0} → ServiceOf S Q A E F → PredicateOf U R Q P → FilterView S U → R → State F P → FilterView S U → Type 0
FilterCalled {Q = Q} s u old request (Response future) new = (inside : Q) × u.checked old.predicate request (Ok inside) new.predicate
    × s.ready old.inner × s.called old.inner inside future new.inner
FilterCalled s u old request (Refusal p) new = u.checked old.predicate request (Err p) new.predicate × (new.inner ≡ old.inner)
FilterCalled s u old request Answered new = ⊥

-- A call of an `AsyncFilter`: the service that was polled goes into the future, a clone of it stays, and the predicate is called, which returns
-- the check (`checked`). If cloning fails, which happens only if the service's clone may fail, nothing changes.
abbrev pub AsyncFilterCalled : {S Q A E F U R P C : Type 0} → ServiceOf S Q A E F → CloneOf S → AsyncPredicateOf U R Q P C
    → FilterView S U → R → AsyncState C S F → FilterView S U → Type 0
AsyncFilterCalled s clones u old request (Check check service) new =
    s.ready old.inner × (service ≡ old.inner) × clones.is_clone old.inner new.inner × u.checked old.predicate request check new.predicate
AsyncFilterCalled s clones u old request (InFlight future) new = ⊥
AsyncFilterCalled s clones u old request NoClone new = (new ≡ old) × ¬ (clones.is_infallible old.inner)

module _ {A E F P : Type 0} (f : StepsOf F (Result A E)) where
  -- one poll of the response
  pub record InFlightStepped (old : F) (answer : Poll (Result A (Error E P))) (new : F) : Type 0 where
    pub inner : Poll (Result A E)
    pub stepped : f.stepped old inner new
    pub answers : answer ≡ answered Inner inner

  -- A poll of the future: one poll of the response, or the predicate's error. After its answer the future holds neither.
  abbrev pub ResponseFutureStepped : State F P → Poll (Result A (Error E P)) → State F P → Type 0
  ResponseFutureStepped (Response old) answer new = (left : F) × InFlightStepped old answer left × (new ≡ elim answer [ Ready x ↦ Answered | Pending ↦ Response left ])
  ResponseFutureStepped (Refusal p) answer new = (answer ≡ Ready (Err (Rejected p))) × (new ≡ Answered)
  ResponseFutureStepped Answered answer new = ⊥

module _ {S Q A E F C P : Type 0} (s : ServiceOf S Q A E F) (f : StepsOf F (Result A E)) (c : StepsOf C (Result Q P)) where
  -- What follows a poll of the check. If it is pending, so is the future. If it rejects the request, the future returns its error, and still
  -- holds the check. If it accepts, the service, which is ready, is called with the checked request, and the response is polled at once.
  abbrev pub AfterCheck : Poll (Result Q P) → C → S → Poll (Result A (Error E P)) → AsyncState C S F → Type 0
  AfterCheck Pending check service answer new = (answer ≡ Pending) × (new ≡ Check check service)
  AfterCheck (Ready (Err p)) check service answer new = (answer ≡ Ready (Err (Rejected p))) × (new ≡ Check check service)
  AfterCheck (Ready (Ok request)) check service answer new = (left : S) × (future : F) × (polled : F)
      × s.ready service × s.called service request future left × InFlightStepped f future answer polled × (new ≡ InFlight polled)

  -- A poll of the future of an `AsyncFilter`: one poll of the check and, if that accepts, one of the new response; later one poll of the response.
  -- If no service was cloned at the call, it returns `Memory`.
  abbrev pub AsyncResponseFutureStepped : AsyncState C S F → Poll (Result A (Error E P)) → AsyncState C S F → Type 0
  AsyncResponseFutureStepped (Check old service) answer new =
      (checked : Poll (Result Q P)) × (check : C) × c.stepped old checked check × AfterCheck checked check service answer new
  AsyncResponseFutureStepped (InFlight old) answer new = (future : F) × InFlightStepped f old answer future × (new ≡ InFlight future)
  AsyncResponseFutureStepped NoClone answer new = (answer ≡ Ready (Err Memory)) × (new ≡ NoClone)

module _ {S U : Type 0} (predicate : U → U → Type 0) where
  -- what either layer returns: a filter of the service, with a clone of the predicate
  abbrev pub Made : U → S → FilterView S U → Type 0
  Made layer service made = (made.inner ≡ service) × predicate layer made.predicate

  -- a clone of either kind: of both parts
  abbrev pub IsClone : (S → S → Type 0) → FilterView S U → FilterView S U → Type 0
  IsClone inner old copy = inner old.inner copy.inner × predicate old.predicate copy.predicate
