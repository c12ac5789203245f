-- The machine of `retry`.
use Rattle.std.specs.Prelude.{◌≡◌, ◌⊎◌, ℕ, ⊤, Option, Some, None, Result, Ok, Err, IsSome}
use Rattle.std.specs.declared.clone.Clone.{Ghosts as CloneOf}
use Rattle.futures.specs.declared.task.Poll.{Poll}
use Rattle.futures.specs.declared.task.Poll.TheVariants.{Ready, Pending}
use Rattle.tower_base.specs.Answers.{answered}
use Rattle.tower_base.specs.Iterations.{Iterates, Iterations, limit}
use Rattle.tower_base.specs.declared.service.Service.{Ghosts as ServiceOf}
use Rattle.tower_retry.specs.declared.retry.error.Error.{Error}
use Rattle.tower_retry.specs.declared.retry.error.Error.TheVariants.{Inner, Memory}
use Rattle.tower_retry.specs.declared.retry.state.Attempts.{Attempts}
use Rattle.tower_retry.specs.declared.retry.state.State.{State}
use Rattle.tower_retry.specs.declared.retry.state.State.TheVariants.{InFlight, Waiting, Retrying}
use Rattle.tower_retry.specs.declared.retry.policy.Policy.{Ghosts as PolicyOf}

-- a `Retry`
pub record RetryView (P S : Type 0) : Type 0 where
  pub policy : P
  pub service : S

-- The parts of a `ResponseFuture`. There are none if a clone was refused at the call.
abbrev pub ResponseFutureView : (P S Q F W : Type 0) → Type 0
ResponseFutureView P S Q F W = Option (Attempts P S Q F W)

-- P holds, unless there is an output.
abbrev pub Unanswered : {X : Type 0} → Option (Poll X) → Type 0 → Type 0
Unanswered None P = P
Unanswered (Some Pending) P = P
Unanswered (Some (Ready x)) P = ⊤

-- The cases of a call and of an iteration come before the whole, which cites them. `stepped` is the relation of the inner future, and `waited` that of
-- the policy's wait.
module _ {P S Q A E F W : Type 0} (p : PolicyOf P Q A E W) where
  -- What follows the policy's decision. If it returns no wait, the result, as the policy left it, is the answer. Otherwise the wait takes the
  -- place of the inner future.
  abbrev pub AfterDecision : Attempts P S Q F W → Result A E → Option W → Option (Poll (Result A (Error E))) → Attempts P S Q F W → Type 0
  AfterDecision old outcome None answer new = (answer ≡ Some (answered Inner (Ready outcome))) × (new ≡ old)
  AfterDecision old outcome (Some wait) answer new = (answer ≡ None) × (new ≡ record old { state = Waiting wait })

  -- What follows a result. If no request was kept, the result is the answer. Otherwise the policy is called, which may change the request and the
  -- result.
  abbrev pub AfterResult : Option Q → Attempts P S Q F W → Result A E → Option (Poll (Result A (Error E))) → Attempts P S Q F W → Type 0
  AfterResult None old result answer new = (answer ≡ Some (answered Inner (Ready result))) × (new ≡ old)
  AfterResult (Some request) old result answer new = (decision : Option W) × (policy : P) × (changed : Q) × (outcome : Result A E)
      × p.decided old.policy request result decision policy changed outcome
      × AfterDecision (record old { policy = policy; request = Some changed }) outcome decision answer new

  -- what follows a poll of the inner future
  abbrev pub AfterResponse : Attempts P S Q F W → Poll (Result A E) → Option (Poll (Result A (Error E))) → Attempts P S Q F W → Type 0
  AfterResponse old Pending answer new = (answer ≡ Some Pending) × (new ≡ old)
  AfterResponse old (Ready result) answer new = AfterResult old.request old result answer new

module _ {P S Q A E F W : Type 0} (s : ServiceOf S Q A E F) (p : PolicyOf P Q A E W) where
  -- what follows a poll of the wait
  abbrev pub AfterWait : Attempts P S Q F W → Poll (Unit {0}) → Option (Poll (Result A (Error E))) → Attempts P S Q F W → Type 0
  AfterWait old Pending answer new = (answer ≡ Some Pending) × (new ≡ old)
  AfterWait old (Ready end) answer new = (answer ≡ None) × (new ≡ record old { state = Retrying })

  -- The kept request is made again: the policy is called for a copy to be kept, and then the service, which is ready.
  pub record Again (old new : Attempts P S Q F W) : Type 0 where
    pub request : Q
    pub had : old.request ≡ Some request
    pub copied : p.cloned old.policy request new.request new.policy
    pub ready : s.ready old.service
    pub response : F
    pub called : s.called old.service request response new.service
    pub state : new.state ≡ InFlight response

  -- What follows a poll of readiness. An error is the answer, and the policy isn't called for it.
  abbrev pub AfterReadiness : Attempts P S Q F W → Poll (Result (Unit {0}) E) → Option (Poll (Result A (Error E))) → Attempts P S Q F W → Type 0
  AfterReadiness old Pending answer new = (answer ≡ Some Pending) × (new ≡ old)
  AfterReadiness old (Ready (Err error)) answer new = (answer ≡ Some (Ready (Err (Inner error)))) × (new ≡ old)
  AfterReadiness old (Ready (Ok ready)) answer new = (answer ≡ None) × Again old new

module _ {P S Q A E F W : Type 0} (s : ServiceOf S Q A E F) (stepped : F → Poll (Result A E) → F → Type 0)
    (p : PolicyOf P Q A E W) (waited : W → Poll (Unit {0}) → W → Type 0) where
  -- one iteration, by what is under way: the inner future, the policy's wait, or the service's readiness for another call
  abbrev pub IterationAt : State F W → Attempts P S Q F W → Option (Poll (Result A (Error E))) → Attempts P S Q F W → Type 0
  IterationAt (InFlight response) old answer new = (inner : Poll (Result A E)) × (left : F) × stepped response inner left
      × AfterResponse p (record old { state = InFlight left }) inner answer new
  IterationAt (Waiting wait) old answer new = (inner : Poll (Unit {0})) × (left : W) × waited wait inner left
      × AfterWait s p (record old { state = Waiting left }) inner answer new
  IterationAt Retrying old answer new = (inner : Poll (Result (Unit {0}) E)) × (left : S) × s.polled old.service inner left
      × AfterReadiness s p (record old { service = left }) inner answer new

  -- one iteration: a poll of what is under way, and what follows it
  abbrev pub Iteration : Attempts P S Q F W → Option (Poll (Result A (Error E))) → Attempts P S Q F W → Type 0
  Iteration old answer new = IterationAt old.state old answer new

  -- A poll of the future: iterations up to an answer, or 64 without one, and then it is pending. If a clone was refused at the call, it returns
  -- `Memory`.
  abbrev pub Stepped : ResponseFutureView P S Q F W → Poll (Result A (Error E)) → ResponseFutureView P S Q F W → Type 0
  Stepped (Some old) answer new = (left : Attempts P S Q F W) × (new ≡ Some left) × Iterations Iteration Pending old answer left
  Stepped None answer new = (answer ≡ Ready (Err Memory)) × (new ≡ None)

  module _ (response : F → F → Type 0) (wait : W → W → Type 0) where
    -- Why an iteration may ask for another poll: the causes of what it polls.
    abbrev pub StirsAt : State F W → S → Type 0
    StirsAt (InFlight old) service = (left : F) × response old left
    StirsAt (Waiting old) service = (left : W) × wait old left
    StirsAt Retrying service = (left : S) × s.stirs service left

    -- After some iterations without an answer, the next one may ask for another poll.
    abbrev pub Stirred : Attempts P S Q F W → Type 0
    Stirred old = (count : ℕ) × (mid : Attempts P S Q F W) × Iterates Iteration count old mid × StirsAt mid.state mid.service

    -- Why a poll of a future may ask for another: 64 iterations in a row gave no answer, or one of its iterations may ask for it.
    abbrev pub StirsIn : Attempts P S Q F W → Attempts P S Q F W → Type 0
    StirsIn old new = Iterates Iteration limit old new ⊎ Stirred old

    abbrev pub Stirs : ResponseFutureView P S Q F W → ResponseFutureView P S Q F W → Type 0
    Stirs (Some old) (Some new) = StirsIn old new
    Stirs old new = ⊥

module _ {P S Q A E F W : Type 0} (s : ServiceOf S Q A E F) (p : PolicyOf P Q A E W) where
  -- a poll of readiness: one poll of the inner service
  pub record Polled (old : RetryView P S) (answer : Poll (Result (Unit {0}) (Error E))) (new : RetryView P S) : Type 0 where
    pub inner : Poll (Result (Unit {0}) E)
    pub polled : s.polled old.service inner new.service
    pub answers : answer ≡ answered Inner inner
    pub same : new ≡ record old { service = new.service }

  -- The first parts of a future: the inner future, and clones of the policy and of the service. There are none if a clone was refused, which
  -- happens only if one of the two may fail to clone.
  abbrev pub Begins : CloneOf P → CloneOf S → RetryView P S → Option Q → F → ResponseFutureView P S Q F W → Type 0
  Begins policy_clone service_clone retry kept response (Some first) = policy_clone.is_clone retry.policy first.policy × service_clone.is_clone retry.service first.service
      × (first.request ≡ kept) × (first.state ≡ InFlight response)
  Begins policy_clone service_clone retry kept response None = ¬ (policy_clone.is_infallible retry.policy × service_clone.is_infallible retry.service)

  -- a call: the policy is called for a copy of the request to be kept, and then the inner service, which is ready
  pub record Called (policy_clone : CloneOf P) (service_clone : CloneOf S) (old : RetryView P S) (request : Q)
      (future : ResponseFutureView P S Q F W) (new : RetryView P S) : Type 0 where
    pub kept : Option Q
    pub response : F
    pub copied : p.cloned old.policy request kept new.policy
    pub ready : s.ready old.service
    pub called : s.called old.service request response new.service
    pub begins : Begins policy_clone service_clone new kept response future

-- What is under way may be polled, and during a wait or a retry there is a request to be made again.
abbrev pub IsUnderWay : {F W Q : Type 0} → (F → Type 0) → (W → Type 0) → Option Q → State F W → Type 0
IsUnderWay can_step can_wait request (InFlight response) = can_step response
IsUnderWay can_step can_wait request (Waiting wait) = can_wait wait × IsSome request
IsUnderWay can_step can_wait request Retrying = IsSome request

-- The policy and the service of a future are sound, and what is under way may be polled.
pub record Sound {P S Q F W : Type 0} (policy : P → Type 0) (service : S → Type 0) (can_step : F → Type 0) (can_wait : W → Type 0)
    (attempts : Attempts P S Q F W) : Type 0 where
  pub policy_sound : policy attempts.policy
  pub service_sound : service attempts.service
  pub under_way : IsUnderWay can_step can_wait attempts.request attempts.state

-- the sources that a future waits for: those of what is under way
abbrev pub NeedsAt : {F W : Type 0} → (F → ℕ → Type 0) → (W → ℕ → Type 0) → (ℕ → Type 0) → State F W → ℕ → Type 0
NeedsAt response_needs wait_needs service_needs (InFlight response) = response_needs response
NeedsAt response_needs wait_needs service_needs (Waiting wait) = wait_needs wait
NeedsAt response_needs wait_needs service_needs Retrying = service_needs

abbrev pub Needs : {P S Q F W : Type 0} → (F → ℕ → Type 0) → (W → ℕ → Type 0) → (S → ℕ → Type 0) → ResponseFutureView P S Q F W → ℕ → Type 0
Needs response_needs wait_needs service_needs (Some attempts) = NeedsAt response_needs wait_needs (service_needs attempts.service) attempts.state
Needs response_needs wait_needs service_needs None = λ source. ⊥
