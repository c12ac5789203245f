-- The machine of `hedge::delay`.
use Rattle.std.specs.Prelude.{◌≡◌, ◌⊎◌, ℕ, ⊤, ◌+◌, Result, Err}
use Rattle.std.specs.declared.clone.Clone.{Ghosts as CloneOf}
use Rattle.futures.specs.declared.task.Poll.{Poll}
use Rattle.futures.specs.declared.task.Poll.TheVariants.{Ready, Pending}
use Rattle.tower_base.specs.Answers.{answered}
use Rattle.tower_base.specs.Sleep.{SleepView, Stepped as SleepStepped}
use Rattle.tower_base.specs.declared.service.Clock.{Ghosts as ClockOf}
use Rattle.tower_base.specs.declared.service.Service.{Ghosts as ServiceOf}
use Rattle.tower_retry.specs.declared.hedge.delay.error.Error.{Error}
use Rattle.tower_retry.specs.declared.hedge.delay.error.Error.TheVariants.{Inner, Memory}
use Rattle.tower_retry.specs.declared.hedge.delay.policy.Policy.{Ghosts as PolicyOf}
use Rattle.tower_retry.specs.declared.hedge.delay.state.State.{State}
use Rattle.tower_retry.specs.declared.hedge.delay.state.State.TheVariants.{Delaying, InFlight, NoClone}
use Rattle.tower_util.specs.Oneshot.{Stepped as OneshotStepped}
use Rattle.tower_util.specs.declared.util.oneshot.Oneshot.{Oneshot}
use Rattle.tower_util.specs.declared.util.oneshot.State.{State as OneshotState}
use Rattle.tower_util.specs.declared.util.oneshot.State.TheVariants.{NotReady}

-- a `Delay`
pub record DelayView (P S C : Type 0) : Type 0 where
  pub policy : P
  pub service : S
  pub clock : C

module _ {P S C Q O : Type 0} (p : PolicyOf P Q) (clones : CloneOf S) (c : ClockOf C) where
  -- A future's first value. The delay begins at one reading of the clock, and after it a clone of the service is called with the request. If the
  -- service couldn't be cloned, which happens only if its clone may fail, nothing is called.
  abbrev pub Begins : DelayView P S C → Q → ℕ → State (SleepView C) S Q O → Type 0
  Begins old request delay (Delaying sleep service kept) = ((clock : C) × c.shared old.clock clock × c.read clock sleep.clock)
      × (sleep.deadline ≡ c.reading sleep.clock + delay) × clones.is_clone old.service service × (kept ≡ request)
  Begins old request delay (InFlight oneshot) = ⊥
  Begins old request delay NoClone = ¬ (clones.is_infallible old.service)

  -- a call: the policy is called for the delay
  pub record Called (old : DelayView P S C) (request : Q) (future : State (SleepView C) S Q O) (new : DelayView P S C) : Type 0 where
    pub delay : ℕ
    pub delayed : p.delayed old.policy request delay new.policy
    pub begins : Begins old request delay future
    pub same : new ≡ record old { policy = new.policy }

module _ {S C Q A E F : Type 0} (s : ServiceOf S Q A E F) (f : F → Poll (Result A E) → F → Type 0) (c : ClockOf C) where
  -- one poll of the call, which is a `Oneshot`
  pub record InFlightStepped (old : OneshotState S Q F) (answer : Poll (Result A (Error E))) (new : State (SleepView C) S Q (Oneshot S Q A E F)) : Type 0 where
    pub inner : Poll (Result A E)
    pub left : Oneshot S Q A E F
    pub stepped : OneshotStepped s f old inner left.state
    pub answers : answer ≡ answered Inner inner
    pub after : new ≡ InFlight left

  -- The delay is over, and the call begins: a `Oneshot` of the clone and the request is polled once.
  abbrev pub Begun : State (SleepView C) S Q (Oneshot S Q A E F) → Poll (Result A (Error E)) → State (SleepView C) S Q (Oneshot S Q A E F) → Type 0
  Begun (Delaying sleep service request) answer new = InFlightStepped (NotReady service request) answer new
  Begun old answer new = ⊥

  -- What follows a poll of the delay. Once it is over, the clone is called with the request, in the same poll.
  abbrev pub AfterDelay : Poll (Unit {0}) → SleepView C → S → Q → Poll (Result A (Error E)) → State (SleepView C) S Q (Oneshot S Q A E F) → Type 0
  AfterDelay Pending sleep service request answer new = (answer ≡ Pending) × (new ≡ Delaying sleep service request)
  AfterDelay (Ready x) sleep service request answer new = InFlightStepped (NotReady service request) answer new

  -- a poll of the future
  abbrev pub Stepped : State (SleepView C) S Q (Oneshot S Q A E F) → Poll (Result A (Error E)) → State (SleepView C) S Q (Oneshot S Q A E F) → Type 0
  Stepped (Delaying sleep service request) answer new =
      (slept : Poll (Unit {0})) × (left : SleepView C) × SleepStepped c sleep slept left × AfterDelay slept left service request answer new
  Stepped (InFlight oneshot) answer new = InFlightStepped oneshot.state answer new
  Stepped NoClone answer new = (answer ≡ Ready (Err Memory)) × (new ≡ NoClone)

-- The delay isn't over, and the clone is sound.
abbrev pub Waits : {S C Q O : Type 0} → (S → Type 0) → State (SleepView C) S Q O → Type 0
Waits sound (Delaying sleep service request) = sound service
Waits sound old = ⊥

-- A future may be polled if its clone is sound, or if its call may be polled.
abbrev pub CanPoll : {S C Q O : Type 0} → (S → Type 0) → (O → Type 0) → State (SleepView C) S Q O → Type 0
CanPoll sound can_poll (Delaying sleep service request) = sound service
CanPoll sound can_poll (InFlight oneshot) = can_poll oneshot
CanPoll sound can_poll NoClone = ⊤

-- The sources that a future waits for: during the delay those of the clock, and then those of the call.
abbrev pub Needs : {S C Q O : Type 0} → (C → ℕ → Type 0) → (O → ℕ → Type 0) → State (SleepView C) S Q O → ℕ → Type 0
Needs hears needs (Delaying sleep service request) = hears sleep.clock
Needs hears needs (InFlight oneshot) = needs oneshot
Needs hears needs NoClone = λ source. ⊥

module _ {S C Q A E F : Type 0} (call : Oneshot S Q A E F → Oneshot S Q A E F → Type 0) where
  -- Why the first poll of a call may ask for another: the causes of the `Oneshot` that begins with the clone and the request.
  abbrev pub BeginStirs : State (SleepView C) S Q (Oneshot S Q A E F) → State (SleepView C) S Q (Oneshot S Q A E F) → Type 0
  BeginStirs (Delaying sleep service request) (InFlight new) =
      (first : Oneshot S Q A E F) × (first.state ≡ NotReady service request) × call first new
  BeginStirs old new = ⊥

  -- Why a poll of a future may ask for another: during the delay the clock's causes, and then those of the call. The poll that ends the delay has
  -- those of the clock, and those of the call's first poll.
  abbrev pub Stirs : (C → Type 0) → State (SleepView C) S Q (Oneshot S Q A E F) → State (SleepView C) S Q (Oneshot S Q A E F) → Type 0
  Stirs clock (Delaying old service request) (Delaying new kept again) = clock new.clock
  Stirs clock (Delaying old service request) (InFlight new) =
      ((left : C) × clock left) ⊎ BeginStirs (Delaying old service request) (InFlight new)
  Stirs clock (InFlight old) (InFlight new) = call old new
  Stirs clock old new = ⊥
