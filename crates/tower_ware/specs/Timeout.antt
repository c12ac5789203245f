-- The machine of `timeout`.
use Rattle.std.specs.Prelude.{◌≡◌, ℕ, ◌+◌, ◌⊎◌, nat_le, if◌then◌else◌, Result, Ok, Err}
use Rattle.futures.specs.declared.task.Poll.{Poll}
use Rattle.futures.specs.declared.task.Poll.TheVariants.{Ready, Pending}
use Rattle.tower_base.specs.Answers.{answered}
use Rattle.tower_base.specs.declared.service.Service.{Ghosts as ServiceOf}
use Rattle.tower_base.specs.declared.service.Steps.{Ghosts as StepsOf}
use Rattle.tower_base.specs.declared.service.Clock.{Ghosts as ClockOf}
use Rattle.tower_ware.specs.declared.timeout.error.Error.{Error}
use Rattle.tower_ware.specs.declared.timeout.error.Error.TheVariants.{Inner, Elapsed}

-- a `Timeout`
pub record TimeoutView (S C : Type 0) : Type 0 where
  pub inner : S
  pub duration : ℕ
  pub clock : C

-- its response future
pub record ResponseFutureView (F C : Type 0) : Type 0 where
  pub response : F
  pub deadline : ℕ
  pub clock : C

-- its layer
pub record TimeoutLayerView (C : Type 0) : Type 0 where
  pub duration : ℕ
  pub clock : C

-- the answer of a poll of the future, from that of the response and from the moment at which the response was pending
abbrev pub answer_of : {A E : Type 0} → Poll (Result A E) → ℕ → ℕ → Poll (Result A (Error E))
answer_of (Ready (Ok x)) deadline moment = Ready (Ok x)
answer_of (Ready (Err e)) deadline moment = Ready (Err (Inner e))
answer_of Pending deadline moment = if nat_le deadline moment then Ready (Err Elapsed) else Pending

-- The clock is read exactly if the response is pending.
abbrev pub Reads : {A : Type 0} → Type 0 → Type 0 → Poll A → Type 0
Reads Read Unread Pending = Read
Reads Read Unread (Ready x) = Unread

module _ {S C Q A E F : Type 0} (s : ServiceOf S Q A E F) (c : ClockOf C) where
  -- a poll of readiness: one poll of the inner service
  pub record Polled (old : TimeoutView S C) (answer : Poll (Result (Unit {0}) (Error E))) (new : TimeoutView S C) : Type 0 where
    pub inner : Poll (Result (Unit {0}) E)
    pub polled : s.polled old.inner inner new.inner
    pub answers : answer ≡ answered Inner inner
    pub same : new ≡ record old { inner = new.inner }

  -- a call: one call of the inner service, which is ready, and then one reading of the clock, to which the duration is added
  pub record Called (old : TimeoutView S C) (request : Q) (future : ResponseFutureView F C) (new : TimeoutView S C) : Type 0 where
    pub ready : s.ready old.inner
    pub called : s.called old.inner request future.response new.inner
    pub read : c.read old.clock new.clock
    pub deadline : future.deadline ≡ c.reading new.clock + old.duration
    pub clock : c.shared new.clock future.clock
    pub same : new.duration ≡ old.duration

module _ {F C A E : Type 0} (f : StepsOf F (Result A E)) (c : ClockOf C) where
  -- a poll of the future: one poll of the response, and one reading of the clock if the response is pending
  pub record Stepped (old : ResponseFutureView F C) (answer : Poll (Result A (Error E))) (new : ResponseFutureView F C) : Type 0 where
    pub inner : Poll (Result A E)
    pub stepped : f.stepped old.response inner new.response
    pub answers : answer ≡ answer_of inner old.deadline (c.reading new.clock)
    pub read : Reads (c.read old.clock new.clock) (new.clock ≡ old.clock) inner
    pub same : new.deadline ≡ old.deadline

-- the sources that a pending future waits for: those of the response, and those of the clock
abbrev pub Needs : {F C : Type 0} → (F → ℕ → Type 0) → (C → ℕ → Type 0) → ResponseFutureView F C → ℕ → Type 0
Needs needs hears future s = needs future.response s ⊎ hears future.clock s

-- why a poll of the future may ask for another: the response's causes, and the clock's
abbrev pub Stirs : {F C : Type 0} → (F → F → Type 0) → (C → Type 0) → ResponseFutureView F C → ResponseFutureView F C → Type 0
Stirs response clock old new = response old.response new.response ⊎ clock new.clock

module _ {S C : Type 0} (c : ClockOf C) where
  -- what the layer returns: a `Timeout` of the service, with the layer's duration and a share of its clock
  pub record Made (layer : TimeoutLayerView C) (service : S) (made : TimeoutView S C) : Type 0 where
    pub inner : made.inner ≡ service
    pub duration : made.duration ≡ layer.duration
    pub clock : c.shared layer.clock made.clock

  -- a clone: of the inner service, with the same duration and a share of the clock
  pub record IsClone (is_clone : S → S → Type 0) (old copy : TimeoutView S C) : Type 0 where
    pub inner : is_clone old.inner copy.inner
    pub duration : copy.duration ≡ old.duration
    pub clock : c.shared old.clock copy.clock
