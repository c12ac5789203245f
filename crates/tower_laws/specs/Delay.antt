-- What a `Delay` keeps to, over one response.
use Rattle.std.specs.Prelude.{◌≡◌, ◌⊎◌, ◌<◌, ◌≤◌, ℕ, zero, suc, ◌+◌, Option, None, Result, Err}
use Rattle.std.specs.declared.clone.Clone.{Ghosts as CloneOf}
use Rattle.futures.specs.declared.task.Poll.{Poll}
use Rattle.tower_base.specs.Sleep.{SleepView}
use Rattle.tower_base.specs.declared.service.Clock.{Ghosts as ClockOf}
use Rattle.tower_base.specs.declared.service.Service.{Ghosts as ServiceOf}
use Rattle.tower_laws.specs.Responses.{AtOnce, Call, Comes, OnceReady, wrapped}
use Rattle.tower_retry.specs.Delay.{DelayView, Called, Stepped}
use Rattle.tower_retry.specs.declared.hedge.delay.error.Error.{Error}
use Rattle.tower_retry.specs.declared.hedge.delay.error.Error.TheVariants.{Inner, Memory}
use Rattle.tower_retry.specs.declared.hedge.delay.policy.Policy.{Ghosts as PolicyOf}
use Rattle.tower_retry.specs.declared.hedge.delay.state.State.{State}
use Rattle.tower_util.specs.declared.util.oneshot.Oneshot.{Oneshot}

-- The given number of readings, one after another, are before the deadline, and lead to the last value of the clock.
abbrev pub BeforeFor : {C : Type 0} → ClockOf C → ℕ → C → ℕ → C → Type 0
BeforeFor c zero clock deadline last = last ≡ clock
BeforeFor {C} c (suc polls) clock deadline last = (next : C) × c.read clock next × (c.reading next < deadline) × BeforeFor c polls next deadline last

-- So many readings are before the deadline, and the next one isn't.
abbrev pub PastAfter : {C : Type 0} → ClockOf C → ℕ → C → ℕ → Type 0
PastAfter {C} c polls clock deadline = (last next : C) × BeforeFor c polls clock deadline last × c.read last next × (deadline ≤ c.reading next)

-- The deadline isn't reached. Or it is, and this follows, from the first poll on whose reading is at or past it.
abbrev pub OncePast : {C X : Type 0} → ClockOf C → C → ℕ → (ℕ → Option X → Type 0) → ℕ → Option X → Type 0
OncePast {C} c clock deadline follows polls output =
    (((last : C) × BeforeFor c polls clock deadline last) × (output ≡ None))
    ⊎ ((before after : ℕ) × (polls ≡ before + after) × PastAfter c before clock deadline × follows after output)

module _ {S Q A E F : Type 0} (s : ServiceOf S Q A E F) (stepped : F → Poll (Result A E) → F → Type 0) where
  -- Once the service is ready, it is called, once.
  abbrev pub CallOnceReady : S → Q → ℕ → Option (Result A E) → Type 0
  CallOnceReady service request = OnceReady s (λ error. error) (λ willing. Call s stepped willing request) service

  module _ {P C : Type 0} (p : PolicyOf P Q) (clones : CloneOf S) (c : ClockOf C) where
    -- Once the delay is over, the clone is called as above.
    abbrev pub CallAfter : C → ℕ → S → Q → ℕ → Option (Result A (Error E)) → Type 0
    CallAfter clock deadline service request = OncePast c clock deadline
        (λ after output. (answer : Option (Result A E)) × CallOnceReady service request after answer × (output ≡ wrapped Inner answer))

    -- What comes of a call. If no clone was made, `Memory`. Otherwise a share of the clock is read at the call, and the deadline is that reading plus
    -- the delay that the policy named.
    abbrev pub CallsAfterDelay : Type 0
    CallsAfterDelay = (old new : DelayView P S C) (request : Q) (future : State (SleepView C) S Q (Oneshot S Q A E F)) (polls : ℕ) (output : Option (Result A (Error E)))
        → Called p clones c old request future new → Comes (Stepped s stepped c) polls future output
        → (¬ clones.is_infallible old.service × AtOnce (Err Memory) polls output)
        ⊎ ((delay : ℕ) × p.delayed old.policy request delay new.policy × (clone : S) × clones.is_clone old.service clone
        × (share clock : C) × c.shared old.clock share × c.read share clock × CallAfter clock (c.reading clock + delay) clone request polls output)
