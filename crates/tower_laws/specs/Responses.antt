-- The polls of one response, from its call up to its first answer.
use Rattle.std.specs.Prelude.{◌≡◌, ◌⊎◌, ℕ, zero, suc, ◌+◌, Option, Some, None, Result, Ok, Err}
use Rattle.futures.specs.declared.task.Poll.{Poll}
use Rattle.futures.specs.declared.task.Poll.TheVariants.{Ready, Pending}
use Rattle.tower_base.specs.declared.service.Service.{Ghosts as ServiceOf}

module _ {F X : Type 0} (stepped : F → Poll X → F → Type 0) where
  -- The given number of polls are pending, and lead from the first value to the last.
  abbrev pub PendingFor : ℕ → F → F → Type 0
  PendingFor zero first last = last ≡ first
  PendingFor (suc polls) first last = (next : F) × stepped first Pending next × PendingFor polls next last

  -- The given number of polls are pending. The next one returns the output, and leaves the last value.
  abbrev pub EndsAfter : ℕ → F → X → F → Type 0
  EndsAfter zero first output last = stepped first (Ready output) last
  EndsAfter (suc polls) first output last = (next : F) × stepped first Pending next × EndsAfter polls next output last

  -- The given number of polls are pending. If there is an output, the next one returns it. (Without one the response is still pending.)
  abbrev pub Comes : ℕ → F → Option X → Type 0
  Comes zero first (Some output) = (last : F) × stepped first (Ready output) last
  Comes zero first None = Unit {0}
  Comes (suc polls) first output = (next : F) × stepped first Pending next × Comes polls next output

-- The first poll returns this output.
abbrev pub AtOnce : {X : Type 0} → X → ℕ → Option X → Type 0
AtOnce first polls output = (polls ≡ 0) × ((output ≡ None) ⊎ (output ≡ Some first))

-- the output from an inner one, whose error is wrapped
abbrev pub wrapped : {A E U : Type 0} → (E → U) → Option (Result A E) → Option (Result A U)
wrapped outer (Some (Ok x)) = Some (Ok x)
wrapped outer (Some (Err error)) = Some (Err (outer error))
wrapped outer None = None

module _ {S Q A E F : Type 0} (s : ServiceOf S Q A E F) where
  -- The given number of polls of readiness are pending. If there is an answer, the next one returns it. They leave the last value.
  abbrev pub ReadyAfter : ℕ → S → Option (Result (Unit {0}) E) → S → Type 0
  ReadyAfter zero first (Some answer) last = s.polled first (Ready answer) last
  ReadyAfter zero first None last = last ≡ first
  ReadyAfter (suc polls) first answer last = (next : S) × s.polled first Pending next × ReadyAfter polls next answer last

  -- The service isn't ready yet, or its readiness fails, with an error that is wrapped: then nothing follows. Or it is ready, and this follows in that same
  -- poll.
  abbrev pub OnceReady : {B U : Type 0} → (E → U) → (S → ℕ → Option (Result B U) → Type 0) → S → ℕ → Option (Result B U) → Type 0
  OnceReady outer follows service polls output =
      (((last : S) × ReadyAfter polls service None last) × (output ≡ None))
      ⊎ (((error : E) × (last : S) × ReadyAfter polls service (Some (Err error)) last × (output ≡ Some (Err (outer error))))
      ⊎ ((before after : ℕ) × (polls ≡ before + after) × (willing : S) × ReadyAfter before service (Some (Ok tt)) willing × follows willing after output))

  -- One call of the service, which is ready, with the request, and what comes of its response.
  pub record Call (stepped : F → Poll (Result A E) → F → Type 0) (service : S) (request : Q) (polls : ℕ) (answer : Option (Result A E)) : Type 0 where
    pub ready : s.ready service
    pub response : F
    pub left : S
    pub called : s.called service request response left
    pub comes : Comes stepped polls response answer
