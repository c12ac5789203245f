-- The machine of `load_shed`.
use Rattle.std.specs.Prelude.{◌≡◌, Bool, true, false, Option, Some, None, Result, Ok, Err}
use Rattle.futures.specs.declared.task.Poll.{Poll}
use Rattle.futures.specs.declared.task.Poll.TheVariants.{Ready, Pending}
use Rattle.tower_base.specs.Answers.{answered}
use Rattle.tower_base.specs.declared.service.Service.{Ghosts as ServiceOf}
use Rattle.tower_base.specs.declared.service.Steps.{Ghosts as StepsOf}
use Rattle.tower_ware.specs.declared.load_shed.error.Error.{Error}
use Rattle.tower_ware.specs.declared.load_shed.error.Error.TheVariants.{Inner, Overloaded}

-- A `LoadShed`. The flag says that the last poll of the inner service returned `Ok` and that no call was made since.
pub record LoadShedView (S : Type 0) : Type 0 where
  pub inner : S
  pub is_ready : Bool

-- the answer of a poll of readiness, from the inner one: `Ok`, unless that is an error
abbrev pub poll_of : {E : Type 0} → Poll (Result (Unit {0}) E) → Poll (Result (Unit {0}) (Error E))
poll_of (Ready (Ok x)) = Ready (Ok tt)
poll_of (Ready (Err e)) = Ready (Err (Inner e))
poll_of Pending = Ready (Ok tt)

-- the flag after that poll
abbrev pub flag_of : {E : Type 0} → Poll (Result (Unit {0}) E) → Bool
flag_of (Ready (Ok x)) = true
flag_of (Ready (Err e)) = false
flag_of Pending = false

module _ {S Q A E F : Type 0} (s : ServiceOf S Q A E F) where
  -- A `LoadShed` may be called: if the flag is set, the inner service is ready.
  abbrev pub IsReady : LoadShedView S → Type 0
  IsReady v = v.is_ready ≡ true → s.ready v.inner

  -- a poll of readiness: one poll of the inner service
  pub record Polled (old : LoadShedView S) (answer : Poll (Result (Unit {0}) (Error E))) (new : LoadShedView S) : Type 0 where
    pub inner : Poll (Result (Unit {0}) E)
    pub polled : s.polled old.inner inner new.inner
    pub answers : answer ≡ poll_of inner
    pub flag : new.is_ready ≡ flag_of inner

  -- A call: exactly if the flag is set, the inner service, which is ready, is called, and the flag is cleared. Otherwise there is no response.
  abbrev pub Called : LoadShedView S → Q → Option F → LoadShedView S → Type 0
  Called old request (Some future) new = (old.is_ready ≡ true) × s.ready old.inner × s.called old.inner request future new.inner × (new.is_ready ≡ false)
  Called old request None new = (old.is_ready ≡ false) × (new ≡ old)

-- a new `LoadShed`: the flag isn't set
abbrev pub initial : {S : Type 0} → S → LoadShedView S
initial inner = record { inner = inner; is_ready = false }

-- a clone: a clone of the inner service, and the flag isn't set
abbrev pub IsClone : {S : Type 0} → (S → S → Type 0) → LoadShedView S → LoadShedView S → Type 0
IsClone inner old clone = inner old.inner clone.inner × (clone.is_ready ≡ false)

module _ {F A E : Type 0} (f : StepsOf F (Result A E)) where
  -- a poll of the future: one poll of the response, or the refusal
  abbrev pub Stepped : Option F → Poll (Result A (Error E)) → Option F → Type 0
  Stepped (Some old) answer (Some new) = (inner : Poll (Result A E)) × f.stepped old inner new × (answer ≡ answered Inner inner)
  Stepped (Some old) answer None = ⊥
  Stepped None answer new = (answer ≡ Ready (Err Overloaded)) × (new ≡ None)

-- why a poll of the future may ask for another: the response's causes
abbrev pub Stirs : {F : Type 0} → (F → F → Type 0) → Option F → Option F → Type 0
Stirs response (Some old) (Some new) = response old new
Stirs response (Some old) None = ⊥
Stirs response None new = ⊥
