-- The machine of `Optional`. With a service it is the service's machine, whose errors are wrapped in `Inner`. Without one it is always
-- ready, and each call returns the error `None`.
use Rattle.std.specs.Prelude.{◌≡◌, Option, Some, None, Result, Ok, Err}
use Rattle.futures.specs.declared.task.Poll.{Poll}
use Rattle.futures.specs.declared.task.Poll.TheVariants.{Ready}
use Rattle.tower_base.specs.Answers.{answered}
use Rattle.tower_util.specs.declared.util.optional.error.Error.{Error}
use Rattle.tower_util.specs.declared.util.optional.error.Error.TheVariants.{Inner, None as Missing}

module _ {S E : Type 0} (polled : S → Poll (Result (Unit {0}) E) → S → Type 0) where
  -- A poll of readiness.
  abbrev pub Polled : Option S → Poll (Result (Unit {0}) (Error E)) → Option S → Type 0
  Polled (Some old) answer new = (inner : Poll (Result (Unit {0}) E)) × (left : S) × polled old inner left × (answer ≡ answered Inner inner) × (new ≡ Some left)
  Polled None answer new = (answer ≡ Ready (Ok tt)) × (new ≡ None)

module _ {S Q F : Type 0} (ready : S → Type 0) (called : S → Q → F → S → Type 0) where
  -- A call.
  abbrev pub Called : Option S → Q → Option F → Option S → Type 0
  Called (Some old) request future new = (inner : F) × (left : S) × ready old × called old request inner left × (future ≡ Some inner) × (new ≡ Some left)
  Called None request future new = (future ≡ None) × (new ≡ None)

module _ {F A E : Type 0} (stepped : F → Poll (Result A E) → F → Type 0) where
  -- A poll of the response.
  abbrev pub Stepped : Option F → Poll (Result A (Error E)) → Option F → Type 0
  Stepped (Some old) answer new = (inner : Poll (Result A E)) × (left : F) × stepped old inner left × (answer ≡ answered Inner inner) × (new ≡ Some left)
  Stepped None answer new = (answer ≡ Ready (Err Missing)) × (new ≡ None)

-- Why a poll of readiness or of the response may ask for another: the causes of the service, or of its response. Without one nothing is polled.
abbrev pub Stirs : {T : Type 0} → (T → T → Type 0) → Option T → Option T → Type 0
Stirs stirs (Some old) (Some new) = stirs old new
Stirs stirs (Some old) None = ⊥
Stirs stirs None new = ⊥
