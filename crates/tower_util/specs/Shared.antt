-- The machine of `Shared`: a call's future holds a clone of the service, or `Memory`, and its first poll returns what it holds.
use Rattle.std.specs.Prelude.{◌≡◌, Option, Some, None, Result, Ok, Err}
use Rattle.std.specs.declared.clone.Clone.{Ghosts as CloneOf}
use Rattle.futures.specs.declared.task.Poll.{Poll}
use Rattle.futures.specs.declared.task.Poll.TheVariants.{Ready}
use Rattle.tower_util.specs.declared.make.shared.Error.{Error}

-- The future holds a clone of the service, or `Memory`, which happens only if the service's clone may fail.
abbrev pub Holds : {S : Type 0} → CloneOf S → S → Option (Result S Error) → Type 0
Holds clones service (Some (Ok copy)) = clones.is_clone service copy
Holds clones service (Some (Err e)) = ¬ (clones.is_infallible service)
Holds clones service None = ⊥

-- A call.
abbrev pub Called : {S Q : Type 0} → CloneOf S → S → Q → Option (Result S Error) → S → Type 0
Called clones old request future new = Holds clones old future × (new ≡ old)

-- A poll of the future.
abbrev pub Stepped : {A : Type 0} → Option A → Poll A → Option A → Type 0
Stepped {A = A} old answer new = (held : A) × (old ≡ Some held) × (answer ≡ Ready held) × (new ≡ None)
