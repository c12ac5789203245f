-- The machine of `load::completion`.
use Rattle.std.specs.Prelude.{◌≡◌, Option, None, Some, Result, Ok, Err}
use Rattle.futures.specs.declared.task.Poll.{Poll}
use Rattle.futures.specs.declared.task.Poll.TheVariants.{Ready, Pending}
use Rattle.tower_base.specs.declared.service.Steps.{Ghosts as StepsOf}

-- a `TrackCompletionFuture`, which may still have its handle
pub record TrackCompletionFutureView (F C H : Type 0) : Type 0 where
  pub future : F
  pub completion : C
  pub handle : Option H

module _ {C H V O : Type 0} (tracked : C → H → V → O → Type 0) where
  -- After the inner result, this result is returned and this handle is left. On `Ok` the completion takes the handle. Otherwise the handle stays.
  abbrev pub Completes : {E : Type 0} → C → Option H → Poll (Result V E) → Poll (Result O E) → Option H → Type 0
  Completes completion (Some handle) (Ready (Ok value)) (Ready (Ok output)) left = tracked completion handle value output × (left ≡ None)
  Completes completion held (Ready (Err e)) answer left = (answer ≡ Ready (Err e)) × (left ≡ held)
  Completes completion held Pending answer left = (answer ≡ Pending) × (left ≡ held)
  Completes completion _ _ _ left = ⊥

  -- a poll of the future: one poll of the inner one, whose `Ok` is completed
  pub record Stepped {F E : Type 0} (f : StepsOf F (Result V E))
      (old : TrackCompletionFutureView F C H) (answer : Poll (Result O E)) (new : TrackCompletionFutureView F C H) : Type 0 where
    pub inner : Poll (Result V E)
    pub stepped : f.stepped old.future inner new.future
    pub completes : Completes old.completion old.handle inner answer new.handle
    pub same : new.completion ≡ old.completion
