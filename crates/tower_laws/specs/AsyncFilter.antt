-- What an `AsyncFilter` keeps to, over one response.
use Rattle.std.specs.Prelude.{◌≡◌, ◌⊎◌, ℕ, ◌+◌, Option, Some, None, Result, Ok, Err}
use Rattle.std.specs.declared.clone.Clone.{Ghosts as CloneOf}
use Rattle.tower_base.specs.declared.service.Service.{Ghosts as ServiceOf}
use Rattle.tower_base.specs.declared.service.Steps.{Ghosts as StepsOf}
use Rattle.tower_laws.specs.Responses.{AtOnce, Call, Comes, wrapped}
use Rattle.tower_ware.specs.Filter.{FilterView, AsyncFilterCalled, AsyncResponseFutureStepped}
use Rattle.tower_ware.specs.declared.filter.error.Error.{Error}
use Rattle.tower_ware.specs.declared.filter.error.Error.TheVariants.{Inner, Rejected, Memory}
use Rattle.tower_ware.specs.declared.filter.predicate.AsyncPredicate.{Ghosts as AsyncPredicateOf}
use Rattle.tower_ware.specs.declared.filter.state.AsyncState.{AsyncState}

module _ {S Q A E F P C : Type 0} (s : ServiceOf S Q A E F) (f : StepsOf F (Result A E)) (c : StepsOf C (Result Q P)) where
  -- The check is pending still, or it refuses the request: then there is no call. Or it returns a request, with which the service is called in that
  -- same poll, once.
  abbrev pub Checked : S → C → ℕ → Option (Result A (Error E P)) → Type 0
  Checked service check polls output =
      (Comes c.stepped polls check None × (output ≡ None))
      ⊎ (((error : P) × Comes c.stepped polls check (Some (Err error)) × (output ≡ Some (Err (Rejected error))))
      ⊎ ((before after : ℕ) × (polls ≡ before + after) × (request : Q) × Comes c.stepped before check (Some (Ok request))
      × (answer : Option (Result A E)) × Call s f.stepped service request after answer × (output ≡ wrapped Inner answer)))

  -- What comes of a call. If no clone was made, `Memory`, and the predicate wasn't called. Otherwise it was, for the check, and the service that may
  -- be called is the one that was polled.
  abbrev pub ChecksFirst : {U R : Type 0} → CloneOf S → AsyncPredicateOf U R Q P C → Type 0
  ChecksFirst {U} {R} clones u = (old new : FilterView S U) (request : R) (future : AsyncState C S F) (polls : ℕ) (output : Option (Result A (Error E P)))
      → AsyncFilterCalled s clones u old request future new → Comes (AsyncResponseFutureStepped s f c) polls future output
      → ((new ≡ old) × ¬ (clones.is_infallible old.inner) × AtOnce (Err Memory) polls output)
      ⊎ ((check : C) × u.checked old.predicate request check new.predicate × clones.is_clone old.inner new.inner × Checked old.inner check polls output)
