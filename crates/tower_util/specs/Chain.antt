-- The machines of `Then` and `AndThen`: the inner future, then the future that the closure returned, and nothing once there is an output.
-- The second future is first polled in the poll in which the inner one returned its output.
use Rattle.std.specs.Prelude.{◌≡◌, ◌⊎◌, Result, Ok, Err}
use Rattle.futures.specs.declared.task.Poll.{Poll}
use Rattle.futures.specs.declared.task.Poll.TheVariants.{Ready, Pending}
use Rattle.tower_util.specs.Maps.{MapView}
use Rattle.tower_util.specs.declared.util.chain.Chain.{Chain}
use Rattle.tower_util.specs.declared.util.chain.Chain.TheVariants.{First, Second, Done}

-- A call calls the inner service, which is ready. A copy of the closure goes into the future.
module _ {S Q F1 F2 N : Type 0} (ready : S → Type 0) (called : S → Q → F1 → S → Type 0) where
  abbrev pub Called : MapView S N → Q → Chain F1 F2 N → MapView S N → Type 0
  Called old request future new = (first : F1) × ready old.inner × called old.inner request first new.inner × (future ≡ First first old.f) × (new.f ≡ old.f)

-- A poll of the second future, which is dropped if it returns its output.
module _ {F1 F2 N O : Type 0} (second : F2 → Poll O → F2 → Type 0) where
  abbrev pub SecondStepped : F2 → Poll O → Chain F1 F2 N → Type 0
  SecondStepped old answer new = (left : F2) × second old answer left × (new ≡ elim answer [ Ready x ↦ Done | Pending ↦ Second left ])

-- The closure returned a future, which is polled at once.
module _ {F1 F2 N A O : Type 0} (given : N → A → F2 → Type 0) (second : F2 → Poll O → F2 → Type 0) where
  abbrev pub Begun : N → A → Poll O → Chain F1 F2 N → Type 0
  Begun f value answer new = (made : F2) × given f value made × SecondStepped second made answer new

-- A poll of a chain, which continues from the inner result by the relation.
module _ {F1 F2 N R O : Type 0} (first : F1 → Poll R → F1 → Type 0) (second : F2 → Poll O → F2 → Type 0)
    (goes_on : F1 → N → R → Poll O → Chain F1 F2 N → Type 0) where
  -- The inner future's poll returned this.
  abbrev pub FirstStepped : F1 → N → Poll R → Poll O → Chain F1 F2 N → Type 0
  FirstStepped left f Pending answer new = (answer ≡ Pending) × (new ≡ First left f)
  FirstStepped left f (Ready result) answer new = goes_on left f result answer new

  abbrev pub Stepped : Chain F1 F2 N → Poll O → Chain F1 F2 N → Type 0
  Stepped (First old f) answer new = (inner : Poll R) × (left : F1) × first old inner left × FirstStepped left f inner answer new
  Stepped (Second old) answer new = SecondStepped second old answer new
  Stepped Done answer new = ⊥

-- `Then` turns the result into the output of the future `f(result)`.
module _ {F1 F2 N R O : Type 0} (first : F1 → Poll R → F1 → Type 0) (given : N → R → F2 → Type 0) (second : F2 → Poll O → F2 → Type 0) where
  abbrev pub ThenStepped : Chain F1 F2 N → Poll O → Chain F1 F2 N → Type 0
  ThenStepped = Stepped first second (λ left f result answer new. Begun given second f result answer new)

-- `AndThen` turns `Ok(v)` into the output of the future `f(v)`, and `Err(e)` into `Err(From(e))`, without calling the closure.
module _ {F1 F2 N A E T U : Type 0} (first : F1 → Poll (Result A E) → F1 → Type 0) (given : N → A → F2 → Type 0)
    (second : F2 → Poll (Result T U) → F2 → Type 0) (from : E → U → Type 0) where
  abbrev pub GoesOn : F1 → N → Result A E → Poll (Result T U) → Chain F1 F2 N → Type 0
  GoesOn left f (Ok v) answer new = Begun given second f v answer new
  GoesOn left f (Err e) answer new = (error : U) × from e error × (answer ≡ Ready (Err error)) × (new ≡ Done)

  abbrev pub AndThenStepped : Chain F1 F2 N → Poll (Result T U) → Chain F1 F2 N → Type 0
  AndThenStepped = Stepped first second GoesOn

-- Why a poll of a chain may ask for another: the causes of the futures that it polls. In the poll in which the inner future returned its output
-- these are the inner future's, and those of the second future, be it kept or dropped with its output.
module _ {F1 F2 N : Type 0} (first : F1 → F1 → Type 0) (second : F2 → F2 → Type 0) where
  abbrev pub Stirs : Chain F1 F2 N → Chain F1 F2 N → Type 0
  Stirs (First old f) (First new g) = first old new
  Stirs (First old f) (Second new) = ((left : F1) × first old left) ⊎ ((made : F2) × second made new)
  Stirs (First old f) Done = ((left : F1) × first old left) ⊎ ((made : F2) × (left : F2) × second made left)
  Stirs (Second old) (First new g) = ⊥
  Stirs (Second old) (Second new) = second old new
  Stirs (Second old) Done = (left : F2) × second old left
  Stirs Done new = ⊥
