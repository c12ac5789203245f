-- The machine of `FutureService`: the future is polled until it returns the service, and from then on the service is used.
use Rattle.std.specs.Prelude.{◌≡◌, ◌⊎◌, Result, Ok, Err}
use Rattle.futures.specs.declared.task.Poll.{Poll}
use Rattle.futures.specs.declared.task.Poll.TheVariants.{Ready, Pending}
use Rattle.tower_base.specs.Answers.{answered}
use Rattle.tower_base.specs.declared.service.Steps.{Ghosts as StepsOf}
use Rattle.tower_util.specs.declared.util.error.future_service.Error.{Error}
use Rattle.tower_util.specs.declared.util.error.future_service.Error.TheVariants.{Inner, Gone}
use Rattle.tower_util.specs.declared.util.from_future.State.{State}
use Rattle.tower_util.specs.declared.util.from_future.State.TheVariants.{Coming, There, Lost}

-- The service is there, and P holds for it.
abbrev pub IsThere : {F S : Type 0} → (S → Type 0) → State F S → Type 0
IsThere P (Coming future) = ⊥
IsThere P (There service) = P service
IsThere P Lost = ⊥

module _ {F S E : Type 0} (stepped : F → Poll (Result S E) → F → Type 0) (polled : S → Poll (Result (Unit {0}) E) → S → Type 0) where
  -- The service is polled, and its error is wrapped in `Inner`.
  abbrev pub ServicePolled : S → Poll (Result (Unit {0}) (Error E)) → State F S → Type 0
  ServicePolled service answer new = (inner : Poll (Result (Unit {0}) E)) × (left : S) × polled service inner left × (answer ≡ answered Inner inner) × (new ≡ There left)

  -- The future's poll returned this, and left the future so. A service is polled at once. An error is returned, and then nothing is left.
  abbrev pub FutureStepped : F → Poll (Result S E) → Poll (Result (Unit {0}) (Error E)) → State F S → Type 0
  FutureStepped left Pending answer new = (answer ≡ Pending) × (new ≡ Coming left)
  FutureStepped left (Ready (Err e)) answer new = (answer ≡ Ready (Err (Inner e))) × (new ≡ Lost)
  FutureStepped left (Ready (Ok service)) answer new = ServicePolled service answer new

  -- A poll of readiness.
  abbrev pub Polled : State F S → Poll (Result (Unit {0}) (Error E)) → State F S → Type 0
  Polled (Coming future) answer new = (inner : Poll (Result S E)) × (left : F) × stepped future inner left × FutureStepped left inner answer new
  Polled (There service) answer new = ServicePolled service answer new
  Polled Lost answer new = (answer ≡ Ready (Err Gone)) × (new ≡ Lost)

module _ {F S Q G : Type 0} (ready : S → Type 0) (called : S → Q → G → S → Type 0) where
  -- A call calls the service, which is there.
  abbrev pub Called : State F S → Q → G → State F S → Type 0
  Called (Coming f) request future new = ⊥
  Called (There service) request future new = (left : S) × ready service × called service request future left × (new ≡ There left)
  Called Lost request future new = ⊥

module _ {G A E : Type 0} (stepped : G → Poll (Result A E) → G → Type 0) where
  -- A poll of the response, whose error is wrapped in `Inner`.
  abbrev pub Stepped : G → Poll (Result A (Error E)) → G → Type 0
  Stepped old answer new = (inner : Poll (Result A E)) × stepped old inner new × (answer ≡ answered Inner inner)

-- Why a poll of readiness may ask for another: the causes of what it polls. In the poll in which the future returned the service these are the
-- future's and the service's.
module _ {F S E : Type 0} (f : StepsOf F (Result S E)) (stirs : S → S → Type 0) where
  abbrev pub Stirs : State F S → State F S → Type 0
  Stirs (Coming old) (Coming new) = f.stirs old new
  Stirs (Coming old) (There new) = (left : F) × (service : S) × f.stepped old (Ready (Ok service)) left × (f.stirs old left ⊎ stirs service new)
  Stirs (Coming old) Lost = (left : F) × f.stirs old left
  Stirs (There old) (There new) = stirs old new
  Stirs (There old) (Coming new) = ⊥
  Stirs (There old) Lost = ⊥
  Stirs Lost new = ⊥
