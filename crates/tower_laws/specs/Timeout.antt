-- What a `Timeout` keeps to, over one response.
use Rattle.std.specs.Prelude.{◌≡◌, ℕ, ◌+◌, ◌<◌, ◌≤◌, Result, Err}
use Rattle.futures.specs.declared.task.Poll.{Poll}
use Rattle.futures.specs.declared.task.Poll.TheVariants.{Ready, Pending}
use Rattle.tower_base.specs.Answers.{answered}
use Rattle.tower_base.specs.declared.service.Service.{Ghosts as ServiceOf}
use Rattle.tower_base.specs.declared.service.Steps.{Ghosts as StepsOf}
use Rattle.tower_base.specs.declared.service.Clock.{Ghosts as ClockOf}
use Rattle.tower_laws.specs.Responses.{PendingFor}
use Rattle.tower_ware.specs.Timeout.{TimeoutView, ResponseFutureView, Called, Stepped}
use Rattle.tower_ware.specs.declared.timeout.error.Error.{Error}
use Rattle.tower_ware.specs.declared.timeout.error.Error.TheVariants.{Inner, Elapsed}

module _ {S C Q A E F : Type 0} (s : ServiceOf S Q A E F) (f : StepsOf F (Result A E)) (c : ClockOf C) where
  -- An inner answer is returned in the poll in which it came. Otherwise the clock is read in that poll: the answer is `Elapsed` if the moment is at
  -- or past the deadline, and the poll is pending if it is before it.
  abbrev pub InTime : ℕ → C → C → Poll (Result A E) → Poll (Result A (Error E)) → Type 0
  InTime deadline old new (Ready result) answer = answer ≡ answered Inner (Ready result)
  InTime deadline old new Pending (Ready output) = c.read old new × (deadline ≤ c.reading new) × (output ≡ Err Elapsed)
  InTime deadline old new Pending Pending = c.read old new × (c.reading new < deadline)

  -- Each poll of a response up to its answer is such. The deadline is the reading of the call plus the duration.
  abbrev pub AnswersInTime : Type 0
  AnswersInTime = (timeout left : TimeoutView S C) (request : Q) (future old new : ResponseFutureView F C) (polls : ℕ) (answer : Poll (Result A (Error E)))
      → Called s c timeout request future left → PendingFor (Stepped f c) polls future old → Stepped f c old answer new
      → PendingFor f.stepped polls future.response old.response × (inner : Poll (Result A E)) × f.stepped old.response inner new.response
      × InTime (c.reading left.clock + timeout.duration) old.clock new.clock inner answer
