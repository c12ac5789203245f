-- What a `Latency` keeps to, over one response.
use Rattle.std.specs.Prelude.{◌≡◌, ℕ, ◌-◌, Option, Some, None, Result, Ok, Err}
use Rattle.std.specs.declared.clone.Clone.{Ghosts as CloneOf}
use Rattle.tower_base.specs.declared.service.Service.{Ghosts as ServiceOf}
use Rattle.tower_base.specs.declared.service.Steps.{Ghosts as StepsOf}
use Rattle.tower_base.specs.declared.service.Clock.{Ghosts as ClockOf}
use Rattle.tower_laws.specs.Responses.{EndsAfter}
use Rattle.tower_limit.specs.declared.hedge.record.Record.{Ghosts as RecordOf}
use Rattle.tower_retry.specs.Latency.{LatencyView, ResponseFutureView, Called, Stepped}

module _ {R S C Q A E F : Type 0} (s : ServiceOf S Q A E F) (f : StepsOf F (Result A E)) (clones : CloneOf R) (r : RecordOf R) (c : ClockOf C) where
  -- After `Ok` the clock is read, and the time since the start is recorded, once, at a clone of the recorder. If there is no recorder, cloning was refused
  -- at the call. Then nothing is recorded, nor is it after an error, and the clock isn't read.
  abbrev pub Records : R → Result A E → ℕ → Option R → C → Option R → C → Type 0
  Records given (Ok x) start (Some rec) clock left after =
      clones.is_clone given rec × c.read clock after × ((kept : R) × r.recorded rec (c.reading after - start) kept × (left ≡ Some kept))
  Records given (Ok x) start None clock left after = ¬ (clones.is_infallible given) × (left ≡ None) × (after ≡ clock)
  Records given (Err error) start rec clock left after = (left ≡ rec) × (after ≡ clock)

  -- The answer is the inner one, in the poll in which it came. The start is the reading of the call.
  abbrev pub RecordsLatency : Type 0
  RecordsLatency = (old new : LatencyView R S C) (request : Q) (future left : ResponseFutureView R F C) (polls : ℕ) (answer : Result A E)
      → Called s clones c old request future new → EndsAfter (Stepped f r c) polls future answer left
      → EndsAfter f.stepped polls future.inner answer left.inner × Records old.rec answer (c.reading new.clock) future.rec future.clock left.rec left.clock
