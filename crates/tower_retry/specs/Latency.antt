-- The machine of `hedge::latency`.
use Rattle.std.specs.Prelude.{◌≡◌, ℕ, ◌-◌, Option, Some, None, Result, Ok, MatchOption}
use Rattle.std.specs.declared.clone.Clone.{Ghosts as CloneOf}
use Rattle.futures.specs.declared.task.Poll.{Poll}
use Rattle.futures.specs.declared.task.Poll.TheVariants.{Ready}
use Rattle.tower_base.specs.declared.service.Service.{Ghosts as ServiceOf}
use Rattle.tower_base.specs.declared.service.Steps.{Ghosts as StepsOf}
use Rattle.tower_base.specs.declared.service.Clock.{Ghosts as ClockOf}
use Rattle.tower_limit.specs.declared.hedge.record.Record.{Ghosts as RecordOf}

-- a `Latency`
pub record LatencyView (R S C : Type 0) : Type 0 where
  pub rec : R
  pub service : S
  pub clock : C

-- its response future: the moment of the call, and a clone of the recorder, if cloning succeeded
pub record ResponseFutureView (R F C : Type 0) : Type 0 where
  pub start : ℕ
  pub rec : Option R
  pub inner : F
  pub clock : C

module _ {R S C Q A E : Type 0} {F : Type 0} (s : ServiceOf S Q A E F) where
  -- a poll of readiness: one poll of the inner service, whose answer is returned
  pub record Polled (old : LatencyView R S C) (answer : Poll (Result (Unit {0}) E)) (new : LatencyView R S C) : Type 0 where
    pub polled : s.polled old.service answer new.service
    pub same : new ≡ record old { service = new.service }

  -- a call: one reading of the clock, a clone of the recorder, and one call of the inner service, which is ready. There is no recorder if cloning
  -- fails, which happens only if the recorder's clone may fail.
  pub record Called (clones : CloneOf R) (c : ClockOf C) (old : LatencyView R S C) (request : Q) (future : ResponseFutureView R F C)
      (new : LatencyView R S C) : Type 0 where
    pub read : c.read old.clock new.clock
    pub start : future.start ≡ c.reading new.clock
    pub rec : MatchOption future.rec (¬ (clones.is_infallible old.rec)) (clones.is_clone old.rec)
    pub ready : s.ready old.service
    pub called : s.called old.service request future.inner new.service
    pub clock : c.shared new.clock future.clock
    pub same : new.rec ≡ old.rec

module _ {R F C A E : Type 0} (f : StepsOf F (Result A E)) (r : RecordOf R) (c : ClockOf C) where
  -- What follows an `Ok`: the clock is read once, and the time since the start is recorded. Without a recorder the clock isn't read.
  abbrev pub Recorded : ℕ → Option R → C → Option R → C → Type 0
  Recorded start (Some rec) clock (Some left) after = c.read clock after × r.recorded rec (c.reading after - start) left
  Recorded start None clock None after = after ≡ clock
  Recorded start rec clock left after = ⊥

  -- the recorder and the clock after an answer of the inner future
  abbrev pub RecordsAt : Poll (Result A E) → ℕ → Option R → C → Option R → C → Type 0
  RecordsAt (Ready (Ok x)) start rec clock left after = Recorded start rec clock left after
  RecordsAt answer start rec clock left after = (left ≡ rec) × (after ≡ clock)

  -- a poll of the future: one poll of the inner future, whose answer is returned, and a record only after `Ok`
  pub record Stepped (old : ResponseFutureView R F C) (answer : Poll (Result A E)) (new : ResponseFutureView R F C) : Type 0 where
    pub stepped : f.stepped old.inner answer new.inner
    pub records : RecordsAt answer old.start old.rec old.clock new.rec new.clock
    pub same : new.start ≡ old.start

-- a clone: of the recorder and of the inner service, with a share of the clock
pub record IsClone {R S C : Type 0} (rec_clone : R → R → Type 0) (service_clone : S → S → Type 0) (c : ClockOf C) (old copy : LatencyView R S C) : Type 0 where
  pub rec : rec_clone old.rec copy.rec
  pub service : service_clone old.service copy.service
  pub clock : c.shared old.clock copy.clock
