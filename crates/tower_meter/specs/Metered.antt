-- The machine of `metered`.
use Rattle.std.specs.Prelude.{◌≡◌, ◌⊎◌, ℕ, ◌-◌, Bool, true, false, Option, None, Some, Result, Ok, Err}
use Rattle.std.specs.declared.alloc.AllocError.{AllocError}
use Rattle.futures.specs.declared.task.Poll.{Poll}
use Rattle.futures.specs.declared.task.Poll.TheVariants.{Ready, Pending}
use Rattle.tower_base.specs.declared.service.Service.{Ghosts as ServiceOf}
use Rattle.tower_base.specs.declared.service.Steps.{Ghosts as StepsOf}
use Rattle.tower_base.specs.declared.service.Clock.{Ghosts as ClockOf}
use Rattle.tower_latch.specs.declared.Latch.{Ghosts as LatchOf}
use Rattle.tower_meter.specs.declared.bounds.Bounds.{Bounds}
use Rattle.tower_meter.specs.declared.meter_core.MeterCore.{MeterCore}
use Rattle.tower_meter.specs.declared.meter_core.MeterStep.{MeterStep}
use Rattle.tower_meter.specs.declared.meter_core.MeterStep.TheVariants.{Call, Answer, Unready, Uncounted}
use Rattle.tower_meter.specs.declared.meter_core.MeterReply.{MeterReply}
use Rattle.tower_meter.specs.declared.meter_core.MeterReply.TheVariants.{Done}

-- a `Meter`
pub record MeterView (L : Type 0) : Type 0 where
  pub latch : L

-- a `Metered`; polls found the inner service unready since a moment, or the last one found it ready
pub record MeteredView (S L C K : Type 0) : Type 0 where
  pub inner : S
  pub latch : L
  pub clock : C
  pub kinds : K
  pub since : Option ℕ

-- its response future, whose call is in flight at the meter if it has a share
pub record ResponseFutureView (F L C K : Type 0) : Type 0 where
  pub inner : F
  pub share : Option L
  pub clock : C
  pub kinds : K
  pub start : ℕ

-- its layer
pub record MeterLayerView (L C K : Type 0) : Type 0 where
  pub latch : L
  pub clock : C
  pub kinds : K

abbrev pub is_ok : {A E : Type 0} → Result A E → Bool
is_ok (Ok x) = true
is_ok (Err e) = false

module _ {L : Type 0} (l : LatchOf L MeterCore MeterStep MeterReply Bounds) where
  -- The second latch is a share that the first one created, of the same meter: what it gave, the first gave.
  pub record IsShare (latch other : L) : Type 0 where
    pub shared : l.shares latch (Ok other)
    pub same : (step : MeterStep) (reply : MeterReply) → l.gave other step reply → l.gave latch step reply
    pub terms : l.terms other ≡ l.terms latch

  -- One step says that the call passes uncounted.
  abbrev pub SaysUncounted : L → Type 0
  SaysUncounted latch = (reply : MeterReply) × l.gave latch Uncounted reply

  -- The call has the share exactly if the reply says that it was counted.
  abbrev pub Holds : L → L → MeterReply → Option L → Type 0
  Holds latch share Done held = held ≡ Some share
  Holds latch share _ held = (held ≡ None) × SaysUncounted latch

  -- The latch refuses the share, and the call isn't counted.
  pub record Refused (latch : L) (held : Option L) : Type 0 where
    pub error : AllocError
    pub shared : l.shares latch (Err error)
    pub none : held ≡ None
    pub says : SaysUncounted latch

  -- The share is created, and one step counts the call, if one more can be counted.
  pub record Asked (latch : L) (held : Option L) : Type 0 where
    pub share : L
    pub shares : IsShare latch share
    pub reply : MeterReply
    pub counted : l.gave latch Call reply
    pub holds : Holds latch share reply held

  abbrev pub Taken : L → Option L → Type 0
  Taken latch held = Refused latch held ⊎ Asked latch held

  module _ {C : Type 0} (c : ClockOf C) where
    -- A poll of readiness that is pending begins a time unready, if there is none. One that isn't pending ends it, by a step with that time.
    abbrev pub Times : {X : Type 0} → L → Option ℕ → C → Poll X → Option ℕ → C → Type 0
    Times latch None clock Pending since after = c.read clock after × (since ≡ Some (c.reading after))
    Times latch (Some moment) clock Pending since after = (since ≡ Some moment) × (after ≡ clock)
    Times latch None clock (Ready x) since after = (since ≡ None) × (after ≡ clock)
    Times latch (Some moment) clock (Ready x) since after =
        c.read clock after × ((reply : MeterReply) × l.gave latch (Unready (c.reading after - moment)) reply) × (since ≡ None)

    module _ {S K Q A E F : Type 0} (s : ServiceOf S Q A E F) where
      -- a poll of readiness: one poll of the inner service, whose answer is returned
      pub record Polled (old : MeteredView S L C K) (answer : Poll (Result (Unit {0}) E)) (new : MeteredView S L C K) : Type 0 where
        pub polled : s.polled old.inner answer new.inner
        pub times : Times old.latch old.since old.clock answer new.since new.clock
        pub latch : new.latch ≡ old.latch
        pub kinds : new.kinds ≡ old.kinds

      -- a call: one reading of the clock, one step at the meter, and one call of the inner service, which is ready
      pub record Called (old : MeteredView S L C K) (request : Q) (future : ResponseFutureView F L C K) (new : MeteredView S L C K) : Type 0 where
        pub read : c.read old.clock new.clock
        pub start : future.start ≡ c.reading new.clock
        pub taken : Taken old.latch future.share
        pub ready : s.ready old.inner
        pub called : s.called old.inner request future.inner new.inner
        pub clock : c.shared new.clock future.clock
        pub kinds : future.kinds ≡ old.kinds
        pub latch : new.latch ≡ old.latch
        pub same : new.kinds ≡ old.kinds
        pub since : new.since ≡ old.since

    module _ {F K A E : Type 0} (f : StepsOf F (Result A E)) (of : K → Result A E → ℕ → Type 0) where
      -- An answer of a call in flight ends it, by one step with its kind and its time. Otherwise nothing is counted, and the clock isn't read.
      abbrev pub Counts : K → ℕ → Poll (Result A E) → Option L → C → Option L → C → Type 0
      Counts kinds start (Ready answer) (Some share) clock held after =
          c.read clock after × ((kind : ℕ) × of kinds answer kind
          × ((reply : MeterReply) × l.gave share (Answer (is_ok answer) kind (c.reading after - start)) reply)) × (held ≡ None)
      Counts kinds start answer share clock held after = (held ≡ share) × (after ≡ clock)

      -- a poll of the future: one poll of the inner future, whose answer is returned
      pub record Stepped (old : ResponseFutureView F L C K) (answer : Poll (Result A E)) (new : ResponseFutureView F L C K) : Type 0 where
        pub stepped : f.stepped old.inner answer new.inner
        pub counts : Counts old.kinds old.start answer old.share old.clock new.share new.clock
        pub kinds : new.kinds ≡ old.kinds
        pub start : new.start ≡ old.start

    -- what the layer returns: a `Metered` of the service, with a share of the meter and of the clock; no poll was made yet
    pub record Made {S K : Type 0} (layer : MeterLayerView L C K) (service : S) (made : MeteredView S L C K) : Type 0 where
      pub inner : made.inner ≡ service
      pub shares : IsShare layer.latch made.latch
      pub clock : c.shared layer.clock made.clock
      pub kinds : made.kinds ≡ layer.kinds
      pub since : made.since ≡ None

    -- a clone: of the inner service, with shares of the meter and of the clock; no poll found it unready yet
    pub record IsClone {S K : Type 0} (is_clone : S → S → Type 0) (old copy : MeteredView S L C K) : Type 0 where
      pub inner : is_clone old.inner copy.inner
      pub shares : IsShare old.latch copy.latch
      pub clock : c.shared old.clock copy.clock
      pub kinds : copy.kinds ≡ old.kinds
      pub since : copy.since ≡ None

    -- a clone of the layer: shares of the meter and of the clock
    pub record IsLayerClone {K : Type 0} (old copy : MeterLayerView L C K) : Type 0 where
      pub shares : IsShare old.latch copy.latch
      pub clock : c.shared old.clock copy.clock
      pub kinds : copy.kinds ≡ old.kinds
