-- The machine of `traced`.
use Rattle.std.specs.Prelude.{◌≡◌, ℕ, ◌-◌, Bool, true, false, Option, None, Some, Result}
use Rattle.futures.specs.declared.task.Poll.{Poll}
use Rattle.futures.specs.declared.task.Poll.TheVariants.{Ready, Pending}
use Rattle.tower_base.specs.declared.service.Service.{Ghosts as ServiceOf}
use Rattle.tower_base.specs.declared.service.Steps.{Ghosts as StepsOf}
use Rattle.tower_base.specs.declared.service.Clock.{Ghosts as ClockOf}

-- what is told: a call with its request, its answer, its drop before an answer, or a time unready. A call has a span, by which its end is known; times
-- are in nanoseconds.
pub data Event (Q A E P : Type 0) : Type 0 where
  called : Q → P → Event Q A E P
  answered : P → Result A E → ℕ → Event Q A E P
  dropped : P → ℕ → Event Q A E P
  unready : ℕ → Event Q A E P

-- a `Traced`; polls found the inner service unready since a moment, or the last one found it ready
pub record TracedView (S C N : Type 0) : Type 0 where
  pub inner : S
  pub clock : C
  pub trace : N
  pub since : Option ℕ

-- its response future, whose end wasn't told yet if it is open
pub record TracedFutureView (F C N P : Type 0) : Type 0 where
  pub inner : F
  pub clock : C
  pub trace : N
  pub span : P
  pub start : ℕ
  pub is_open : Bool

-- its layer
pub record TracedLayerView (C N : Type 0) : Type 0 where
  pub clock : C
  pub trace : N

module _ {C : Type 0} (c : ClockOf C) {N Q A E P : Type 0} (told : N → Event Q A E P → Type 0) where
  -- A poll of readiness that is pending begins a time unready, if there is none. One that isn't pending ends it, and tells that time.
  abbrev pub Times : {X : Type 0} → N → Option ℕ → C → Poll X → Option ℕ → C → Type 0
  Times trace None clock Pending since after = c.read clock after × (since ≡ Some (c.reading after))
  Times trace (Some moment) clock Pending since after = (since ≡ Some moment) × (after ≡ clock)
  Times trace None clock (Ready x) since after = (since ≡ None) × (after ≡ clock)
  Times trace (Some moment) clock (Ready x) since after = c.read clock after × told trace (Event.unready (c.reading after - moment)) × (since ≡ None)

  -- An answer of a call that is open is told, with its time. Otherwise nothing is told, and the clock isn't read.
  abbrev pub Tells : N → P → ℕ → Poll (Result A E) → Bool → C → Bool → C → Type 0
  Tells trace span start (Ready answer) true clock is_open after = c.read clock after × told trace (Event.answered span answer (c.reading after - start)) × (is_open ≡ false)
  Tells trace span start answer was_open clock is_open after = (is_open ≡ was_open) × (after ≡ clock)

module _ {S C N Q A E F P : Type 0} (s : ServiceOf S Q A E F) (c : ClockOf C) (told : N → Event Q A E P → Type 0) where
  -- a poll of readiness: one poll of the inner service, whose answer is returned
  pub record Polled (old : TracedView S C N) (answer : Poll (Result (Unit {0}) E)) (new : TracedView S C N) : Type 0 where
    pub polled : s.polled old.inner answer new.inner
    pub times : Times c told old.trace old.since old.clock answer new.since new.clock
    pub trace : new.trace ≡ old.trace

  -- a call: one reading of the clock, and one call of the inner service, which is ready; the request is told
  pub record Called (old : TracedView S C N) (request : Q) (future : TracedFutureView F C N P) (new : TracedView S C N) : Type 0 where
    pub read : c.read old.clock new.clock
    pub start : future.start ≡ c.reading new.clock
    pub tells : told old.trace (Event.called request future.span)
    pub ready : s.ready old.inner
    pub called : s.called old.inner request future.inner new.inner
    pub clock : c.shared new.clock future.clock
    pub opened : future.is_open ≡ true
    pub trace : future.trace ≡ old.trace
    pub same : new.trace ≡ old.trace
    pub since : new.since ≡ old.since

module _ {F C N Q A E P : Type 0} (f : StepsOf F (Result A E)) (c : ClockOf C) (told : N → Event Q A E P → Type 0) where
  -- a poll of the future: one poll of the inner future, whose answer is returned
  pub record Stepped (old : TracedFutureView F C N P) (answer : Poll (Result A E)) (new : TracedFutureView F C N P) : Type 0 where
    pub stepped : f.stepped old.inner answer new.inner
    pub tells : Tells c told old.trace old.span old.start answer old.is_open old.clock new.is_open new.clock
    pub trace : new.trace ≡ old.trace
    pub span : new.span ≡ old.span
    pub start : new.start ≡ old.start

module _ {C : Type 0} (c : ClockOf C) where
  -- what the layer returns: a `Traced` of the service, with a share of the clock; no poll was made yet
  pub record Made {S N : Type 0} (layer : TracedLayerView C N) (service : S) (made : TracedView S C N) : Type 0 where
    pub inner : made.inner ≡ service
    pub clock : c.shared layer.clock made.clock
    pub trace : made.trace ≡ layer.trace
    pub since : made.since ≡ None

  -- a clone: of the inner service, with a share of the clock; no poll found it unready yet
  pub record IsClone {S N : Type 0} (is_clone : S → S → Type 0) (old copy : TracedView S C N) : Type 0 where
    pub inner : is_clone old.inner copy.inner
    pub clock : c.shared old.clock copy.clock
    pub trace : copy.trace ≡ old.trace
    pub since : copy.since ≡ None

  -- a clone of the layer: a share of the clock
  pub record IsLayerClone {N : Type 0} (old copy : TracedLayerView C N) : Type 0 where
    pub clock : c.shared old.clock copy.clock
    pub trace : copy.trace ≡ old.trace
