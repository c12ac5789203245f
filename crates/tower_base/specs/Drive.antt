-- Whole runs of a service and of the futures that its calls return.
use Rattle.std.specs.Prelude.{◌≡◌, ℕ, Bool, true, false, List, [], ◌∷◌, ◌++◌, length, Option, Some, None, Result, Ok, Err, slice_get, slice_set}
use Rattle.futures.specs.declared.task.Poll.{Poll}
use Rattle.futures.specs.declared.task.Poll.TheVariants.{Ready, Pending}
use Rattle.tower_base.specs.declared.service.Service.{Ghosts as ServiceOf}
use Rattle.tower_base.specs.declared.drive.Event.{Event}
use Rattle.tower_base.specs.declared.drive.Event.TheVariants.{Poll as PollEvent, Call, Future, Drop, Turn}
use Rattle.tower_base.specs.declared.drive.Entry.{Entry}
use Rattle.tower_base.specs.declared.drive.Entry.TheVariants.{Polled, Called, Answered, Dropped as DroppedEntry, Turned, Skipped}
use Rattle.tower_base.specs.declared.drive.Slot.{Slot}
use Rattle.tower_base.specs.declared.drive.Slot.TheVariants.{Live, Finished, Dropped}

-- The service, its futures in the order of the calls, whether a call may be made, and the closure.
pub record State (S F O : Type 0) : Type 0 where
  pub service : S
  pub futures : List (Slot F)
  pub may_call : Bool
  pub outside : O

-- the state before the first event
abbrev pub initial : {S F O : Type 0} → S → O → State S F O
initial service outside = record { service = service; futures = []; may_call = false; outside = outside }

-- whether the answer allows a call
abbrev pub allows : {E : Type 0} → Poll (Result (Unit {0}) E) → Bool
allows (Ready (Ok x)) = true
allows (Ready (Err e)) = false
allows Pending = false

-- the slot of a future after its poll
abbrev pub slot_after : {F R : Type 0} → F → Poll R → Slot F
slot_after f (Ready x) = Finished f
slot_after f Pending = Live f

-- The slot has a future that may be polled.
abbrev pub IsLive : {F : Type 0} → Option (Slot F) → Type 0
IsLive (Some (Live f)) = Unit {0}
IsLive (Some (Finished f)) = ⊥
IsLive (Some Dropped) = ⊥
IsLive None = ⊥

-- The slot has a future that wasn't dropped.
abbrev pub IsKept : {F : Type 0} → Option (Slot F) → Type 0
IsKept (Some (Live f)) = Unit {0}
IsKept (Some (Finished f)) = Unit {0}
IsKept (Some Dropped) = ⊥
IsKept None = ⊥

-- A call is made only if it may be, and the service is ready. Its future gets the next number.
pub record Calls {S Q A E F O : Type 0} (s : ServiceOf S Q A E F) (old : State S F O) (request : Q) (index : ℕ) (new : State S F O) : Type 0 where
  pub may_call : old.may_call ≡ true
  pub ready : s.ready old.service
  pub future : F
  pub called : s.called old.service request future new.service
  pub number : index ≡ length old.futures
  pub after : new ≡ record { service = new.service; futures = old.futures ++ Live future ∷ []; may_call = false; outside = old.outside }

-- The live future at this index is polled. If it returns an output, it is finished.
pub record Polls {F R : Type 0} (stepped : F → Poll R → F → Type 0) (old : List (Slot F)) (index : ℕ) (answer : Poll R) (new : List (Slot F)) : Type 0 where
  pub future : F
  pub left : F
  pub live : slice_get old index ≡ Some (Live future)
  pub step : stepped future answer left
  pub after : new ≡ slice_set old index (slot_after left answer)

module _ {S Q A E F T U O : Type 0} (s : ServiceOf S Q A E F)
    (stepped : F → Poll (Result A E) → F → Type 0) (turned : O → T → U → O → Type 0) where
  -- From `old`, the event may have this entry and lead to `new`.
  abbrev pub Step : State S F O → Event Q T → Entry A E U → State S F O → Type 0
  -- The service's readiness is polled. A call may be made exactly after `Ok`.
  Step old PollEvent (Polled answer) new = s.polled old.service answer new.service
      × (new ≡ record old { service = new.service; may_call = allows answer })
  -- A call is made only if it may be, and the service is ready. Its future gets the next number.
  Step old (Call request) (Called index) new = Calls s old request index new
  -- It is skipped exactly if it may not be made.
  Step old (Call request) Skipped new = (old.may_call ≡ false) × (new ≡ old)
  -- A live future is polled. If it returns an output, it is finished.
  Step old (Future index) (Answered place answer) new = (place ≡ index) × Polls stepped old.futures index answer new.futures
      × (new ≡ record old { futures = new.futures })
  Step old (Future index) Skipped new = ¬ IsLive (slice_get old.futures index) × (new ≡ old)
  -- A future that is kept is dropped.
  Step old (Drop index) (DroppedEntry place) new = (place ≡ index) × IsKept (slice_get old.futures index)
      × (new ≡ record old { futures = slice_set old.futures index Dropped })
  Step old (Drop index) Skipped new = ¬ IsKept (slice_get old.futures index) × (new ≡ old)
  -- The closure is called.
  Step old (Turn t) (Turned u) new = turned old.outside t u new.outside × (new ≡ record old { outside = new.outside })
  -- Nothing else happens.
  Step old event entry new = ⊥

  -- The events, one after another, may have these entries.
  abbrev pub Run : State S F O → List (Event Q T) → List (Entry A E U) → State S F O → Type 0
  Run old [] [] new = new ≡ old
  Run old (event ∷ events) (entry ∷ entries) new = (mid : State S F O) × Step old event entry mid × Run mid events entries new
  Run old [] (entry ∷ entries) new = ⊥
  Run old (event ∷ events) [] new = ⊥
