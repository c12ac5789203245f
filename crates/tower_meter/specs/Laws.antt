-- What a meter's readings are, and what a `Metered` keeps to over one response.
use Rattle.std.specs.Prelude.{◌≡◌, ◌+◌, ◌-◌, ℕ, zero, suc, List, [], ◌∷◌, Option, Some, None, Result, sum, take, slice_get}
use Rattle.std.specs.Global.{Box}
use Rattle.futures.specs.declared.task.Poll.{Poll}
use Rattle.futures.specs.declared.task.Poll.TheVariants.{Ready, Pending}
use Rattle.tower_base.specs.declared.service.Service.{Ghosts as ServiceOf}
use Rattle.tower_base.specs.declared.service.Steps.{Ghosts as StepsOf}
use Rattle.tower_base.specs.declared.service.Clock.{Ghosts as ClockOf}
use Rattle.tower_latch.specs.declared.Latch.{Ghosts as LatchOf}
use Rattle.tower_latch.specs.History.{IsLegal}
use Rattle.tower_latch.specs.Latch.{Serves}
use Rattle.tower_meter.specs.MeterCore.{Follows, Opens, StandsFor}
use Rattle.tower_meter.specs.Metered.{MeteredView, ResponseFutureView, Called, Stepped, is_ok}
use Rattle.tower_meter.specs.Tally.{MeterSteps, Shows}
use Rattle.tower_meter.specs.declared.bounds.Bounds.{Bounds}
use Rattle.tower_meter.specs.declared.meter_core.MeterCore.{MeterCore}
use Rattle.tower_meter.specs.declared.meter_core.MeterStep.{MeterStep}
use Rattle.tower_meter.specs.declared.meter_core.MeterStep.TheVariants.{Answer, Read}
use Rattle.tower_meter.specs.declared.meter_core.MeterReply.{MeterReply}
use Rattle.tower_meter.specs.declared.meter_core.MeterReply.TheVariants.{Done, Full, Unknown, Shown}
use Rattle.tower_meter.specs.declared.reading.Reading.{Reading}

-- the step, before others, if the reply says that it was counted
abbrev pub with : MeterStep → MeterReply → List MeterStep → List MeterStep
with step Done before = step ∷ before
with step _ before = before

-- the steps of a transcript that were counted, the last one first, before others
abbrev pub counted : List MeterStep → List (MeterStep × MeterReply) → List MeterStep
counted before [] = before
counted before (entry ∷ rest) = counted (with entry.0 entry.1 before) rest

-- In each run from a new meter, a reading shows the plain counts of the steps before it that were counted, in buckets of the meter's bounds.
abbrev pub ReadsCounts : Type 0
ReadsCounts = (bounds : Bounds) (transcript : List (MeterStep × MeterReply)) (now next : List MeterStep) (room shown : Box Reading)
    → Serves (MeterSteps bounds) [] transcript now → MeterSteps bounds now (Read room) (Shown shown) next
    → (shown.value.bounds ≡ bounds) × Shows shown.value (counted [] transcript)

-- So it is of each reading that a latch gives, in a run of its core: that of the steps of all handles together.
abbrev pub ReadsCountsAt : {L : Type 0} → LatchOf L MeterCore MeterStep MeterReply Bounds → L → Type 0
ReadsCountsAt l latch = (room shown : Box Reading) → l.gave latch (Read room) (Shown shown)
    → ∥ ((transcript : List (MeterStep × MeterReply)) × (now : List MeterStep) × Serves (MeterSteps (l.terms latch)) [] transcript now
    × (shown.value.bounds ≡ l.terms latch) × Shows shown.value (counted [] transcript)) ∥₁

-- And of each reading in the history of a meter that ran under a log, with the entries before it.
abbrev pub ReadsInHistory : Type 0
ReadsInHistory = (core : MeterCore) (opening : Option MeterCore) (history : List (MeterStep × MeterReply)) → StandsFor core [] → opening ≡ Some core
    → IsLegal Opens Follows opening history
    → (place : ℕ) (room shown : Box Reading) → slice_get history place ≡ Some (Read room, Shown shown)
    → (shown.value.bounds ≡ core.reading.bounds) × Shows shown.value (counted [] (take place history))

-- In every reading the calls are those that ended and those in flight, and each answer is in one bucket and of one kind.
abbrev pub Balances : Type 0
Balances = (reading : Reading) → (reading.ok + reading.err + reading.dropped + reading.in_flight ≡ reading.calls)
    × (sum reading.buckets ≡ reading.ok + reading.err) × (sum reading.kinds ≡ reading.ok + reading.err)

module _ {F X : Type 0} (stepped : F → Poll X → F → Type 0) where
  -- The given number of polls are pending. The next one returns the output, and leaves the last value.
  abbrev pub EndsAfter : ℕ → F → X → F → Type 0
  EndsAfter zero first output last = stepped first (Ready output) last
  EndsAfter (suc polls) first output last = (next : F) × stepped first Pending next × EndsAfter polls next output last

module _ {S L C K Q A E F : Type 0} (l : LatchOf L MeterCore MeterStep MeterReply Bounds) (c : ClockOf C) (s : ServiceOf S Q A E F) (f : StepsOf F (Result A E))
    (of : K → Result A E → ℕ → Type 0) where
  -- A call that was counted is answered at the meter once, with the answer's kind and the time since the reading of the call. One that wasn't is not.
  abbrev pub AnswersOnce : K → Result A E → ℕ → Option L → C → Option L → C → Type 0
  AnswersOnce kinds answer start (Some share) clock held after = c.read clock after × ((kind : ℕ) × of kinds answer kind
      × ((reply : MeterReply) × l.gave share (Answer (is_ok answer) kind (c.reading after - start)) reply)) × (held ≡ None)
  AnswersOnce kinds answer start None clock held after = (held ≡ None) × (after ≡ clock)

  -- The answer is the inner one, in the poll in which it came, and is counted once. Until then nothing is.
  abbrev pub CountsAnswer : Type 0
  CountsAnswer = (old new : MeteredView S L C K) (request : Q) (future left : ResponseFutureView F L C K) (polls : ℕ) (answer : Result A E)
      → Called l c s old request future new → EndsAfter (Stepped l c f of) polls future answer left
      → EndsAfter f.stepped polls future.inner answer left.inner
      × AnswersOnce old.kinds answer (c.reading new.clock) future.share future.clock left.share left.clock
