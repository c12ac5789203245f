-- What a meter counts: the steps that it made, as a plain list, the last one first.
use Rattle.std.specs.Prelude.{◌≡◌, ◌<◌, ◌⊎◌, ℕ, ◌+◌, ◌-◌, ◌*◌, ◌^◌, Bool, true, false, List, [], ◌∷◌, if◌then◌else◌, nat_eq, nat_lt, min, max, slice_index_or}
use Rattle.tower_meter.specs.Buckets.{below}
use Rattle.tower_meter.specs.declared.bounds.Bounds.{Bounds}
use Rattle.tower_meter.specs.declared.meter_core.MeterStep.{MeterStep}
use Rattle.tower_meter.specs.declared.meter_core.MeterStep.TheVariants.{Call, Answer, Abandon, Unready, Uncounted, Read}
use Rattle.tower_meter.specs.declared.meter_core.MeterReply.{MeterReply}
use Rattle.tower_meter.specs.declared.meter_core.MeterReply.TheVariants.{Done, Full, Unknown, Shown}
use Rattle.tower_meter.specs.declared.reading.Reading.{Reading}

-- the greatest number that can be counted
abbrev pub most : ℕ
most = 2 ^ 64 - 1

-- the sum of a weight over the steps
abbrev pub total : (MeterStep → ℕ) → List MeterStep → ℕ
total weight [] = 0
total weight (step ∷ rest) = weight step + total weight rest

-- 1 for a step of one sort, 0 for any other
abbrev pub call : MeterStep → ℕ
call Call = 1
call _ = 0

abbrev pub ok : MeterStep → ℕ
ok (Answer is_ok kind nanos) = if is_ok then 1 else 0
ok _ = 0

abbrev pub err : MeterStep → ℕ
err (Answer is_ok kind nanos) = if is_ok then 0 else 1
err _ = 0

abbrev pub dropped : MeterStep → ℕ
dropped Abandon = 1
dropped _ = 0

-- an answer of this kind (a kind past 15 counts as 15)
abbrev pub of_kind : ℕ → MeterStep → ℕ
of_kind place (Answer is_ok kind nanos) = if nat_eq (min kind 15) place then 1 else 0
of_kind place _ = 0

-- an answer whose time is in this bucket
abbrev pub of_bucket : List ℕ → ℕ → MeterStep → ℕ
of_bucket bounds bucket (Answer is_ok kind nanos) = if nat_eq (below bounds nanos) bucket then 1 else 0
of_bucket bounds bucket _ = 0

-- the time of an answer
abbrev pub time : MeterStep → ℕ
time (Answer is_ok kind nanos) = nanos
time _ = 0

abbrev pub unready : MeterStep → ℕ
unready (Unready nanos) = 1
unready _ = 0

abbrev pub unready_time : MeterStep → ℕ
unready_time (Unready nanos) = nanos
unready_time _ = 0

abbrev pub uncounted : MeterStep → ℕ
uncounted Uncounted = 1
uncounted _ = 0

-- the calls that have no answer yet
abbrev pub in_flight : List MeterStep → ℕ
in_flight steps = total call steps - (total ok steps + total err steps + total dropped steps)

-- the most that were in flight at once
abbrev pub highest : List MeterStep → ℕ
highest [] = 0
highest (step ∷ rest) = max (highest rest) (in_flight (step ∷ rest))

-- The reading is that of these steps, with buckets of these bounds: each number is the plain count.
pub record ShowsBy (bounds : List ℕ) (reading : Reading) (steps : List MeterStep) : Type 0 where
  pub calls : reading.calls ≡ total call steps
  pub oks : reading.ok ≡ total ok steps
  pub errs : reading.err ≡ total err steps
  pub drops : reading.dropped ≡ total dropped steps
  pub flights : reading.in_flight ≡ in_flight steps
  pub peak : reading.highest ≡ highest steps
  pub kinds : (place : ℕ) → slice_index_or reading.kinds place 0 ≡ total (of_kind place) steps
  pub buckets : (bucket : ℕ) → slice_index_or reading.buckets bucket 0 ≡ total (of_bucket bounds bucket) steps
  pub times : reading.nanos ≡ total time steps
  pub spans : reading.unready ≡ total unready steps
  pub unready_times : reading.unready_nanos ≡ total unready_time steps
  pub passed : reading.uncounted ≡ total uncounted steps

-- The reading is that of these steps, with buckets of its own bounds.
abbrev pub Shows : Reading → List MeterStep → Type 0
Shows reading steps = ShowsBy reading.bounds.nanos reading steps

-- Of whatever steps the old reading is, the new one is of these and one more. Its bounds are the same.
pub record Adds (old : Reading) (step : MeterStep) (new : Reading) : Type 0 where
  pub same : new.bounds ≡ old.bounds
  pub adds : (steps : List MeterStep) → Shows old steps → Shows new (step ∷ steps)

-- After these steps, the step may have this reply and leave the new steps, at a meter with these bounds.
abbrev pub MeterSteps : Bounds → List MeterStep → MeterStep → MeterReply → List MeterStep → Type 0
-- A call is counted, if one more can be.
MeterSteps bounds old Call Done new = (total call old < most) × (new ≡ Call ∷ old)
MeterSteps bounds old Call Full new = (total call old ≡ most) × (new ≡ old)
-- An answer, or a drop, ends a call that is in flight.
MeterSteps bounds old (Answer is_ok kind nanos) Done new = (0 < in_flight old) × (new ≡ Answer is_ok kind nanos ∷ old)
MeterSteps bounds old (Answer is_ok kind nanos) Unknown new = (in_flight old ≡ 0) × (new ≡ old)
MeterSteps bounds old Abandon Done new = (0 < in_flight old) × (new ≡ Abandon ∷ old)
MeterSteps bounds old Abandon Unknown new = (in_flight old ≡ 0) × (new ≡ old)
-- A time unready is counted, and a call that passes uncounted, if one more can be.
MeterSteps bounds old (Unready nanos) Done new = (total unready old < most) × (new ≡ Unready nanos ∷ old)
MeterSteps bounds old (Unready nanos) Full new = (total unready old ≡ most) × (new ≡ old)
MeterSteps bounds old Uncounted Done new = (total uncounted old < most) × (new ≡ Uncounted ∷ old)
MeterSteps bounds old Uncounted Full new = (total uncounted old ≡ most) × (new ≡ old)
-- What is shown is the reading of the steps, with the bounds.
MeterSteps bounds old (Read room) (Shown shown) new = (shown.value.bounds ≡ bounds) × Shows shown.value old × (new ≡ old)
-- No other reply is given.
MeterSteps bounds old _ _ new = ⊥
