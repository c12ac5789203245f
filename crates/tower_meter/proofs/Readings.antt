-- A reading has the counts of the steps before it.
use Rattle.std.proofs.Common.{◌≡◌, List, [], ◌∷◌, take, Option, Some, refl, sym, ◌∙◌, ap, subst}
use Rattle.std.proofs.Math.Logic.{∥∥₁_map, ∥∥₁_elim}
use Rattle.std.specs.Global.{Box}
use Rattle.std.proofs.lemmas.Option.{same_Some}
use Rattle.tower_latch.specs.HistoryLemmas.{serves_at}
use Rattle.tower_latch.specs.Latch.{Serves, Came, Reached}
use Rattle.tower_latch.specs.declared.Latch.{Ghosts as LatchOf}
use Rattle.tower_meter.specs.Laws.{with, counted, ReadsCounts, ReadsCountsAt, ReadsInHistory}
use Rattle.tower_meter.specs.MeterCore.{Follows, Opens, StandsFor}
use Rattle.tower_meter.specs.Tally.{MeterSteps, Shows}
use Rattle.tower_meter.specs.declared.bounds.Bounds.{Bounds}
use Rattle.tower_meter.specs.declared.meter_core.MeterCore.{MeterCore}
use Rattle.tower_meter.specs.declared.meter_core.MeterStep.{MeterStep}
use Rattle.tower_meter.specs.declared.meter_core.MeterStep.TheVariants.{Call, Answer, Abandon, Unready, Uncounted, Read}
use Rattle.tower_meter.specs.declared.meter_core.MeterReply.{MeterReply}
use Rattle.tower_meter.specs.declared.meter_core.MeterReply.TheVariants.{Done, Full, Unknown, Shown}
use Rattle.tower_meter.specs.declared.reading.Reading.{Reading}

-- a step of the machine adds itself if it was counted
one_step : (bounds : Bounds) (old : List MeterStep) (step : MeterStep) (reply : MeterReply) (new : List MeterStep) → MeterSteps bounds old step reply new
    → new ≡ with step reply old
one_step b old Call Done new h = h.1
one_step b old Call Full new h = h.1
one_step b old Call Unknown new h = absurd h
one_step b old Call (Shown r) new h = absurd h
one_step b old (Answer o k n) Done new h = h.1
one_step b old (Answer o k n) Full new h = absurd h
one_step b old (Answer o k n) Unknown new h = h.1
one_step b old (Answer o k n) (Shown r) new h = absurd h
one_step b old Abandon Done new h = h.1
one_step b old Abandon Full new h = absurd h
one_step b old Abandon Unknown new h = h.1
one_step b old Abandon (Shown r) new h = absurd h
one_step b old (Unready n) Done new h = h.1
one_step b old (Unready n) Full new h = h.1
one_step b old (Unready n) Unknown new h = absurd h
one_step b old (Unready n) (Shown r) new h = absurd h
one_step b old Uncounted Done new h = h.1
one_step b old Uncounted Full new h = h.1
one_step b old Uncounted Unknown new h = absurd h
one_step b old Uncounted (Shown r) new h = absurd h
one_step b old (Read room) Done new h = absurd h
one_step b old (Read room) Full new h = absurd h
one_step b old (Read room) Unknown new h = absurd h
one_step b old (Read room) (Shown r) new h = h.2

run_counts : (bounds : Bounds) (old : List MeterStep) (transcript : List (MeterStep × MeterReply)) (new : List MeterStep) → Serves (MeterSteps bounds) old transcript new
    → new ≡ counted old transcript
run_counts b old [] new run = run
run_counts b old (entry ∷ rest) new run =
    subst (λ (l : List MeterStep). new ≡ counted l rest) (one_step b old entry.0 entry.1 run.0 run.1) (run_counts b run.0 rest new run.2)

pub reads_counts : ReadsCounts
reads_counts bounds transcript now next room shown run reads = (reads.0, subst (Shows shown.value) (run_counts bounds [] transcript now run) reads.1)

-- whatever the core serves is a run of the machine of its bounds, which it keeps
follows : (old new : MeterCore) (served : List (MeterStep × MeterReply)) (plain : List MeterStep) → Serves Follows old served new → StandsFor old plain
    → (next : List MeterStep) × Serves (MeterSteps old.reading.bounds) plain served next × StandsFor new next × (new.reading.bounds ≡ old.reading.bounds)
follows old new [] plain run held =
    (plain, refl, subst (λ (c : MeterCore). StandsFor c plain) (sym run) held, ap (λ (c : MeterCore). c.reading.bounds) run)
follows old new (entry ∷ more) plain run held =
    let first = run.1.goes plain held in
    let rest = follows run.0 new more first.0 run.2 first.2 in (
      rest.0,
      (first.0, first.1, subst (λ (b : Bounds). Serves (MeterSteps b) first.0 more rest.0) run.1.same rest.1),
      rest.2,
      rest.3 ∙ run.1.same,
    )

-- what a core that was reached in a run stands for
past : (core : MeterCore) → (reached : Reached Opens Follows core) → (next : List MeterStep) × Serves (MeterSteps core.reading.bounds) [] reached.1 next × StandsFor core next
past core reached =
    let run = follows reached.0 core reached.1 [] reached.3 reached.2 in
    (run.0, subst (λ (b : Bounds). Serves (MeterSteps b) [] reached.1 run.0) (sym run.3) run.1, run.2)

pub reads_counts_at : {L : Type 0} (l : LatchOf L MeterCore MeterStep MeterReply Bounds) (latch : L)
    → ((step : MeterStep) (reply : MeterReply) → l.gave latch step reply
    → Came Opens Follows (λ (core : MeterCore). core.reading.bounds) (l.terms latch) step reply)
    → ReadsCountsAt l latch
reads_counts_at l latch honest room shown gave =
    let came = honest (Read room) (Shown shown) gave in
    ∥∥₁_map came.2 (λ reached.
    let before = past came.0 reached in
    let next = came.3.goes before.0 before.2 in
    let reads = reads_counts came.0.reading.bounds reached.1 before.0 next.0 room shown before.1 next.1 in
    (reached.1, before.0, subst (λ (b : Bounds). Serves (MeterSteps b) [] reached.1 before.0) came.4 before.1, reads.0 ∙ came.4, reads.1))

pub reads_in_history : ReadsInHistory
reads_in_history core opening history held is legal place room shown at =
    let run = legal.1 in
    let same : core ≡ run.0 = same_Some core run.0 (sym is ∙ run.1) in
    let plain = follows run.0 legal.0 history [] run.3 (subst (λ (c : MeterCore). StandsFor c []) same held) in
    let here = serves_at (MeterSteps run.0.reading.bounds) [] plain.0 history place (Read room) (Shown shown) plain.1 at in
    let reads = reads_counts run.0.reading.bounds (take place history) here.0 here.1 room shown here.2 here.3 in
    (reads.0 ∙ ap (λ (c : MeterCore). c.reading.bounds) (sym same), reads.1)

-- only a reading replies to a read
no_other : (bounds : Bounds) (old : List MeterStep) (room : Box Reading) (reply : MeterReply) (new : List MeterStep) → MeterSteps bounds old (Read room) reply new
    → ((shown : Box Reading) → reply ≡ Shown shown → ⊥) → ⊥
no_other b old room Done new h other = h
no_other b old room Full new h other = h
no_other b old room Unknown new h other = h
no_other b old room (Shown shown) new h other = other shown refl

pub never : (room : Box Reading) (reply : MeterReply) (old new : MeterCore) → ∥ Reached Opens Follows old ∥₁ → Follows old (Read room) reply new
    → ((shown : Box Reading) → reply ≡ Shown shown → ⊥) → ⊥
never room reply old new came made other =
    ∥∥₁_elim came (λ x y. absurd x) (λ reached.
    let before = past old reached in
    let next = made.goes before.0 before.2 in
    no_other old.reading.bounds before.0 room reply next.0 next.1 other)
