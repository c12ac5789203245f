-- Each change of a reading adds one step.
use Rattle.std.proofs.Common.{◌≡◌, ◌≤◌, ◌<◌, ℕ, ◌+◌, ◌-◌, Bool, true, false, List, [], ◌∷◌, refl, sym, ◌∙◌, ap, arith}
use Rattle.std.specs.Prelude.{if◌then◌else◌, nat_eq, min, max, slice_index_or}
use Rattle.tower_meter.specs.Buckets.{below}
use Rattle.tower_meter.specs.Tally.{ShowsBy, total, call, ok, err, dropped, of_kind, of_bucket, time, unready, unready_time, uncounted, in_flight, highest}
use Rattle.tower_meter.specs.declared.meter_core.MeterStep.{MeterStep}
use Rattle.tower_meter.specs.declared.meter_core.MeterStep.TheVariants.{Call, Answer, Abandon, Unready, Uncounted}
use Rattle.tower_meter.specs.declared.reading.Reading.{Reading}

-- no more are in flight than the most that were
at_most : (steps : List MeterStep) → in_flight steps ≤ highest steps
at_most [] = omega arith
at_most (step ∷ rest) = omega arith

stays : (a b c : ℕ) → a ≡ b → c ≤ b → a ≡ max b c
stays a b c same low = omega (arith, same, low)

nought : (a b : ℕ) → a ≡ b → a ≡ 0 + b
nought a b same = omega (arith, same)

module _ (bounds : List ℕ) (old new : Reading) (steps : List MeterStep) (s : ShowsBy bounds old steps) where
  pub adds_call : new.calls ≡ old.calls + 1 → new.ok ≡ old.ok → new.err ≡ old.err → new.dropped ≡ old.dropped → new.in_flight ≡ old.in_flight + 1
      → new.highest ≡ max old.highest (old.in_flight + 1) → new.kinds ≡ old.kinds → new.buckets ≡ old.buckets → new.nanos ≡ old.nanos
      → new.unready ≡ old.unready → new.unready_nanos ≡ old.unready_nanos → new.uncounted ≡ old.uncounted → ShowsBy bounds new (Call ∷ steps)
  adds_call calls oks errs drops flights peak kinds buckets times spans unready_times passed =
      let balanced = old.balanced in
      let now : new.in_flight ≡ in_flight (Call ∷ steps) = omega (arith, flights, balanced, s.calls, s.oks, s.errs, s.drops) in
      let high : max old.highest (old.in_flight + 1) ≡ max (highest steps) (in_flight (Call ∷ steps)) =
      ap (λ (n : ℕ). max n (old.in_flight + 1)) s.peak ∙ ap (λ (n : ℕ). max (highest steps) n) (sym flights ∙ now) in
      record {
        calls = omega (arith, calls, s.calls);
        oks = nought _ _ (oks ∙ s.oks);
        errs = nought _ _ (errs ∙ s.errs);
        drops = nought _ _ (drops ∙ s.drops);
        flights = now;
        peak = peak ∙ high;
        kinds = λ place. nought _ _ (ap (λ (xs : List ℕ). slice_index_or xs place 0) kinds ∙ s.kinds place);
        buckets = λ bucket. nought _ _ (ap (λ (xs : List ℕ). slice_index_or xs bucket 0) buckets ∙ s.buckets bucket);
        times = nought _ _ (times ∙ s.times);
        spans = nought _ _ (spans ∙ s.spans);
        unready_times = nought _ _ (unready_times ∙ s.unready_times);
        passed = nought _ _ (passed ∙ s.passed);
      }

  pub adds_abandon : 0 < old.in_flight → new.calls ≡ old.calls → new.ok ≡ old.ok → new.err ≡ old.err → new.dropped ≡ old.dropped + 1 → new.in_flight ≡ old.in_flight - 1
      → new.highest ≡ old.highest → new.kinds ≡ old.kinds → new.buckets ≡ old.buckets → new.nanos ≡ old.nanos
      → new.unready ≡ old.unready → new.unready_nanos ≡ old.unready_nanos → new.uncounted ≡ old.uncounted → ShowsBy bounds new (Abandon ∷ steps)
  adds_abandon some calls oks errs drops flights peak kinds buckets times spans unready_times passed =
      let balanced = old.balanced in
      let now : new.in_flight ≡ in_flight (Abandon ∷ steps) = omega (arith, some, flights, balanced, s.calls, s.oks, s.errs, s.drops) in
      let low : in_flight (Abandon ∷ steps) ≤ highest steps = omega (arith, at_most steps) in
      record {
        calls = nought _ _ (calls ∙ s.calls);
        oks = nought _ _ (oks ∙ s.oks);
        errs = nought _ _ (errs ∙ s.errs);
        drops = omega (arith, drops, s.drops);
        flights = now;
        peak = stays new.highest (highest steps) (in_flight (Abandon ∷ steps)) (peak ∙ s.peak) low;
        kinds = λ place. nought _ _ (ap (λ (xs : List ℕ). slice_index_or xs place 0) kinds ∙ s.kinds place);
        buckets = λ bucket. nought _ _ (ap (λ (xs : List ℕ). slice_index_or xs bucket 0) buckets ∙ s.buckets bucket);
        times = nought _ _ (times ∙ s.times);
        spans = nought _ _ (spans ∙ s.spans);
        unready_times = nought _ _ (unready_times ∙ s.unready_times);
        passed = nought _ _ (passed ∙ s.passed);
      }

  pub adds_unready : (nanos : ℕ) → new.calls ≡ old.calls → new.ok ≡ old.ok → new.err ≡ old.err → new.dropped ≡ old.dropped → new.in_flight ≡ old.in_flight
      → new.highest ≡ old.highest → new.kinds ≡ old.kinds → new.buckets ≡ old.buckets → new.nanos ≡ old.nanos
      → new.unready ≡ old.unready + 1 → new.unready_nanos ≡ old.unready_nanos + nanos → new.uncounted ≡ old.uncounted → ShowsBy bounds new (Unready nanos ∷ steps)
  adds_unready nanos calls oks errs drops flights peak kinds buckets times spans unready_times passed =
      record {
        calls = nought _ _ (calls ∙ s.calls);
        oks = nought _ _ (oks ∙ s.oks);
        errs = nought _ _ (errs ∙ s.errs);
        drops = nought _ _ (drops ∙ s.drops);
        flights = omega (arith, flights, s.flights);
        peak = stays new.highest (highest steps) (in_flight (Unready nanos ∷ steps)) (peak ∙ s.peak) (omega (arith, at_most steps));
        kinds = λ place. nought _ _ (ap (λ (xs : List ℕ). slice_index_or xs place 0) kinds ∙ s.kinds place);
        buckets = λ bucket. nought _ _ (ap (λ (xs : List ℕ). slice_index_or xs bucket 0) buckets ∙ s.buckets bucket);
        times = nought _ _ (times ∙ s.times);
        spans = omega (arith, spans, s.spans);
        unready_times = omega (arith, unready_times, s.unready_times);
        passed = nought _ _ (passed ∙ s.passed);
      }

  pub adds_uncounted : new.calls ≡ old.calls → new.ok ≡ old.ok → new.err ≡ old.err → new.dropped ≡ old.dropped → new.in_flight ≡ old.in_flight
      → new.highest ≡ old.highest → new.kinds ≡ old.kinds → new.buckets ≡ old.buckets → new.nanos ≡ old.nanos
      → new.unready ≡ old.unready → new.unready_nanos ≡ old.unready_nanos → new.uncounted ≡ old.uncounted + 1 → ShowsBy bounds new (Uncounted ∷ steps)
  adds_uncounted calls oks errs drops flights peak kinds buckets times spans unready_times passed =
      record {
        calls = nought _ _ (calls ∙ s.calls);
        oks = nought _ _ (oks ∙ s.oks);
        errs = nought _ _ (errs ∙ s.errs);
        drops = nought _ _ (drops ∙ s.drops);
        flights = omega (arith, flights, s.flights);
        peak = stays new.highest (highest steps) (in_flight (Uncounted ∷ steps)) (peak ∙ s.peak) (omega (arith, at_most steps));
        kinds = λ place. nought _ _ (ap (λ (xs : List ℕ). slice_index_or xs place 0) kinds ∙ s.kinds place);
        buckets = λ bucket. nought _ _ (ap (λ (xs : List ℕ). slice_index_or xs bucket 0) buckets ∙ s.buckets bucket);
        times = nought _ _ (times ∙ s.times);
        spans = nought _ _ (spans ∙ s.spans);
        unready_times = nought _ _ (unready_times ∙ s.unready_times);
        passed = omega (arith, passed, s.passed);
      }

  pub adds_answer : (is_ok : Bool) (kind nanos one : ℕ) → one ≡ (if is_ok then 1 else 0) → 0 < old.in_flight → new.calls ≡ old.calls → new.ok ≡ old.ok + one
      → new.err ≡ old.err + (1 - one) → new.dropped ≡ old.dropped → new.in_flight ≡ old.in_flight - 1 → new.highest ≡ old.highest
      → ((place : ℕ) → slice_index_or new.kinds place 0 ≡ (if nat_eq (min kind 15) place then 1 else 0) + slice_index_or old.kinds place 0)
      → ((bucket : ℕ) → slice_index_or new.buckets bucket 0 ≡ (if nat_eq (below bounds nanos) bucket then 1 else 0) + slice_index_or old.buckets bucket 0)
      → new.nanos ≡ old.nanos + nanos → new.unready ≡ old.unready → new.unready_nanos ≡ old.unready_nanos → new.uncounted ≡ old.uncounted → ShowsBy bounds new (Answer is_ok kind nanos ∷ steps)
  adds_answer true kind nanos one is_one some calls oks errs drops flights peak kinds buckets times spans unready_times passed =
      let balanced = old.balanced in
      let now : new.in_flight ≡ in_flight (Answer true kind nanos ∷ steps) = omega (arith, some, flights, balanced, s.calls, s.oks, s.errs, s.drops) in
      let low : in_flight (Answer true kind nanos ∷ steps) ≤ highest steps = omega (arith, at_most steps) in
      record {
        calls = nought _ _ (calls ∙ s.calls);
        oks = omega (arith, oks, is_one, s.oks);
        errs = omega (arith, errs, is_one, s.errs);
        drops = nought _ _ (drops ∙ s.drops);
        flights = now;
        peak = stays new.highest (highest steps) (in_flight (Answer true kind nanos ∷ steps)) (peak ∙ s.peak) low;
        kinds = λ place. kinds place ∙ ap (λ (n : ℕ). (if nat_eq (min kind 15) place then 1 else 0) + n) (s.kinds place);
        buckets = λ bucket. buckets bucket ∙ ap (λ (n : ℕ). (if nat_eq (below bounds nanos) bucket then 1 else 0) + n) (s.buckets bucket);
        times = omega (arith, times, s.times);
        spans = nought _ _ (spans ∙ s.spans);
        unready_times = nought _ _ (unready_times ∙ s.unready_times);
        passed = nought _ _ (passed ∙ s.passed);
      }
  adds_answer false kind nanos one is_one some calls oks errs drops flights peak kinds buckets times spans unready_times passed =
      let balanced = old.balanced in
      let now : new.in_flight ≡ in_flight (Answer false kind nanos ∷ steps) = omega (arith, some, flights, balanced, s.calls, s.oks, s.errs, s.drops) in
      let low : in_flight (Answer false kind nanos ∷ steps) ≤ highest steps = omega (arith, at_most steps) in
      record {
        calls = nought _ _ (calls ∙ s.calls);
        oks = omega (arith, oks, is_one, s.oks);
        errs = omega (arith, errs, is_one, s.errs);
        drops = nought _ _ (drops ∙ s.drops);
        flights = now;
        peak = stays new.highest (highest steps) (in_flight (Answer false kind nanos ∷ steps)) (peak ∙ s.peak) low;
        kinds = λ place. kinds place ∙ ap (λ (n : ℕ). (if nat_eq (min kind 15) place then 1 else 0) + n) (s.kinds place);
        buckets = λ bucket. buckets bucket ∙ ap (λ (n : ℕ). (if nat_eq (below bounds nanos) bucket then 1 else 0) + n) (s.buckets bucket);
        times = omega (arith, times, s.times);
        spans = nought _ _ (spans ∙ s.spans);
        unready_times = nought _ _ (unready_times ∙ s.unready_times);
        passed = nought _ _ (passed ∙ s.passed);
      }
