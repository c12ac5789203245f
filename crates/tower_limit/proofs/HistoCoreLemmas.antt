-- Cores and the histograms that they stand for.
use Rattle.std.proofs.Common.{◌≡◌, ℕ, ◌+◌, ◌-◌, ◌<◌, ◌≤◌, true, false, Bool, List, [], ◌∷◌, length, refl, ◌∙◌, ap, sym, arith}
use Rattle.std.specs.Prelude.{nat_eq, if◌then◌else◌, slice_index_or, None, max}
use Rattle.std.specs.Option.{unwrap_or}
use Rattle.std.specs.Ordering.{nat_cmp, is_eq}
use Rattle.std.specs.declared.cmp.Ordering.TheVariants.{Less}
use Rattle.std.specs.List.{sum, AllByRecursion}
use Rattle.std.specs.List.Sorted.{IsStrictlySortedBy}
use Rattle.std.specs.Map.{lookup, keys_of, values_of}
use Rattle.std.specs.BTreeMap.{is_at}
use Rattle.std.proofs.lemmas.Bool.Decides.{nat_tests}
use Rattle.std.proofs.lemmas.List.Sums.{sum_by-cons}
use Rattle.tower_latch.specs.Latch.{StepsAs}
use Rattle.tower_base.specs.declared.service.Fraction.{Fraction}
use Rattle.tower_limit.specs.Histogram.{Histogram, Point, added, read_at, present_of, sorted, quantile, rank, times, most, Takes, Steps}
use Rattle.tower_limit.specs.HistoCore.{tallied, flat, Adds, Stands, StandsFor}
use Rattle.tower_limit.specs.declared.hedge.rotating_histogram.histo_core.HistoCore.{HistoCore}
use Rattle.tower_limit.specs.declared.hedge.rotating_histogram.steps.HistoReply.{HistoReply}
use Rattle.tower_limit.specs.declared.hedge.rotating_histogram.steps.HistoStep.{HistoStep}
use Rattle.tower_limit.specs.declared.hedge.rotating_histogram.steps.HistoStep.TheVariants.{Points, Quantile}
use Rattle.tower_limit.specs.declared.hedge.rotating_histogram.steps.HistoReply.TheVariants.{Done, Memory, Full, Count, Millis}
use Rattle.tower_limit.specs.declared.hedge.rotating_histogram.tally.Tally.{Tally}
use Rattle.tower_limit.proofs.HistogramLemmas.{Above, Rises, rises_sorted, times_sorted, length_sorted, rises_same, times_repeated, length_repeated, above_repeated, rises_repeated}

-- ---- the numbers of a tally

above_flat : (k : ℕ) (es : List (ℕ × ℕ)) → AllByRecursion (λ y. nat_cmp k y ≡ Less) (keys_of es) → Above k (flat es)
above_flat k [] h = tt
above_flat k (e ∷ rest) h =
    let low : k < e.0 = grind (arith, nat_tests, h.0) in
    above_repeated k e.1 e.0 (flat rest) (omega arith) (above_flat k rest h.1)

rises_flat : (es : List (ℕ × ℕ)) → IsStrictlySortedBy nat_cmp (keys_of es) → Rises (flat es)
unfolding IsStrictlySortedBy
rises_flat [] up = tt
rises_flat (e ∷ rest) up = rises_repeated e.1 e.0 (flat rest) (above_flat e.0 rest up.0) (rises_flat rest up.1)

-- a number below every key isn't found
not_below : (v k : ℕ) (es : List (ℕ × ℕ)) → v ≤ k → AllByRecursion (λ y. nat_cmp k y ≡ Less) (keys_of es) → lookup (is_at (nat_cmp v)) es ≡ None
not_below v k [] low h = refl
not_below v k (e ∷ rest) low h =
    let below : k < e.0 = grind (arith, nat_tests, h.0) in
    let no : is_eq (nat_cmp v e.0) ≡ false = grind (arith, nat_tests) in
    rw no (not_below v k rest low h.1)

flat_pick : (v : ℕ) (e : ℕ × ℕ) (rest : List (ℕ × ℕ)) (b : Bool) → nat_eq e.0 v ≡ b → IsStrictlySortedBy nat_cmp (keys_of (e ∷ rest))
    → times v (flat rest) ≡ unwrap_or (lookup (is_at (nat_cmp v)) rest) 0
    → (if b then e.1 else 0) + times v (flat rest) ≡ unwrap_or (lookup (is_at (nat_cmp v)) (e ∷ rest)) 0
unfolding IsStrictlySortedBy
flat_pick v e rest true is up more =
    let same : e.0 ≡ v = grind (arith, nat_tests) in
    let yes : is_eq (nat_cmp v e.0) ≡ true = grind (arith, nat_tests) in
    let none = not_below v e.0 rest (omega arith) up.0 in
    let no : times v (flat rest) ≡ 0 = rw none at more in
    rw yes (omega (arith, no))
flat_pick v e rest false is up more =
    let no : is_eq (nat_cmp v e.0) ≡ false = grind (arith, nat_tests) in
    rw no (omega (arith, more))

-- a tally's numbers have each number as often as its entries say
pub times_flat : (v : ℕ) (es : List (ℕ × ℕ)) → IsStrictlySortedBy nat_cmp (keys_of es)
    → times v (flat es) ≡ unwrap_or (lookup (is_at (nat_cmp v)) es) 0
unfolding IsStrictlySortedBy
times_flat v [] up = refl
times_flat v (e ∷ rest) up = times_repeated v e.1 e.0 (flat rest) ∙ flat_pick v e rest (nat_eq e.0 v) refl up (times_flat v rest up.1)

length_flat : (es : List (ℕ × ℕ)) → length (flat es) ≡ sum (values_of es)
length_flat [] = refl
length_flat (e ∷ rest) = length_repeated e.1 e.0 (flat rest) ∙ ap (λ (n : ℕ). e.1 + n) (length_flat rest) ∙ sym (sum_by-cons (λ (x : ℕ). x) e.1 (values_of rest))

-- A list that has each number as often as a tally, once sorted, is the tally's numbers; and so it has as many.
pub is_flat : (tally : Tally) (xs : List ℕ) → ((v : ℕ) → times v xs ≡ tallied tally v) → sorted xs ≡ flat tally.counts.entries
is_flat tally xs same = rises_same (sorted xs) (flat tally.counts.entries) (rises_sorted xs) (rises_flat tally.counts.entries tally.ordered)
    (λ v. times_sorted v xs ∙ same v ∙ sym (times_flat v tally.counts.entries tally.ordered))

pub is_total : (tally : Tally) (xs : List ℕ) → ((v : ℕ) → times v xs ≡ tallied tally v) → length xs ≡ tally.total
is_total tally xs same = sym (length_sorted xs) ∙ ap length (is_flat tally xs same) ∙ length_flat tally.counts.entries ∙ sym tally.summed

nothing_at : (xs : List ℕ) → length xs ≡ 0 → (i : ℕ) → 0 ≡ slice_index_or xs i 0
nothing_at [] none i = refl
nothing_at (x ∷ xs) none i = absurd (omega (arith, none))

pub none_flat : (tally : Tally) → tally.total ≡ 0 → (i : ℕ) → 0 ≡ slice_index_or (flat tally.counts.entries) i 0
none_flat tally none i = nothing_at (flat tally.counts.entries) (length_flat tally.counts.entries ∙ sym tally.summed ∙ none) i

-- ---- points by period

read_same : (p m : ℕ) (points : List Point) → read_at p (record { period = p; millis = m } ∷ points) ≡ m ∷ read_at p points
read_same p m points = let yes : nat_eq p p ≡ true = grind (arith, nat_tests) in rw yes refl

read_other : (p q m : ℕ) (points : List Point) → (p ≡ q → ⊥) → read_at q (record { period = p; millis = m } ∷ points) ≡ read_at q points
read_other p q m points apart = let no : nat_eq p q ≡ false = grind (arith, nat_tests) in rw no refl

-- the numbers as points of one period, before others
abbrev tagged : ℕ → List ℕ → List Point → List Point
tagged p [] more = more
tagged p (x ∷ rest) more = record { period = p; millis = x } ∷ tagged p rest more

read_tagged : (p : ℕ) (xs : List ℕ) (more : List Point) → read_at p more ≡ [] → read_at p (tagged p xs more) ≡ xs
read_tagged p [] more none = none
read_tagged p (x ∷ rest) more none = read_same p x (tagged p rest more) ∙ ap (λ (ys : List ℕ). x ∷ ys) (read_tagged p rest more none)

read_past : (p q : ℕ) (xs : List ℕ) (more : List Point) → (p ≡ q → ⊥) → read_at q (tagged p xs more) ≡ read_at q more
read_past p q [] more apart = refl
read_past p q (x ∷ rest) more apart = read_other p q x (tagged p rest more) apart ∙ read_past p q rest more apart

-- a core stands for the histogram of what it tallies
pub itself : (core : HistoCore) → (h : Histogram) × StandsFor core h
itself core =
    let now = flat core.read.counts.entries in
    let next = flat core.written.counts.entries in
    let points = tagged core.present now (tagged (core.present + 1) next []) in (
      record { made = core.made; period = core.period; present = core.present; points = points },
      record {
        made = refl;
        period = refl;
        present = refl;
        read = λ v.
            let is : read_at core.present points ≡ now = read_tagged core.present now (tagged (core.present + 1) next [])
            (read_past (core.present + 1) core.present next [] (λ e. omega (arith, e))) in
            ap (times v) is ∙ times_flat v core.read.counts.entries core.read.ordered;
        written = λ v.
            let is : read_at (core.present + 1) points ≡ next =
            read_past core.present (core.present + 1) now (tagged (core.present + 1) next []) (λ e. omega (arith, e)) ∙ read_tagged (core.present + 1) next [] refl in
            ap (times v) is ∙ times_flat v core.written.counts.entries core.written.ordered;
        latest = λ p late.
            read_past core.present p now (tagged (core.present + 1) next []) (λ e. omega (arith, e)) ∙ read_past (core.present + 1) p next [] (λ e. omega (arith, e));
      },
    )

-- ---- steps

pub max_right : (a b : ℕ) → a < b → max a b ≡ b
max_right a b low = omega arith

pub is_quantile : (tally : Tally) (xs : List ℕ) (part : Fraction) → ((v : ℕ) → times v xs ≡ tallied tally v)
    → quantile part xs ≡ slice_index_or (flat tally.counts.entries) (rank tally.total part - 1) 0
is_quantile tally xs part same = rw (is_flat tally xs same, is_total tally xs same) refl

module _ (moment duration number : ℕ) (first second : Tally) (h : Histogram) (s : Stands moment duration number first second h) where
  pub present_same : (v : ℕ) → times v (present_of h) ≡ tallied first v
  present_same v = rw s.present (s.read v)

  few : (tally : Tally) (xs : List ℕ) → ((v : ℕ) → times v xs ≡ tallied tally v) → tally.total < most → length xs < most
  few tally xs same below = let is = is_total tally xs same in omega (arith, is, below)

  full : (tally : Tally) (xs : List ℕ) → ((v : ℕ) → times v xs ≡ tallied tally v) → tally.total ≡ most → length xs ≡ most
  full tally xs same all = is_total tally xs same ∙ all

  -- a record
  pub takes_next : (millis : ℕ) (reply : HistoReply) (after : Tally) → Adds second millis reply after
      → (x : Histogram) × Takes h (h.present + 1) millis reply x × Stands moment duration number first after x
  takes_next millis Done after adds = (
    added h (h.present + 1) millis,
    (rw s.present (few second _ s.written adds.0), refl),
    record {
      made = s.made;
      period = s.period;
      present = s.present;
      read = λ v. rw s.present (ap (times v) (read_other (number + 1) number millis h.points (λ e. omega (arith, e))) ∙ s.read v);
      written = λ v. rw s.present (ap (times v) (read_same (number + 1) millis h.points)
          ∙ ap (λ (n : ℕ). (if nat_eq millis v then 1 else 0) + n) (s.written v) ∙ sym (adds.1 v));
      latest = λ later late. rw s.present (read_other (number + 1) later millis h.points (λ e. omega (arith, e)) ∙ s.latest later late);
    },
  )
  takes_next millis Memory after adds = (
    h,
    (rw s.present (few second _ s.written adds.0), refl, rw s.present (s.written millis ∙ adds.2)),
    record {
      made = s.made;
      period = s.period;
      present = s.present;
      read = s.read;
      written = λ v. s.written v ∙ sym (adds.1 v);
      latest = s.latest;
    },
  )
  takes_next millis Full after adds = (
    h,
    (rw s.present (full second _ s.written adds.0), refl),
    record {
      made = s.made;
      period = s.period;
      present = s.present;
      read = s.read;
      written = λ v. s.written v ∙ sym (adds.1 v);
      latest = s.latest;
    },
  )
  takes_next millis (Count n) after adds = absurd adds
  takes_next millis (Millis n) after adds = absurd adds

  -- a seed
  pub takes_present : (millis : ℕ) (reply : HistoReply) (after : Tally) → Adds first millis reply after
      → (x : Histogram) × Takes h h.present millis reply x × Stands moment duration number after second x
  takes_present millis Done after adds = (
    added h h.present millis,
    (rw s.present (few first _ s.read adds.0), refl),
    record {
      made = s.made;
      period = s.period;
      present = s.present;
      read = λ v. rw s.present (ap (times v) (read_same number millis h.points)
          ∙ ap (λ (n : ℕ). (if nat_eq millis v then 1 else 0) + n) (s.read v) ∙ sym (adds.1 v));
      written = λ v. rw s.present (ap (times v) (read_other number (number + 1) millis h.points (λ e. omega (arith, e))) ∙ s.written v);
      latest = λ later late. rw s.present (read_other number later millis h.points (λ e. omega (arith, e)) ∙ s.latest later late);
    },
  )
  takes_present millis Memory after adds = (
    h,
    (rw s.present (few first _ s.read adds.0), refl, rw s.present (s.read millis ∙ adds.2)),
    record {
      made = s.made;
      period = s.period;
      present = s.present;
      read = λ v. s.read v ∙ sym (adds.1 v);
      written = s.written;
      latest = s.latest;
    },
  )
  takes_present millis Full after adds = (
    h,
    (rw s.present (full first _ s.read adds.0), refl),
    record {
      made = s.made;
      period = s.period;
      present = s.present;
      read = λ v. s.read v ∙ sym (adds.1 v);
      written = s.written;
      latest = s.latest;
    },
  )
  takes_present millis (Count n) after adds = absurd adds
  takes_present millis (Millis n) after adds = absurd adds

-- ---- replies

-- only a count replies to a question for one, and only milliseconds to one for a quantile
-- some core gives this reply to the step
abbrev Gave : HistoStep → HistoReply → Type 0
Gave step reply = (old : HistoCore) × (new : HistoCore) × StepsAs StandsFor Steps old step reply new

pub counts : (moment : ℕ) (reply : HistoReply) → Gave (Points moment) reply → ((n : ℕ) → reply ≡ Count n → ⊥) → ⊥
counts moment (Count n) came other = other n refl
counts moment Done came other = (came.2.1 came.2.0.0 came.2.0.1).1
counts moment Memory came other = (came.2.1 came.2.0.0 came.2.0.1).1
counts moment Full came other = (came.2.1 came.2.0.0 came.2.0.1).1
counts moment (Millis n) came other = (came.2.1 came.2.0.0 came.2.0.1).1

pub ranks : (moment : ℕ) (part : Fraction) (reply : HistoReply) → Gave (Quantile moment part) reply → ((n : ℕ) → reply ≡ Millis n → ⊥) → ⊥
ranks moment part (Millis n) came other = other n refl
ranks moment part Done came other = (came.2.1 came.2.0.0 came.2.0.1).1
ranks moment part Memory came other = (came.2.1 came.2.0.0 came.2.0.1).1
ranks moment part Full came other = (came.2.1 came.2.0.0 came.2.0.1).1
ranks moment part (Count n) came other = (came.2.1 came.2.0.0 came.2.0.1).1
