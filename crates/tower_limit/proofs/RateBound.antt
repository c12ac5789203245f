-- No interval as long as the period holds more calls than the number.
use Rattle.std.proofs.Common.{◌≡◌, ◌+◌, ◌-◌, ◌≤◌, ◌<◌, ◌||◌, ℕ, zero, suc, Bool, true, false, not, Some, List, [], ◌∷◌, length, nat_le, slice_get, slice_index, if◌then◌else◌, refl, ap, ◌∙◌, arith}
use Rattle.std.proofs.lemmas.Bool.{leb-true, leb-false}
use Rattle.std.proofs.lemmas.Bool.Decides.{nat_tests}
use Rattle.std.proofs.lemmas.Option.{get_or_from_slice_get, slice_get_within}
use Rattle.tower_limit.specs.Rate.{Calls, initial, is_limited, oldest, may_call, after_poll, after_call}
use Rattle.tower_limit.specs.RateLaws.{Step, Fair, one_within, calls_within, Bounded}

-- the newest of these moments is no later
abbrev NoLater : ℕ → List ℕ → Type 0
NoLater m [] = Unit {0}
NoLater m (c ∷ cs) = c ≤ m

-- of these moments, the newest first, the one at k is a period before m, if there is one
abbrev Apart : ℕ → ℕ → ℕ → List ℕ → Type 0
Apart k per m ms = (c : ℕ) → slice_get ms k ≡ Some c → c + per ≤ m

-- each of these moments is no earlier than the next, and a period after the one k + 1 places on
abbrev Spaced : ℕ → ℕ → List ℕ → Type 0
Spaced k per [] = Unit {0}
Spaced k per (m ∷ ms) = NoLater m ms × Apart k per m ms × Spaced k per ms

abbrev moments_within : ℕ → ℕ → List ℕ → ℕ
moments_within from per [] = 0
moments_within from per (m ∷ ms) = one_within from per m + moments_within from per ms

no-later : (a b : ℕ) (ms : List ℕ) → a ≤ b → NoLater a ms → NoLater b ms
no-later a b [] le h = tt
no-later a b (c ∷ cs) le h = omega (arith, h)

module _ (k per from : ℕ) where
  one-most : (m : ℕ) → one_within from per m ≤ 1
  one-most m = grind (arith, nat_tests)

  one-early : (m : ℕ) → m < from → one_within from per m ≡ 0
  one-early m early = grind (arith, nat_tests)

  one-late : (m : ℕ) → from + per ≤ m → one_within from per m ≡ 0
  one-late m late = grind (arith, nat_tests)

  -- moments before the interval
  none : (m : ℕ) (ms : List ℕ) → m < from → NoLater m ms → Spaced k per ms → moments_within from per ms ≡ 0
  none m [] early later spaced = refl
  none m (c ∷ cs) early later spaced =
      let here = one-early c (omega (arith, later)) in
      let rest = none c cs (omega (arith, later)) spaced.0 spaced.2 in omega arith

  -- if the moment at j is before the interval, at most j are within
  first : (j : ℕ) (ms : List ℕ) → Spaced k per ms → ((c : ℕ) → slice_get ms j ≡ Some c → c < from) → moments_within from per ms ≤ j
  first j [] spaced early = omega arith
  first zero (c ∷ cs) spaced early =
      let here = one-early c (early c refl) in
      let rest = none c cs (early c refl) spaced.0 spaced.2 in omega arith
  first (suc j) (c ∷ cs) spaced early =
      let here = one-most c in
      let rest = first j cs spaced.2 early in omega arith

  most-at : (late : Bool) (m : ℕ) (ms : List ℕ) → nat_le (from + per) m ≡ late → Spaced k per (m ∷ ms)
      → moments_within from per ms ≤ k + 1 → moments_within from per (m ∷ ms) ≤ k + 1
  most-at true m ms is spaced rest = let here = one-late m (leb-true (from + per) m is) in omega arith
  most-at false m ms is spaced rest =
      let here = one-most m in
      let before = leb-false (from + per) m is in
      let older = first k ms spaced.2 (λ (c : ℕ) e. let apart = spaced.1 c e in omega arith) in omega arith

  most : (ms : List ℕ) → Spaced k per ms → moments_within from per ms ≤ k + 1
  most [] spaced = omega arith
  most (m ∷ ms) spaced = most-at (nat_le (from + per) m) m ms refl spaced (most ms spaced.2)

  -- what every fair run keeps
  record Good (plain : Calls) (now : ℕ) : Type 0 where
    number : plain.num ≡ k + 1
    period : plain.per ≡ per
    spaced : Spaced k per plain.moments
    recent : NoLater now plain.moments
    admission : plain.admitted ≡ true → Apart k per now plain.moments

  -- a poll that admits a call finds the last calls apart
  admitted-apart : (limited : Bool) (plain : Calls) (m : ℕ) → plain.num ≡ k + 1 → plain.per ≡ per → is_limited plain ≡ limited
      → (if limited then nat_le (oldest plain + plain.per) m else true) ≡ true → Apart k per m plain.moments
  admitted-apart true plain m number period is admitted = λ c e.
      let at : plain.num - 1 ≡ k = omega (arith, number) in
      let value : slice_index plain.moments k ≡ c = get_or_from_slice_get plain.moments k c 0 e in
      let same : oldest plain ≡ c = ap (λ (i : ℕ). slice_index plain.moments i) at ∙ value in
      let past = leb-true (oldest plain + plain.per) m admitted in omega (arith, period, same)
  admitted-apart false plain m number period is admitted = λ c e.
      let within = slice_get_within plain.moments k c e in
      let few = leb-false plain.num (length plain.moments) is in absurd (omega (arith, number))

  -- a call finds them apart
  may-apart : (limited admitted : Bool) (plain : Calls) (m : ℕ) → plain.num ≡ k + 1 → is_limited plain ≡ limited → plain.admitted ≡ admitted
      → (plain.admitted ≡ true → Apart k per m plain.moments) → not limited || admitted ≡ true → Apart k per m plain.moments
  may-apart true true plain m number is admission apart may = apart admission
  may-apart true false plain m number is admission apart may = absurd (cc may)
  may-apart false admitted plain m number is admission apart may = λ c e.
      let within = slice_get_within plain.moments k c e in
      let few = leb-false plain.num (length plain.moments) is in absurd (omega (arith, number))

  later : (a b : ℕ) (ms : List ℕ) → a ≤ b → Apart k per a ms → Apart k per b ms
  later a b ms le apart = λ c e. let before = apart c e in omega arith

  poll-good : (plain : Calls) (now m : ℕ) → Good plain now → now ≤ m → Good (after_poll plain m) m
  poll-good plain now m good le = record {
    number = good.number;
    period = good.period;
    spaced = good.spaced;
    recent = no-later now m plain.moments le good.recent;
    admission = λ admitted. admitted-apart (is_limited plain) plain m good.number good.period refl admitted;
  }

  call-good : (plain : Calls) (now m : ℕ) → Good plain now → now ≤ m → may_call plain ≡ true → Good (after_call plain m) m
  call-good plain now m good le may =
      let apart = may-apart (is_limited plain) plain.admitted plain m good.number refl refl (λ p. later now m plain.moments le (good.admission p)) may in
      record {
        number = good.number;
        period = good.period;
        spaced = (no-later now m plain.moments le good.recent, apart, good.spaced);
        recent = omega arith;
        admission = λ shut. absurd (cc shut);
      }

  runs : (plain : Calls) (now : ℕ) (steps : List Step) → Good plain now → Fair plain now steps
      → calls_within from per steps + moments_within from per plain.moments ≤ k + 1
  runs plain now [] good fair = let all = most plain.moments good.spaced in omega arith
  runs plain now (Step.poll m ∷ steps) good fair = runs (after_poll plain m) m steps (poll-good plain now m good fair.0) fair.1
  runs plain now (Step.call m ∷ steps) good fair =
      let rest = runs (after_call plain m) m steps (call-good plain now m good fair.0 fair.1) fair.2 in omega arith

pub bounded : Bounded
bounded zero per steps some fair from = absurd (omega arith)
bounded (suc k) per steps some fair from =
    let good : Good k per from (initial (suc k) per) 0 =
    record { number = omega arith; period = refl; spaced = tt; recent = tt; admission = λ shut. absurd (cc shut) } in
    let all = runs k per from (initial (suc k) per) 0 steps good fair in omega arith
