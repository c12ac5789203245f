-- What a core keeps, beside the list of all calls that it stands for.
use Rattle.std.proofs.Common.{◌≡◌, ◌≢◌, ◌<◌, ◌≤◌, ◌+◌, ◌-◌, ◌||◌, ℕ, Bool, not, true, false, List, [], ◌∷◌, zero, suc, Some, None, length, take, min, slice_get, nat_eq, nat_le, if◌then◌else◌, refl, sym, ap, ◌∙◌, arith}
use Rattle.std.proofs.lemmas.List.{length-take}
use Rattle.std.proofs.lemmas.Option.{get_or_from_slice_get, slice_get_within}
use Rattle.std.proofs.lemmas.Bool.{le-leb, lt-leb}
use Rattle.std.proofs.lemmas.Bool.Decides.{nat_tests}
use Rattle.tower_limit.specs.Rate.{Calls, RateCoreView, StandsFor, Stands, is_limited, oldest, admits, may_call}
use Rattle.tower_limit.specs.RateReady.{open-allows, free-allows}

positive : (n : ℕ) → n ≢ 0 → 0 < n
positive n h = grind arith

-- a list that isn't too long is the beginning of itself
take-all : (n : ℕ) (xs : List ℕ) → length xs ≤ n → take n xs ≡ xs
take-all zero [] h = refl
take-all zero (x ∷ xs) h = absurd (omega arith)
take-all (suc n) [] h = refl
take-all (suc n) (x ∷ xs) h = ap (λ ys. x ∷ ys) (take-all n xs (omega arith))

-- the last after a further call are those of the last before it
take-take : (n : ℕ) (xs : List ℕ) → take n (take (suc n) xs) ≡ take n xs
take-take zero xs = refl
take-take (suc n) [] = refl
take-take (suc n) (x ∷ xs) = ap (λ ys. x ∷ ys) (take-take n xs)

pub take-pushed : (n m : ℕ) (xs : List ℕ) → take n (m ∷ take n xs) ≡ take n (m ∷ xs)
take-pushed zero m xs = refl
take-pushed (suc n) m xs = ap (λ ys. m ∷ ys) (take-take n xs)

-- the last of the kept
slice_get-take : (n : ℕ) (xs : List ℕ) (i : ℕ) → i < n → slice_get (take n xs) i ≡ slice_get xs i
slice_get-take zero xs i h = absurd (omega arith)
slice_get-take (suc n) [] i h = refl
slice_get-take (suc n) (x ∷ xs) zero h = refl
slice_get-take (suc n) (x ∷ xs) (suc i) h = slice_get-take n xs i (omega arith)

none-past : (xs : List ℕ) (i : ℕ) → slice_get xs i ≡ None → length xs ≤ i
none-past [] i h = omega arith
none-past (x ∷ xs) zero h = absurd (cc h)
none-past (x ∷ xs) (suc i) h = let rest = none-past xs i h in omega arith

full-of : (n len kept : ℕ) → kept ≡ min n len → nat_eq kept n ≡ nat_le n len
full-of n len kept h = grind (arith, nat_tests)

-- the core stands for the calls that it keeps
pub stands : (core : RateCoreView) → core.num ≢ 0 → length core.kept ≤ core.num → Stands core (λ plain. Unit {0})
stands core counts fits = (
  record { num = core.num; per = core.per; moments = core.kept; admitted = core.admitted },
  record { takes = positive core.num counts; number = refl; period = refl; last = sym (take-all core.num core.kept fits); admission = refl },
  tt,
)

module _ (core : RateCoreView) (plain : Calls) (s : StandsFor core plain) where
  length-kept : length core.kept ≡ min plain.num (length plain.moments)
  length-kept = ap (λ (xs : List ℕ). length xs) s.last ∙ length-take plain.num plain.moments

  -- it keeps as many as its number exactly if so many were made
  pub full : nat_eq (length core.kept) core.num ≡ is_limited plain
  full = ap (λ (n : ℕ). nat_eq (length core.kept) n) (sym s.number)
      ∙ full-of plain.num (length plain.moments) (length core.kept) length-kept

  last-of : slice_get core.kept (core.num - 1) ≡ slice_get plain.moments (plain.num - 1)
  last-of = ap (λ (xs : List ℕ). slice_get xs (core.num - 1)) s.last
      ∙ ap (λ (n : ℕ). slice_get (take plain.num plain.moments) (n - 1)) (sym s.number)
      ∙ slice_get-take plain.num plain.moments (plain.num - 1) (omega (arith, s.takes))

  pub admits-some : (x moment : ℕ) → slice_get core.kept (core.num - 1) ≡ Some x → nat_le (x + core.per) moment ≡ admits plain moment
  admits-some x moment h =
      let got : slice_get plain.moments (plain.num - 1) ≡ Some x = sym last-of ∙ h in
      let within : plain.num - 1 < length plain.moments = slice_get_within plain.moments (plain.num - 1) x got in
      let limited : is_limited plain ≡ true = le-leb plain.num (length plain.moments) (omega (arith, s.takes)) in
      let value : oldest plain ≡ x = get_or_from_slice_get plain.moments (plain.num - 1) x 0 got in
      sym (ap (λ (b : Bool). if b then nat_le (oldest plain + plain.per) moment else true) limited
      ∙ ap (λ (v : ℕ). nat_le (v + plain.per) moment) value
      ∙ ap (λ (p : ℕ). nat_le (x + p) moment) s.period)

  pub admits-none : (moment : ℕ) → slice_get core.kept (core.num - 1) ≡ None → true ≡ admits plain moment
  admits-none moment h =
      let short : length plain.moments ≤ plain.num - 1 = none-past plain.moments (plain.num - 1) (sym last-of ∙ h) in
      let free : is_limited plain ≡ false = lt-leb plain.num (length plain.moments) (omega (arith, s.takes)) in
      sym (ap (λ (b : Bool). if b then nat_le (oldest plain + plain.per) moment else true) free)

  -- a further call
  pub pushed : (m : ℕ) → take core.num (m ∷ core.kept) ≡ take plain.num (m ∷ plain.moments)
  pushed m = ap (λ (n : ℕ). take n (m ∷ core.kept)) (sym s.number)
      ∙ ap (λ (xs : List ℕ). take plain.num (m ∷ xs)) s.last
      ∙ take-pushed plain.num m plain.moments

-- A call may be made of a core that doesn't keep as many as its number, and of one that admits it.
pub free_may : (core : RateCoreView) → core.num ≢ 0 → length core.kept ≤ core.num → nat_eq (length core.kept) core.num ≡ false
    → Stands core (λ plain. may_call plain ≡ true)
free_may core counts fits free =
    let s = stands core counts fits in
    (s.0, s.1, free-allows (is_limited s.0) s.0.admitted (sym (full core s.0 s.1) ∙ free))

pub open_may : (core : RateCoreView) → core.num ≢ 0 → length core.kept ≤ core.num → core.admitted ≡ true → Stands core (λ plain. may_call plain ≡ true)
open_may core counts fits admitted =
    let s = stands core counts fits in
    (s.0, s.1, ap (λ (admission : Bool). not (is_limited s.0) || admission) (s.1.admission ∙ admitted) ∙ open-allows (is_limited s.0))
