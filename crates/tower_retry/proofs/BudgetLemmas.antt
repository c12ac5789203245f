-- Sums of amounts by generation.
use Rattle.std.proofs.Common.{◌≡◌, ℕ, zero, suc, ◌+◌, ◌<◌, ◌≤◌, ◌^◌, ◌⊎◌, nat_lt, true, false, List, [], ◌∷◌, arith, refl, sym, subst, ◌∙◌, Bool, inl, inr, add-one}
use Rattle.std.specs.Prelude.{ℤ, pos, ◌+ℤ◌, nat_abs, nat_eq, nat_le, ◌&&◌, if◌then◌else◌}
use Rattle.std.proofs.lemmas.Int.{ints}
use Rattle.std.proofs.lemmas.Bool.Decides.{nat_tests, leb_tells}
use Rattle.tower_retry.proofs.SlotLemmas.{part_size, kept_sum_more, kept_sum_none, saturates, triangle}
use Rattle.tower_retry.specs.Budget.{Amount, counts, total, size}
use Rattle.tower_retry.specs.Slots.{Slotted, kept_sum, size_back, slot, sum_back}

zero_plus : (z : ℤ) → pos 0 +ℤ z ≡ z
zero_plus z = omega (arith, ints)

-- an amount of another generation
pub other_sum : (g b : ℕ) (a : Amount) (xs : List Amount) → nat_eq (a.generation + b) g ≡ false → sum_back g b (a ∷ xs) ≡ sum_back g b xs
other_sum g b a xs another = rw another (zero_plus (sum_back g b xs))

pub other_size : (g b : ℕ) (a : Amount) (xs : List Amount) → nat_eq (a.generation + b) g ≡ false → size_back g b (a ∷ xs) ≡ size_back g b xs
other_size g b a xs another = rw another (omega arith)

-- the amounts of the generations from one back to so many back

abbrev pub older : ℕ → ℕ → Amount → Bool
older g n a = nat_lt a.generation g && nat_le g (a.generation + n)

abbrev pub older_sum : ℕ → ℕ → List Amount → ℤ
older_sum g n [] = pos 0
older_sum g n (a ∷ rest) = (if older g n a then a.amount else pos 0) +ℤ older_sum g n rest

abbrev pub older_size : ℕ → ℕ → List Amount → ℕ
older_size g n [] = 0
older_size g n (a ∷ rest) = (if older g n a then nat_abs a.amount else 0) + older_size g n rest

none_sum : (g : ℕ) (xs : List Amount) → older_sum g 0 xs ≡ pos 0
none_sum g [] = refl
none_sum g (a ∷ rest) =
    let no : older g 0 a ≡ false = grind (arith, nat_tests) in
    rw (no, none_sum g rest) refl

-- the amounts of one generation more, as one of three cases
pub record Next (g n : ℕ) (a : Amount) (before here after : Bool) : Type 0 where
  pub before_is : older g n a ≡ before
  pub here_is : nat_eq (a.generation + (n + 1)) g ≡ here
  pub after_is : older g (n + 1) a ≡ after

next : (g n : ℕ) (a : Amount) → Next g n a true false true ⊎ (Next g n a false true true ⊎ Next g n a false false false)
next g n a =
    elim (leb_tells g a.generation) [
      | inl new ↦ inr (inr (record { before_is = grind (arith, nat_tests); here_is = grind (arith, nat_tests); after_is = grind (arith, nat_tests) }))
      | inr old ↦ elim (leb_tells g (a.generation + n)) [
        | inl near ↦ inl (record { before_is = grind (arith, nat_tests); here_is = grind (arith, nat_tests); after_is = grind (arith, nat_tests) })
        | inr far ↦ elim (leb_tells g (a.generation + (n + 1))) [
          | inl at ↦ inr (inl (record { before_is = grind (arith, nat_tests); here_is = grind (arith, nat_tests); after_is = grind (arith, nat_tests) }))
          | inr past ↦ inr (inr (record { before_is = grind (arith, nat_tests); here_is = grind (arith, nat_tests); after_is = grind (arith, nat_tests) }))
        ]
      ]
    ]

sum_more : (g n : ℕ) (xs : List Amount) → older_sum g (n + 1) xs ≡ older_sum g n xs +ℤ sum_back g (n + 1) xs
sum_more g n [] = refl
sum_more g n (a ∷ rest) =
    let ih = sum_more g n rest in
    elim (next g n a) [
      | inl x ↦ rw (x.before_is, x.here_is, x.after_is) (omega (arith, ints, ih))
      | inr y ↦ elim y [
        | inl x ↦ rw (x.before_is, x.here_is, x.after_is) (omega (arith, ints, ih))
        | inr x ↦ rw (x.before_is, x.here_is, x.after_is) (omega (arith, ints, ih))
      ]
    ]

size_more : (g n : ℕ) (xs : List Amount) → older_size g (n + 1) xs ≡ older_size g n xs + size_back g (n + 1) xs
size_more g n [] = refl
size_more g n (a ∷ rest) =
    let ih = size_more g n rest in
    elim (next g n a) [
      | inl x ↦ rw (x.before_is, x.here_is, x.after_is) (omega (arith, ih))
      | inr y ↦ elim y [
        | inl x ↦ rw (x.before_is, x.here_is, x.after_is) (omega (arith, ih))
        | inr x ↦ rw (x.before_is, x.here_is, x.after_is) (omega (arith, ih))
      ]
    ]

pub sum_size : (g n : ℕ) (xs : List Amount) → nat_abs (older_sum g n xs) ≤ older_size g n xs
sum_size g n [] = omega arith
sum_size g n (a ∷ rest) =
    let here = part_size (older g n a) a.amount in
    omega (arith, triangle (if older g n a then a.amount else pos 0) (older_sum g n rest), sum_size g n rest, here)

-- what counts is of the present generation or of the ten before it
record Counted (g : ℕ) (a : Amount) (here before all : Bool) : Type 0 where
  pub here_is : nat_eq (a.generation + 0) g ≡ here
  pub before_is : older g 10 a ≡ before
  pub all_is : counts g a ≡ all

counted : (g : ℕ) (a : Amount) → Counted g a true false true ⊎ (Counted g a false true true ⊎ Counted g a false false false)
counted g a =
    elim (leb_tells (a.generation + 1) g) [
      | inl old ↦ elim (leb_tells g (a.generation + 10)) [
        | inl near ↦ inr (inl (record { before_is = grind (arith, nat_tests); here_is = grind (arith, nat_tests); all_is = grind (arith, nat_tests) }))
        | inr far ↦ inr (inr (record { before_is = grind (arith, nat_tests); here_is = grind (arith, nat_tests); all_is = grind (arith, nat_tests) }))
      ]
      | inr new ↦ elim (leb_tells a.generation g) [
        | inl same ↦ inl (record { before_is = grind (arith, nat_tests); here_is = grind (arith, nat_tests); all_is = grind (arith, nat_tests) })
        | inr later ↦ inr (inr (record { before_is = grind (arith, nat_tests); here_is = grind (arith, nat_tests); all_is = grind (arith, nat_tests) }))
      ]
    ]

pub total_parts : (g : ℕ) (xs : List Amount) → total g xs ≡ older_sum g 10 xs +ℤ sum_back g 0 xs
total_parts g [] = refl
total_parts g (a ∷ rest) =
    let ih = total_parts g rest in
    elim (counted g a) [
      | inl x ↦ rw (x.here_is, x.before_is, x.all_is) (omega (arith, ints, ih))
      | inr y ↦ elim y [
        | inl x ↦ rw (x.here_is, x.before_is, x.all_is) (omega (arith, ints, ih))
        | inr x ↦ rw (x.here_is, x.before_is, x.all_is) (omega (arith, ints, ih))
      ]
    ]

pub size_parts : (g : ℕ) (xs : List Amount) → size g xs ≡ older_size g 10 xs + size_back g 0 xs
size_parts g [] = refl
size_parts g (a ∷ rest) =
    let ih = size_parts g rest in
    elim (counted g a) [
      | inl x ↦ rw (x.here_is, x.before_is, x.all_is) (omega (arith, ih))
      | inr y ↦ elim y [
        | inl x ↦ rw (x.here_is, x.before_is, x.all_is) (omega (arith, ih))
        | inr x ↦ rw (x.here_is, x.before_is, x.all_is) (omega (arith, ih))
      ]
    ]

-- what the slots keep is the sum of the amounts, where that is exact
pub exact : (g i : ℕ) (xs : List Amount) (slots : List ℤ) (r : ℤ) → Slotted g xs i slots → (n : ℕ) → n ≤ 10 → nat_abs r + older_size g n xs < 2 ^ 127
    → kept_sum r i slots n ≡ r +ℤ older_sum g n xs
exact g i xs slots r s zero few small = kept_sum_none r i slots ∙ rw (none_sum g xs) (omega (arith, ints))
exact g i xs slots r s (suc n) few small =
    let small_next : nat_abs r + older_size g (n + 1) xs < 2 ^ 127 = subst (λ (m : ℕ). nat_abs r + older_size g m xs < 2 ^ 127) (sym (add-one n)) small in
    let sizes = size_more g n xs in
    let sums = sum_more g n xs in
    let before = exact g i xs slots r s n (omega arith) (omega arith) in
    let here : slot i slots (n + 1) ≡ sum_back g (n + 1) xs = s.each (n + 1) (omega arith) (omega arith) (omega arith) in
    let next_sum : kept_sum r i slots n +ℤ slot i slots (n + 1) ≡ r +ℤ older_sum g (n + 1) xs = rw (before, here, sums) (omega (arith, ints)) in
    let bound : nat_abs (r +ℤ older_sum g (n + 1) xs) < 2 ^ 127 = omega (arith, triangle r (older_sum g (n + 1) xs), sum_size g (n + 1) xs) in
    subst (λ (m : ℕ). kept_sum r i slots m ≡ r +ℤ older_sum g m xs) (add-one n)
    (kept_sum_more r i slots n ∙ rw next_sum (saturates _ bound))
