-- Amounts by generation, and the slots that keep them.
use Rattle.std.proofs.Common.{◌≡◌, ◌≢◌, ℕ, ◌+◌, ◌-◌, ◌%◌, ◌<◌, ◌≤◌, ◌^◌, ◌⊎◌, true, false, Bool, List, [], ◌∷◌, length, refl, sym, ◌∙◌, ap, subst, arith, add-one, inl, inr}
use Rattle.std.specs.Prelude.{ℤ, pos, negsuc, ◌+ℤ◌, nat_abs, nat_eq, if◌then◌else◌, slice_index_or, slice_set}
use Rattle.std.specs.Int.{w128, saturate_signed}
use Rattle.std.proofs.lemmas.Int.{ints}
use Rattle.std.proofs.lemmas.List.{get_or-set_same, get_or-set_other}
use Rattle.std.proofs.lemmas.Bool.Decides.{nat_tests, leb_tells}
use Rattle.tower_retry.specs.Budget.{Amount}
use Rattle.tower_retry.specs.Slots.{Each, Keeps, Shifted, Slotted, kept_sum, place, size_back, slot, sum_back}

pub each_map : (P Q : Amount → Type 0) → ((a : Amount) → P a → Q a) → (xs : List Amount) → Each P xs → Each Q xs
each_map P Q f [] h = tt
each_map P Q f (a ∷ rest) h = (f a h.0, each_map P Q f rest h.1)

each_later : (g h : ℕ) (xs : List Amount) → g ≤ h → Each (λ a. a.generation ≤ g) xs → Each (λ a. a.generation ≤ h) xs
each_later g h xs grows e = each_map _ _ (λ a low. omega arith) xs e

-- sizes and sums

pub saturates : (z : ℤ) → nat_abs z < 2 ^ 127 → saturate_signed w128 z ≡ z
saturates (pos n) h = ap pos (omega arith)
saturates (negsuc n) h = ap negsuc (omega arith)

pub triangle : (x y : ℤ) → nat_abs (x +ℤ y) ≤ nat_abs x + nat_abs y
triangle x y = omega (arith, ints)

pub part_size : (b : Bool) (z : ℤ) → nat_abs (if b then z else pos 0) ≤ (if b then nat_abs z else 0)
part_size true z = omega arith
part_size false z = omega arith

pub back_size : (g b : ℕ) (xs : List Amount) → nat_abs (sum_back g b xs) ≤ size_back g b xs
back_size g b [] = omega arith
back_size g b (a ∷ rest) =
    let here = part_size (nat_eq (a.generation + b) g) a.amount in
    omega (arith, triangle (if nat_eq (a.generation + b) g then a.amount else pos 0) (sum_back g b rest), back_size g b rest, here)

-- a generation later

sum_later : (g b : ℕ) (xs : List Amount) → sum_back (g + 1) (b + 1) xs ≡ sum_back g b xs
sum_later g b [] = refl
sum_later g b (a ∷ rest) =
    let same : nat_eq (a.generation + (b + 1)) (g + 1) ≡ nat_eq (a.generation + b) g = grind (arith, nat_tests) in
    rw (same, sum_later g b rest) refl

size_later : (g b : ℕ) (xs : List Amount) → size_back (g + 1) (b + 1) xs ≡ size_back g b xs
size_later g b [] = refl
size_later g b (a ∷ rest) =
    let same : nat_eq (a.generation + (b + 1)) (g + 1) ≡ nat_eq (a.generation + b) g = grind (arith, nat_tests) in
    rw (same, size_later g b rest) refl

keeps_later : (g b : ℕ) (xs : List Amount) (kept : ℤ) → Keeps g b xs kept → Keeps (g + 1) (b + 1) xs kept
keeps_later g b xs kept k = λ small. k (rw (size_later g b xs) at small) ∙ sym (sum_later g b xs)

-- generations that have no amount

none_sum : (g b top : ℕ) (xs : List Amount) → Each (λ a. a.generation ≤ top) xs → top + b < g → sum_back g b xs ≡ pos 0
none_sum g b top [] e past = refl
none_sum g b top (a ∷ rest) e past =
    let low = e.0 in
    let no : nat_eq (a.generation + b) g ≡ false = grind (arith, nat_tests) in
    rw (no, none_sum g b top rest e.1 past) refl

none_size : (g b top : ℕ) (xs : List Amount) → Each (λ a. a.generation ≤ top) xs → top + b < g → size_back g b xs ≡ 0
none_size g b top [] e past = refl
none_size g b top (a ∷ rest) e past =
    let low = e.0 in
    let no : nat_eq (a.generation + b) g ≡ false = grind (arith, nat_tests) in
    rw (no, none_size g b top rest e.1 past) refl

pub none_keeps : (g b top : ℕ) (xs : List Amount) → Each (λ a. a.generation ≤ top) xs → top + b < g → Keeps g b xs (pos 0)
none_keeps g b top xs e past = λ small. sym (none_sum g b top xs e past)

none_kept : (g b top : ℕ) (xs : List Amount) (kept : ℤ) → Each (λ a. a.generation ≤ top) xs → top + b < g → Keeps g b xs kept → kept ≡ pos 0
none_kept g b top xs kept e past k = k (rw (none_size g b top xs e past) (omega arith)) ∙ none_sum g b top xs e past

-- the ring

pub place_low : (i b : ℕ) → place i b < 10
place_low i b = omega arith

place_first : (i j : ℕ) → i < 10 → j ≡ (i + 1) % 10 → place j 1 ≡ i
place_first i j low next = omega arith

place_next : (i j b : ℕ) → i < 10 → j ≡ (i + 1) % 10 → 1 ≤ b → b < 10 → place j (b + 1) ≡ place i b
place_next i j b low next some few = omega arith

place_other : (i b : ℕ) → i < 10 → 1 ≤ b → b < 10 → place i b ≢ i
place_other i b low some few same = omega arith

-- each place is that of some number of generations back
placed : (i p : ℕ) → i < 10 → p < 10 → (b : ℕ) × (1 ≤ b) × (b ≤ 10) × (place i b ≡ p)
placed i p low in_ring =
    elim (leb_tells (p + 1) i) [ inl here ↦ (i - p, omega arith, omega arith, omega arith) | inr gone ↦ (i + 10 - p, omega arith, omega arith, omega arith) ]

-- a write at the index, which moves on by one
pub put_moves : (amount : ℤ) (i j : ℕ) (slots new : List ℤ) → length slots ≡ 10 → i < 10 → j ≡ (i + 1) % 10 → new ≡ slice_set slots i amount → Shifted 1 amount i slots j new
put_moves amount i j slots new ten low next is = λ g xs present s. record {
  none_later = each_later g (g + 1) xs (omega arith) s.none_later;
  each = λ back some few. elim (leb_tells back 1) [
    | inl one ↦
        let first : back ≡ 1 = omega arith in
        let there : slot j new 1 ≡ amount = rw (is, place_first i j low next) (get_or-set_same slots i amount (pos 0) (omega arith)) in
        rw (first, there) (keeps_later g 0 xs amount present)
    | inr more ↦
        let b = back - 1 in
        let is_back : back ≡ b + 1 = omega arith in
        let other : place i b ≢ i = place_other i b low (omega arith) (omega arith) in
        let there : slot j new (b + 1) ≡ slot i slots b =
        rw (is, place_next i j b low next (omega arith) (omega arith)) (get_or-set_other slots i (place i b) amount (pos 0) other) in
        rw (is_back, there) (keeps_later g b xs (slot i slots b) (s.each b (omega arith) (omega arith)))
  ];
}

-- eleven generations after the last amount every slot is 0
all_zero : (g i p : ℕ) (xs : List Amount) (slots : List ℤ) → Each (λ a. a.generation ≤ g) xs → Slotted (g + 11) xs i slots → i < 10 → p < 10 → slice_index_or slots p (pos 0) ≡ pos 0
all_zero g i p xs slots e s low in_ring =
    let at = placed i p low in_ring in
    subst (λ (q : ℕ). slice_index_or slots q (pos 0) ≡ pos 0) at.3
    (none_kept (g + 11) at.0 g xs _ e (omega arith) (s.each at.0 at.1 at.2))

-- so it doesn't matter where the index stands
pub moved_past : (g i j n : ℕ) (xs : List Amount) (slots : List ℤ) → Each (λ a. a.generation ≤ g) xs → Slotted (g + 11) xs i slots → i < 10 → j < 10 → 11 ≤ n → Slotted (g + n) xs j slots
moved_past g i j n xs slots e s low within far = record {
  none_later = each_later g (g + n) xs (omega arith) e;
  each = λ back some few.
      let zero_there = all_zero g i (place j back) xs slots e s low (place_low j back) in
      rw zero_there (none_keeps (g + n) back g xs e (omega arith));
}

-- no amount at all
pub blank_slots : (g i : ℕ) (slots : List ℤ) → ((p : ℕ) → p < 10 → slice_index_or slots p (pos 0) ≡ pos 0) → i < 10 → Slotted g [] i slots
blank_slots g i slots zeros low = record {
  none_later = tt;
  each = λ back some few. λ small. zeros (place i back) (place_low i back);
}

-- one generation more, without an amount
pub moves_more : (n : ℕ) (present : ℤ) (i j k : ℕ) (a b c : List ℤ) → 1 ≤ n → Shifted n present i a j b → Shifted 1 (pos 0) j b k c → Shifted (n + 1) present i a k c
moves_more n present i j k a b c some first next = λ g xs p s.
    let one_more : g + n + 1 ≡ g + (n + 1) = omega arith in
    subst (λ (m : ℕ). Slotted m xs k c) one_more (next (g + n) xs (none_keeps (g + n) 0 g xs s.none_later (omega arith)) (first g xs p s))

-- the generations past the first eleven
pub moves_on : (n m rest : ℕ) (present : ℤ) (i j k : ℕ) (a b : List ℤ) → (n ≤ 11 × m ≡ n) ⊎ (11 ≤ n × m ≡ 11) → j < 10 → rest ≡ n - 11 → k ≡ (j + rest % 10) % 10
    → Shifted m present i a j b → Shifted n present i a k b
moves_on n m rest present i j k a b (inl few) low is_rest is moves = λ g xs p s.
    let count = few.1 in
    let within = few.0 in
    let none : rest ≡ 0 = omega arith in
    let same : k ≡ j = is ∙ rw none (omega arith) in
    rw same (subst (λ (x : ℕ). Slotted (g + x) xs j b) count (moves g xs p s))
moves_on n m rest present i j k a b (inr many) low is_rest is moves = λ g xs p s.
    let within : k < 10 = omega arith in
    moved_past g j k n xs b s.none_later (subst (λ (x : ℕ). Slotted (g + x) xs j b) many.1 (moves g xs p s)) low within many.0

pub kept_sum_more : (sum : ℤ) (i : ℕ) (slots : List ℤ) (n : ℕ) → kept_sum sum i slots (n + 1) ≡ saturate_signed w128 (kept_sum sum i slots n +ℤ slot i slots (n + 1))
unfolding kept_sum
kept_sum_more sum i slots n = rw add-one refl

pub kept_sum_none : (sum : ℤ) (i : ℕ) (slots : List ℤ) → kept_sum sum i slots 0 ≡ sum
unfolding kept_sum
kept_sum_none sum i slots = refl
