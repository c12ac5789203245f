-- Lists of numbers: how often each is in them, and sorted ones.
use Rattle.std.proofs.Common.{◌≡◌, ℕ, ◌+◌, ◌<◌, ◌≤◌, true, false, Bool, List, [], ◌∷◌, length, refl, ◌∙◌, ap, sym, arith, zero, suc}
use Rattle.std.specs.Prelude.{nat_eq, nat_le, if◌then◌else◌, slice_index_or, ⊤}
use Rattle.std.proofs.lemmas.Bool.Decides.{nat_tests}
use Rattle.tower_limit.specs.Histogram.{placed, sorted, times}
use Rattle.tower_limit.specs.HistoCore.{repeated}

-- each number is w at least
abbrev pub Above : ℕ → List ℕ → Type 0
Above w [] = ⊤
Above w (x ∷ rest) = (w ≤ x) × Above w rest

abbrev pub Rises : List ℕ → Type 0
Rises [] = ⊤
Rises (x ∷ rest) = Above x rest × Rises rest

pub above_less : (w x : ℕ) (xs : List ℕ) → w ≤ x → Above x xs → Above w xs
above_less w x [] low h = tt
above_less w x (y ∷ rest) low h = (omega (arith, h.0), above_less w x rest low h.1)

above_pick : (w x y : ℕ) (rest : List ℕ) (b : Bool) → w ≤ x → Above w (y ∷ rest) → Above w (placed x rest)
    → Above w (if b then x ∷ y ∷ rest else y ∷ placed x rest)
above_pick w x y rest true low h more = (low, h)
above_pick w x y rest false low h more = (h.0, more)

above_placed : (w x : ℕ) (xs : List ℕ) → w ≤ x → Above w xs → Above w (placed x xs)
above_placed w x [] low h = (low, tt)
above_placed w x (y ∷ rest) low h = above_pick w x y rest (nat_le x y) low h (above_placed w x rest low h.1)

rises_pick : (x y : ℕ) (rest : List ℕ) (b : Bool) → nat_le x y ≡ b → Rises (y ∷ rest) → Rises (placed x rest)
    → Rises (if b then x ∷ y ∷ rest else y ∷ placed x rest)
rises_pick x y rest true e h more = let low : x ≤ y = grind (arith, nat_tests) in ((low, above_less x y rest low h.0), h)
rises_pick x y rest false e h more = let high : y ≤ x = grind (arith, nat_tests) in (above_placed y x rest high h.0, more)

rises_placed : (x : ℕ) (xs : List ℕ) → Rises xs → Rises (placed x xs)
rises_placed x [] h = (tt, tt)
rises_placed x (y ∷ rest) h = rises_pick x y rest (nat_le x y) refl h (rises_placed x rest h.1)

pub rises_sorted : (xs : List ℕ) → Rises (sorted xs)
rises_sorted [] = tt
rises_sorted (x ∷ rest) = rises_placed x (sorted rest) (rises_sorted rest)

times_pick : (v x y : ℕ) (rest : List ℕ) (b : Bool) → times v (placed x rest) ≡ times v (x ∷ rest)
    → times v (if b then x ∷ y ∷ rest else y ∷ placed x rest) ≡ times v (x ∷ y ∷ rest)
times_pick v x y rest true more = refl
times_pick v x y rest false more = omega (arith, more)

times_placed : (v x : ℕ) (xs : List ℕ) → times v (placed x xs) ≡ times v (x ∷ xs)
times_placed v x [] = refl
times_placed v x (y ∷ rest) = times_pick v x y rest (nat_le x y) (times_placed v x rest)

pub times_sorted : (v : ℕ) (xs : List ℕ) → times v (sorted xs) ≡ times v xs
times_sorted v [] = refl
times_sorted v (x ∷ rest) = times_placed v x (sorted rest) ∙ ap (λ (n : ℕ). (if nat_eq x v then 1 else 0) + n) (times_sorted v rest)

length_pick : (x y : ℕ) (rest : List ℕ) (b : Bool) → length (placed x rest) ≡ length (x ∷ rest)
    → length (if b then x ∷ y ∷ rest else y ∷ placed x rest) ≡ length (x ∷ y ∷ rest)
length_pick x y rest true more = refl
length_pick x y rest false more = ap suc more

length_placed : (x : ℕ) (xs : List ℕ) → length (placed x xs) ≡ length (x ∷ xs)
length_placed x [] = refl
length_placed x (y ∷ rest) = length_pick x y rest (nat_le x y) (length_placed x rest)

pub length_sorted : (xs : List ℕ) → length (sorted xs) ≡ length xs
length_sorted [] = refl
length_sorted (x ∷ rest) = length_placed x (sorted rest) ∙ ap suc (length_sorted rest)

-- what is below all of them isn't there
times_below : (v w : ℕ) (xs : List ℕ) → v < w → Above w xs → times v xs ≡ 0
times_below v w [] low h = refl
times_below v w (x ∷ rest) low h =
    let above = h.0 in
    let no : nat_eq x v ≡ false = grind (arith, nat_tests) in
    rw no (omega (arith, times_below v w rest low h.1))

there : (x : ℕ) (xs : List ℕ) → 1 ≤ times x (x ∷ xs)
there x xs = let yes : nat_eq x x ≡ true = grind (arith, nat_tests) in rw yes (omega arith)

first_le : (x y : ℕ) (xs ys : List ℕ) (b : Bool) → nat_le y x ≡ b → Above y ys → times x (x ∷ xs) ≡ times x (y ∷ ys) → y ≤ x
first_le x y xs ys true e h same = grind (arith, nat_tests)
first_le x y xs ys false e h same =
    let low : x < y = grind (arith, nat_tests) in
    let is : 1 ≤ times x (x ∷ xs) = there x xs in
    let no : times x (y ∷ ys) ≡ 0 = times_below x y (y ∷ ys) low (omega arith, h) in
    omega (arith, is, no, same)

rest_same : (v x y : ℕ) (xs ys : List ℕ) → x ≡ y → times v (x ∷ xs) ≡ times v (y ∷ ys) → times v xs ≡ times v ys
rest_same v x y xs ys e same = let h = rw e at same in omega (arith, h)

-- there is one ascending list that has each number so often
pub rises_same : (xs ys : List ℕ) → Rises xs → Rises ys → ((v : ℕ) → times v xs ≡ times v ys) → xs ≡ ys
rises_same [] [] xs_rise ys_rise same = refl
rises_same [] (y ∷ ys) xs_rise ys_rise same =
    let is = there y ys in
    let no : 0 ≡ times y (y ∷ ys) = same y in
    absurd (omega (arith, is, no))
rises_same (x ∷ xs) [] xs_rise ys_rise same =
    let is = there x xs in
    let no : times x (x ∷ xs) ≡ 0 = same x in
    absurd (omega (arith, is, no))
rises_same (x ∷ xs) (y ∷ ys) xs_rise ys_rise same =
    let low = first_le x y xs ys (nat_le y x) refl ys_rise.0 (same x) in
    let high = first_le y x ys xs (nat_le x y) refl xs_rise.0 (sym (same y)) in
    let e : x ≡ y = omega (arith, low, high) in
    let rest : xs ≡ ys = rises_same xs ys xs_rise.1 ys_rise.1 (λ v. rest_same v x y xs ys e (same v)) in
    rw (e, rest) refl

-- repeated numbers

times_repeat : (v n k : ℕ) (more : List ℕ) (b : Bool) → nat_eq k v ≡ b → times v (repeated n k more) ≡ (if b then n else 0) + times v more
times_repeat v zero k more true e = omega arith
times_repeat v zero k more false e = omega arith
times_repeat v (suc n) k more true e = rw e (omega (arith, times_repeat v n k more true e))
times_repeat v (suc n) k more false e = rw e (omega (arith, times_repeat v n k more false e))

pub times_repeated : (v n k : ℕ) (more : List ℕ) → times v (repeated n k more) ≡ (if nat_eq k v then n else 0) + times v more
times_repeated v n k more = times_repeat v n k more (nat_eq k v) refl

pub length_repeated : (n k : ℕ) (more : List ℕ) → length (repeated n k more) ≡ n + length more
length_repeated zero k more = omega arith
length_repeated (suc n) k more = omega (arith, length_repeated n k more)

pub above_repeated : (w n k : ℕ) (more : List ℕ) → w ≤ k → Above w more → Above w (repeated n k more)
above_repeated w zero k more low h = h
above_repeated w (suc n) k more low h = (low, above_repeated w n k more low h)

pub rises_repeated : (n k : ℕ) (more : List ℕ) → Above k more → Rises more → Rises (repeated n k more)
rises_repeated zero k more above h = h
rises_repeated (suc n) k more above h = (above_repeated k n k more (omega arith) above, rises_repeated n k more above h)

-- among the first so many stands k, and after them the others
pub at_repeated : (n k : ℕ) (more : List ℕ) (i : ℕ) → i < n → slice_index_or (repeated n k more) i 0 ≡ k
at_repeated zero k more i low = absurd (omega arith)
at_repeated (suc n) k more zero low = refl
at_repeated (suc n) k more (suc i) low = at_repeated n k more i (omega arith)

pub past_repeated : (n k : ℕ) (more : List ℕ) (i j : ℕ) → j ≡ n + i → slice_index_or (repeated n k more) j 0 ≡ slice_index_or more i 0
past_repeated zero k more i j e = let same : j ≡ i = omega arith in rw same refl
past_repeated (suc n) k more i zero e = absurd (omega arith)
past_repeated (suc n) k more i (suc j) e = past_repeated n k more i j (omega arith)
