-- The draw of two distinct indexes below a length.
use Rattle.std.specs.Prelude.{◌≡◌, ◌≢◌, ◌<◌, ◌-◌, ◌%◌, ℕ, List, [], ◌∷◌, nat_eq, if◌then◌else◌}

-- What is drawn from a below n - 1 and b below n: a and b, or the last index and b if a is b.
abbrev pub draw : ℕ → ℕ → ℕ → List ℕ
draw n a b = (if nat_eq a b then n - 1 else a) ∷ b ∷ []

-- an ordered pair of distinct indexes below n
abbrev pub IsPair : ℕ → List ℕ → Type 0
IsPair n (i ∷ j ∷ []) = (i < n) × (j < n) × (i ≢ j)
IsPair n _ = ⊥

-- A draw takes two words, reduces the first below n - 1 and the second below n, each by the remainder of a division.
pub record Drawn {R : Type 0} (drew : R → ℕ → R → Type 0) (old : R) (n : ℕ) (answer : List ℕ) (new : R) : Type 0 where
  pub first : ℕ
  pub second : ℕ
  pub mid : R
  pub drew_first : drew old first mid
  pub drew_second : drew mid second new
  pub pair : answer ≡ draw n (first % (n - 1)) (second % n)

-- Every draw is a pair of distinct indexes.
abbrev pub Draws : Type 0
Draws = (n a b : ℕ) → a < n - 1 → b < n → IsPair n (draw n a b)

-- If two draws give the same pair, they were made from the same numbers.
abbrev pub IsOneToOne : Type 0
IsOneToOne = (n a b c d : ℕ) → a < n - 1 → b < n → c < n - 1 → d < n → draw n a b ≡ draw n c d → (a ≡ c) × (b ≡ d)

-- Each pair of distinct indexes is drawn from some numbers.
abbrev pub IsOnto : Type 0
IsOnto = (n : ℕ) (pair : List ℕ) → IsPair n pair → (a : ℕ) × (b : ℕ) × (a < n - 1) × (b < n) × (draw n a b ≡ pair)
