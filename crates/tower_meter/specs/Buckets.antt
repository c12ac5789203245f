-- The buckets of times.
use Rattle.std.specs.Prelude.{ℕ, ◌+◌, ◌<◌, List, [], ◌∷◌, nat_lt, length, slice_index_or, count_by}

-- Each bound is below the next one.
abbrev pub Grows : List ℕ → Type 0
Grows bounds = (i : ℕ) → i + 1 < length bounds → slice_index_or bounds i 0 < slice_index_or bounds (i + 1) 0

-- the place of a time's bucket: how many of the bounds are below the time
abbrev pub below : List ℕ → ℕ → ℕ
below bounds nanos = count_by (λ bound. nat_lt bound nanos) bounds

-- the bounds of a meter that was given none, in nanoseconds: 0.1 ms to 10 s
abbrev pub defaults : List ℕ
defaults = 100000 ∷ 250000 ∷ 500000 ∷ 1000000 ∷ 2500000 ∷ 5000000 ∷ 10000000 ∷ 25000000 ∷ 50000000 ∷ 100000000 ∷ 250000000 ∷ 500000000
    ∷ 1000000000 ∷ 2500000000 ∷ 5000000000 ∷ 10000000000 ∷ []
