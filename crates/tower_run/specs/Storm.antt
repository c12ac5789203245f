-- The numbers of a storm.
use Rattle.std.specs.Prelude.{ℕ, ◌≤◌, ◌≡◌, List, decimal}

-- Their bounds: 1 to 64 threads, 0 to 1000000 rounds of each, 1 to 1000000 permits.
abbrev pub Fits : ℕ → ℕ → ℕ → Type 0
Fits threads rounds permits = (1 ≤ threads) × (threads ≤ 64) × (rounds ≤ 1000000) × (1 ≤ permits) × (permits ≤ 1000000)

-- Three texts are how these numbers are written, without leading zeros.
abbrev pub AreWritten : List ℕ → List ℕ → List ℕ → ℕ → ℕ → ℕ → Type 0
AreWritten first second third threads rounds permits = (first ≡ decimal threads) × (second ≡ decimal rounds) × (third ≡ decimal permits)
