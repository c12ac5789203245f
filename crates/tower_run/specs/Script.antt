-- The lines of a script.
use Rattle.std.specs.Prelude.{ℕ, ◌≤◌, List, length, All}

-- a word: 1 to 64 visible bytes of ASCII
abbrev pub IsWord : List ℕ → Type 0
IsWord w = (1 ≤ length w) × (length w ≤ 64) × All (λ b. (33 ≤ b) × (b ≤ 126)) w
