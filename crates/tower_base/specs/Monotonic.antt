-- Clocks that never go back.
use Rattle.std.specs.Prelude.{◌≤◌, ℕ}

-- No reading is before the last one.
abbrev pub IsMonotonic : {C : Type 0} → (C → ℕ) → (C → C → Type 0) → Type 0
IsMonotonic {C} reading read = (old new : C) → read old new → reading old ≤ reading new
