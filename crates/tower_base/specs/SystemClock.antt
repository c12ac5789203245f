-- The computer's own clock.
use Rattle.std.specs.Prelude.{◌≡◌, ◌≤◌, ℕ}
use Rattle.std.specs.declared.time.Instant.{Instant}

-- what contracts see of a `SystemClock`: the runtime, the start from which it counts, and its last reading
pub record SystemClockView (R : Type 0) : Type 0 where
  pub rt : R
  pub start : Instant
  pub last : ℕ

-- A reading keeps the clock and its start, and may be any moment that isn't before the last reading.
abbrev pub Read : {R : Type 0} → SystemClockView R → SystemClockView R → Type 0
Read old new = (old.last ≤ new.last) × (new ≡ record old { last = new.last })
