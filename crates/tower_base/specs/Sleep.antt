-- The machine of `Sleep`.
use Rattle.std.specs.Prelude.{◌≡◌, ℕ, nat_le, if◌then◌else◌}
use Rattle.futures.specs.declared.task.Poll.{Poll}
use Rattle.futures.specs.declared.task.Poll.TheVariants.{Ready, Pending}
use Rattle.tower_base.specs.declared.service.Clock.{Ghosts as ClockOf}

-- what contracts see of a `Sleep`
pub record SleepView (C : Type 0) : Type 0 where
  pub clock : C
  pub deadline : ℕ

-- The poll is ready if the moment is at or past the deadline.
abbrev pub due : ℕ → ℕ → Poll (Unit {0})
due deadline moment = if nat_le deadline moment then Ready tt else Pending

-- A poll reads the clock once, and returns what the reading gives.
pub record Stepped {C : Type 0} (c : ClockOf C) (old : SleepView C) (answer : Poll (Unit {0})) (new : SleepView C) : Type 0 where
  pub answers : answer ≡ due old.deadline (c.reading new.clock)
  pub read : c.read old.clock new.clock
  pub same : new.deadline ≡ old.deadline
