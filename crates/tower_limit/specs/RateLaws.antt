-- What holds of every list of polls and calls of a rate limit.
use Rattle.std.specs.Prelude.{◌≡◌, ◌+◌, ◌≤◌, ◌<◌, ◌&&◌, ℕ, true, List, [], ◌∷◌, nat_le, nat_lt, if◌then◌else◌}
use Rattle.tower_limit.specs.Rate.{Calls, initial, may_call, after_poll, after_call}

-- a step, at a moment
pub data Step : Type 0 where
  poll : ℕ → Step
  call : ℕ → Step

-- Moments never go back, and calls are made only when they may be made.
abbrev pub Fair : Calls → ℕ → List Step → Type 0
Fair plain now [] = Unit {0}
Fair plain now (Step.poll moment ∷ steps) = (now ≤ moment) × Fair (after_poll plain moment) moment steps
Fair plain now (Step.call moment ∷ steps) = (now ≤ moment) × (may_call plain ≡ true) × Fair (after_call plain moment) moment steps

-- one, if the moment is within [from, from + per)
abbrev pub one_within : ℕ → ℕ → ℕ → ℕ
one_within from per moment = if nat_le from moment && nat_lt moment (from + per) then 1 else 0

-- how many calls are in [from, from + per)
abbrev pub calls_within : ℕ → ℕ → List Step → ℕ
calls_within from per [] = 0
calls_within from per (Step.poll moment ∷ steps) = calls_within from per steps
calls_within from per (Step.call moment ∷ steps) = one_within from per moment + calls_within from per steps

-- For every rate, no interval of length per has more than num calls.
abbrev pub Bounded : Type 0
Bounded = (num per : ℕ) (steps : List Step) → 0 < num → Fair (initial num per) 0 steps → (from : ℕ) → calls_within from per steps ≤ num
