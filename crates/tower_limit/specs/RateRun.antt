-- Runs of a rate limit, and the moments of their calls.
use Rattle.std.specs.Prelude.{◌≡◌, ◌+◌, ◌≤◌, ℕ, true, List, [], ◌∷◌, ◌++◌}
use Rattle.tower_base.specs.Monotonic.{IsMonotonic}
use Rattle.tower_base.specs.Projection.{Each}
use Rattle.tower_base.specs.ServiceRun.{Relations, relations, Action, Transition, ServiceRun, Makes, requests}
use Rattle.tower_base.specs.declared.service.Service.{Ghosts as ServiceOf}
use Rattle.tower_base.specs.declared.service.Clock.{Ghosts as ClockOf}
use Rattle.tower_limit.specs.Rate.{RateLimitView, Polled, Called, StandsFor, Stands, initial, may_call}
use Rattle.tower_limit.specs.RateLaws.{one_within}

-- the relations of a rate limit, as those of a service
abbrev pub rate_of : {S C Q A E F : Type 0} → ServiceOf S Q A E F → ClockOf C → Relations (RateLimitView S C) Q E F
rate_of s c = record {
  ready = λ l. s.ready l.inner × Stands l.core (λ plain. may_call plain ≡ true);
  polled = Polled s c;
  called = Called s c;
}

-- how many of the moments are in [from, from + per)
abbrev pub within : ℕ → ℕ → List ℕ → ℕ
within from per [] = 0
within from per (moment ∷ moments) = one_within from per moment + within from per moments

-- No half-open interval of length per has more than num of the moments.
abbrev pub AtMostIn : ℕ → ℕ → List ℕ → Type 0
AtMostIn num per moments = (from : ℕ) → within from per moments ≤ num

-- the moment of a call
abbrev pub moment_of : {Q E F : Type 0} → Action Q E F → ℕ → List ℕ
moment_of (Action.poll answer) moment = []
moment_of (Action.call request future) moment = moment ∷ []

module _ {S C Q E F : Type 0} (c : ClockOf C) where
  -- the moments of the calls: what the clock read for each
  abbrev pub call_moments : List (Transition (RateLimitView S C) Q E F) → List ℕ
  call_moments [] = []
  call_moments (first ∷ rest) = moment_of first.action (c.reading first.left.clock) ++ call_moments rest

  -- Readings never go back.
  abbrev pub Forward : ℕ → List (Transition (RateLimitView S C) Q E F) → Type 0
  Forward now [] = Unit {0}
  Forward now (first ∷ rest) = (now ≤ c.reading first.left.clock) × Forward (c.reading first.left.clock) rest

-- The bound, over any run of a limit of which no call was made before: if readings don't go back, an interval of length per has at most num calls.
abbrev pub RunsBounded : {S C Q A E F : Type 0} → ServiceOf S Q A E F → ClockOf C → Type 0
RunsBounded {S} {C} {Q} {A} {E} {F} s c = (num per : ℕ) (first last : RateLimitView S C) (transitions : List (Transition (RateLimitView S C) Q E F))
    → StandsFor first.core (initial num per) → ServiceRun (rate_of s c) first transitions last → Forward c 0 transitions → AtMostIn num per (call_moments c transitions)

-- With a monotonic clock readings don't go back.
abbrev pub RunsForward : {S C Q A E F : Type 0} → ServiceOf S Q A E F → ClockOf C → Type 0
RunsForward {S} {C} {Q} {A} {E} {F} s c = IsMonotonic c.reading c.read → (first last : RateLimitView S C) (transitions : List (Transition (RateLimitView S C) Q E F))
    → ServiceRun (rate_of s c) first transitions last → Forward c 0 transitions

-- The limit has a run from the first of these values to the last. Its requests are those that `goes` relates to the requests that were made, and
-- the inner service gets exactly its requests. If no call was made of the limit before, an interval of length per has at most num of the calls.
pub record KeepsRate {S C Q R A E F : Type 0} (s : ServiceOf S R A E F) (c : ClockOf C) (goes : Q → List R → Type 0) (first : RateLimitView S C) (made : List Q) (last : RateLimitView S C) : Type 0 where
  pub transitions : List (Transition (RateLimitView S C) R E F)
  pub run : ServiceRun (rate_of s c) first transitions last
  pub goes_in : Each goes made (requests transitions)
  pub inner : Makes (relations s) first.inner (requests transitions) last.inner
  pub bound : (num per : ℕ) → StandsFor first.core (initial num per) → AtMostIn num per (call_moments c transitions)
