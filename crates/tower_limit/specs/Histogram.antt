-- Latencies as a plain list of points, each with the period in which it is read.
use Rattle.std.specs.Prelude.{◌≡◌, ◌<◌, ℕ, ◌+◌, ◌-◌, ◌*◌, ◌/◌, ◌^◌, min, max, nat_le, nat_eq, if◌then◌else◌, List, [], ◌∷◌, length, slice_index_or}
use Rattle.std.specs.Int.{div_ceil}
use Rattle.tower_base.specs.declared.service.Fraction.{Fraction}
use Rattle.tower_limit.specs.declared.hedge.rotating_histogram.steps.HistoStep.{HistoStep}
use Rattle.tower_limit.specs.declared.hedge.rotating_histogram.steps.HistoStep.TheVariants.{Record, Seed, Points, Quantile}
use Rattle.tower_limit.specs.declared.hedge.rotating_histogram.steps.HistoReply.{HistoReply}
use Rattle.tower_limit.specs.declared.hedge.rotating_histogram.steps.HistoReply.TheVariants.{Done, Memory, Full, Count, Millis}

-- a latency in milliseconds, and the period in which it is read
pub record Point : Type 0 where
  pub period : ℕ
  pub millis : ℕ

-- The moment of creation, the length of a period, the present period, and every point so far, the newest first.
pub record Histogram : Type 0 where
  pub made : ℕ
  pub period : ℕ
  pub present : ℕ
  pub points : List Point

-- a histogram at the moment of its creation
abbrev pub initial : ℕ → ℕ → Histogram
initial made period = record { made = made; period = period; present = 0; points = [] }

-- The present period is the greatest number of whole periods since the creation so far. A clock that went back doesn't change it.
abbrev pub rotated : Histogram → ℕ → Histogram
rotated h moment = record h { present = max h.present ((moment - h.made) / h.period) }

abbrev pub added : Histogram → ℕ → ℕ → Histogram
added h period millis = record h { points = record { period = period; millis = millis } ∷ h.points }

-- the milliseconds of the points that are read in this period
abbrev pub read_at : ℕ → List Point → List ℕ
read_at period [] = []
read_at period (p ∷ rest) = if nat_eq p.period period then p.millis ∷ read_at period rest else read_at period rest

abbrev pub present_of : Histogram → List ℕ
present_of h = read_at h.present h.points

-- insertion into an ascending list
abbrev pub placed : ℕ → List ℕ → List ℕ
placed x [] = x ∷ []
placed x (y ∷ rest) = if nat_le x y then x ∷ y ∷ rest else y ∷ placed x rest

abbrev pub sorted : List ℕ → List ℕ
sorted [] = []
sorted (x ∷ rest) = placed x (sorted rest)

-- that fraction of `total` points, rounded up, and at least 1 and at most `total`; 0 if there are none
abbrev pub rank : ℕ → Fraction → ℕ
rank total part = min total (max 1 (div_ceil (total * part.numerator) part.divisor))

-- the point of that rank in the ascending list, counted from 1, or 0 if there is none
abbrev pub quantile : Fraction → List ℕ → ℕ
quantile part xs = slice_index_or (sorted xs) (rank (length xs) part - 1) 0

-- how often a number is in a list
abbrev pub times : ℕ → List ℕ → ℕ
times v [] = 0
times v (x ∷ rest) = (if nat_eq x v then 1 else 0) + times v rest

-- the greatest number of points of a period
abbrev pub most : ℕ
most = 2 ^ 64 - 1

-- A point is added. It is left out if its period is full, or if allocation fails, which is possible only at the first point of that many
-- milliseconds in its period.
abbrev pub Takes : Histogram → ℕ → ℕ → HistoReply → Histogram → Type 0
Takes old period millis Done new = (length (read_at period old.points) < most) × (new ≡ added old period millis)
Takes old period millis Memory new = (length (read_at period old.points) < most) × (new ≡ old) × (times millis (read_at period old.points) ≡ 0)
Takes old period millis Full new = (length (read_at period old.points) ≡ most) × (new ≡ old)
-- No other reply is given.
Takes old period millis reply new = ⊥

-- The histogram's machine: one step with its reply. Each step first rotates. What is recorded is read in the next period, and a seed in the present
-- one.
abbrev pub Steps : Histogram → HistoStep → HistoReply → Histogram → Type 0
Steps old (Record moment millis) reply new = Takes (rotated old moment) ((rotated old moment).present + 1) millis reply new
Steps old (Seed moment millis) reply new = Takes (rotated old moment) (rotated old moment).present millis reply new
Steps old (Points moment) (Count n) new = (n ≡ length (present_of (rotated old moment))) × (new ≡ rotated old moment)
Steps old (Quantile moment part) (Millis n) new = (n ≡ quantile part (present_of (rotated old moment))) × (new ≡ rotated old moment)
-- No other reply is given.
Steps old step reply new = ⊥
