-- What the waits of an `ExponentialBackoff` are.
use Rattle.std.specs.Prelude.{◌≡◌, ℕ, zero, suc, ◌+◌, ◌-◌, ◌*◌, ◌/◌, ◌^◌, ◌<◌, ◌≤◌, min, List, [], ◌∷◌, length, Ok}
use Rattle.std.specs.List.{AllZip}
use Rattle.tower_base.specs.Sleep.{SleepView}
use Rattle.tower_base.specs.declared.service.Clock.{Ghosts as ClockOf}
use Rattle.tower_base.specs.declared.util.rng.Rng.{Ghosts as RngOf}
use Rattle.tower_retry.specs.Backoff.{Begins, ExponentialBackoffMakerView, ExponentialBackoffView, new_maker}

-- this many waits: the first is given, and each other is twice the one before, at most the greatest
abbrev pub doubling : ℕ → ℕ → ℕ → List ℕ
doubling zero wait greatest = []
doubling (suc n) wait greatest = wait ∷ doubling n (min (2 * wait) greatest) greatest

-- No wait is below the one before it.
abbrev pub NeverShrink : ℕ → List ℕ → Type 0
NeverShrink last [] = Unit {0}
NeverShrink last (wait ∷ waits) = (last ≤ wait) × NeverShrink wait waits

module _ {R C : Type 0} where
  -- the waits without jitter: they double from the least up to the greatest, or up to 2 ^ 32 - 1 times the least
  abbrev pub plain_waits : ℕ → ExponentialBackoffMakerView R C → List ℕ
  plain_waits n maker = doubling n maker.least (min (maker.least * (2 ^ 32 - 1)) maker.most)

  -- A wait with jitter isn't below the plain one, nor past the greatest.
  abbrev pub Between : ExponentialBackoffMakerView R C → ℕ → ℕ → Type 0
  Between maker plain wait = (plain ≤ wait) × (wait ≤ maker.most)

  -- It isn't past the plain one plus its share.
  abbrev pub WithinShare : ExponentialBackoffMakerView R C → ℕ → ℕ → Type 0
  WithinShare maker plain wait = wait ≤ plain + plain * maker.jitter.numerator / maker.jitter.divisor

module _ {R C : Type 0} (r : RngOf R) (c : ClockOf C) where
  -- The waits that a backoff returns, one after another. Each lasts from the reading with which it begins up to its deadline.
  abbrev pub Waits : ExponentialBackoffView R C → List ℕ → Type 0
  Waits old [] = Unit {0}
  Waits old (wait ∷ waits) = (sleep : SleepView C) × (new : ExponentialBackoffView R C) × Begins r c old sleep new
      × (sleep.deadline ≡ c.reading sleep.clock + wait) × Waits new waits

  -- The generator draws words of 64 bits.
  abbrev pub DrawsWords : Type 0
  DrawsWords = (old new : R) (word : ℕ) → r.drew old word new → word < 2 ^ 64

  -- The waits of a new backoff.
  pub record Doubles (maker : ExponentialBackoffMakerView R C) (waits : List ℕ) : Type 0 where
    pub grow : NeverShrink 0 (plain_waits (length waits) maker)
    pub plain : maker.jitter.numerator ≡ 0 → waits ≡ plain_waits (length waits) maker
    pub between : AllZip (Between maker) (plain_waits (length waits) maker) waits
    pub share : DrawsWords → AllZip (WithinShare maker) (plain_waits (length waits) maker) waits

  abbrev pub WaitsDouble : Type 0
  WaitsDouble = (first : ExponentialBackoffView R C) (waits : List ℕ) → first.count ≡ 0 → first.maker.least ≤ first.maker.most → Waits first waits → Doubles first.maker waits

-- The least wait of a maker that was made isn't above the greatest.
abbrev pub MakersFit : Type 0 → Type 0 → Type 0
MakersFit R C = (parts made : ExponentialBackoffMakerView R C) → new_maker parts ≡ Ok made → made.least ≤ made.most
