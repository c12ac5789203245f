-- The waits of `retry::backoff`.
use Rattle.std.specs.Prelude.{◌≡◌, ℕ, ◌+◌, ◌-◌, ◌*◌, ◌/◌, ◌^◌, min, nat_lt, nat_eq, if◌then◌else◌, true, false, Bool, Result, Ok, Err}
use Rattle.std.specs.declared.clone.Clone.{Ghosts as CloneOf}
use Rattle.std.specs.declared.alloc.AllocError.{AllocError}
use Rattle.tower_base.specs.Sleep.{SleepView}
use Rattle.tower_base.specs.declared.service.Clock.{Ghosts as ClockOf}
use Rattle.tower_base.specs.declared.service.Fraction.{Fraction}
use Rattle.tower_base.specs.declared.util.rng.Rng.{Ghosts as RngOf}
use Rattle.tower_retry.specs.declared.retry.backoff.invalid.InvalidBackoff.{InvalidBackoff}
use Rattle.tower_retry.specs.declared.retry.backoff.invalid.InvalidBackoff.TheVariants.{MaximumBelowMinimum, MaximumIsZero, JitterAbove100}

-- an `ExponentialBackoffMaker`
pub record ExponentialBackoffMakerView (R C : Type 0) : Type 0 where
  pub least : ℕ
  pub most : ℕ
  pub jitter : Fraction
  pub rng : R
  pub clock : C

-- an `ExponentialBackoff`, and how many waits it returned
pub record ExponentialBackoffView (R C : Type 0) : Type 0 where
  pub maker : ExponentialBackoffMakerView R C
  pub count : ℕ

-- A maker of these parts, if the least wait isn't above the greatest, which isn't 0, and the jitter isn't above 100; or an error.
abbrev pub new_maker : {R C : Type 0} → ExponentialBackoffMakerView R C → Result (ExponentialBackoffMakerView R C) InvalidBackoff
new_maker parts =
    if nat_lt parts.most parts.least then Err MaximumBelowMinimum
    else (if nat_eq parts.most 0 then Err MaximumIsZero
    else (if nat_lt (100 * parts.jitter.divisor) parts.jitter.numerator then Err JitterAbove100 else Ok parts))

-- a wait without its jitter: the least one, doubled for each earlier wait up to a factor of 2 ^ 32 - 1, but at most the greatest
abbrev pub base_of : {R C : Type 0} → ExponentialBackoffView R C → ℕ
base_of old = min (old.maker.least * min (2 ^ old.count) (2 ^ 32 - 1)) old.maker.most

-- The jitter from a word: the wait times the word's top 53 bits over 2 ^ 53, times the fraction. With it the wait doesn't exceed the greatest.
abbrev pub jitter_of : {R C : Type 0} → ExponentialBackoffView R C → ℕ → ℕ
jitter_of old word = min (base_of old * (word / 2 ^ 11) / 2 ^ 53 * old.maker.jitter.numerator / old.maker.jitter.divisor) (old.maker.most - base_of old)

module _ {R C : Type 0} (r : RngOf R) where
  -- The jitter of the next wait: from one word, or 0 without a word if the fraction is 0.
  abbrev pub Jitters : Bool → ExponentialBackoffView R C → ℕ → ExponentialBackoffView R C → Type 0
  Jitters true old extra new = (extra ≡ 0) × (new.maker.rng ≡ old.maker.rng)
  Jitters false old extra new = (word : ℕ) × r.drew old.maker.rng word new.maker.rng × (extra ≡ jitter_of old word)

module _ {R C : Type 0} (r : RngOf R) (c : ClockOf C) where
  -- The next wait begins at one reading of a share of the clock.
  pub record Begins (old : ExponentialBackoffView R C) (sleep : SleepView C) (new : ExponentialBackoffView R C) : Type 0 where
    pub extra : ℕ
    pub share : C
    pub jitters : Jitters r (nat_eq old.maker.jitter.numerator 0) old extra new
    pub shared : c.shared old.maker.clock share
    pub read : c.read share sleep.clock
    pub deadline : sleep.deadline ≡ c.reading sleep.clock + (base_of old + extra)
    pub counted : new.count ≡ min (old.count + 1) (2 ^ 32 - 1)
    pub same : new.maker ≡ record old.maker { rng = new.maker.rng }

-- a copy of each part, with a share of the clock
module _ {R C : Type 0} (clones : CloneOf R) (c : ClockOf C) where
  pub record IsClone (old new : ExponentialBackoffMakerView R C) : Type 0 where
    pub rng : clones.is_clone old.rng new.rng
    pub clock : c.shared old.clock new.clock
    pub same : new ≡ record old { rng = new.rng; clock = new.clock }

  -- The result of a maker: a new backoff, or an error, which happens only if its generator's clone may fail. The maker is unchanged.
  abbrev pub Made : ExponentialBackoffMakerView R C → Result (ExponentialBackoffView R C) AllocError → ExponentialBackoffMakerView R C → Type 0
  Made old (Ok backoff) new = IsClone old backoff.maker × (backoff.count ≡ 0) × (new ≡ old)
  Made old (Err refused) new = (new ≡ old) × ¬ (clones.is_infallible old.rng)
