-- What a `RotatingHistogram` does at its latch. `gave latch step reply` says that a histogram with the latch's period had this reply to this step in
-- some run, and `may_share latch result` that the latch's `share` may return this result.
use Rattle.std.specs.Prelude.{◌≡◌, ℕ, List, [], ◌∷◌, Result, Ok}
use Rattle.std.specs.Int.{div_ceil}
use Rattle.std.specs.declared.alloc.AllocError.{AllocError}
use Rattle.tower_base.specs.declared.service.Clock.{Ghosts as ClockOf}
use Rattle.tower_base.specs.declared.service.Fraction.{Fraction}
use Rattle.tower_limit.specs.declared.hedge.rotating_histogram.steps.HistoStep.{HistoStep}
use Rattle.tower_limit.specs.declared.hedge.rotating_histogram.steps.HistoStep.TheVariants.{Record, Seed, Points, Quantile}
use Rattle.tower_limit.specs.declared.hedge.rotating_histogram.steps.HistoReply.{HistoReply}
use Rattle.tower_limit.specs.declared.hedge.rotating_histogram.steps.HistoReply.TheVariants.{Count, Millis}

-- a `RotatingHistogram`
pub record RotatingHistogramView (L C : Type 0) : Type 0 where
  pub latch : L
  pub clock : C

-- nanoseconds as milliseconds, rounded up
abbrev pub millis_of : ℕ → ℕ
millis_of nanos = div_ceil nanos 1000000

module _ {L C : Type 0} (gave : L → HistoStep → HistoReply → Type 0) (c : ClockOf C) where
  -- a latency in nanoseconds is recorded: the clock is read once, and one step is made at that moment, whatever the reply
  pub record Recorded (old : RotatingHistogramView L C) (latency : ℕ) (new : RotatingHistogramView L C) : Type 0 where
    pub read : c.read old.clock new.clock
    pub reply : HistoReply
    pub gave_reply : gave old.latch (Record (c.reading new.clock) (millis_of latency)) reply
    pub same : new.latch ≡ old.latch

  -- a latency in milliseconds is seeded, in the same way: it is read in the present period, and one that is recorded in the next period
  pub record Seeded (old : RotatingHistogramView L C) (millis : ℕ) (new : RotatingHistogramView L C) : Type 0 where
    pub read : c.read old.clock new.clock
    pub reply : HistoReply
    pub gave_reply : gave old.latch (Seed (c.reading new.clock) millis) reply
    pub same : new.latch ≡ old.latch

  -- these latencies in milliseconds, one after another
  abbrev pub SeededAll : RotatingHistogramView L C → List ℕ → RotatingHistogramView L C → Type 0
  SeededAll old [] new = new ≡ old
  SeededAll old (millis ∷ rest) new = (mid : RotatingHistogramView L C) × Seeded old millis mid × SeededAll mid rest new

  -- the number of latencies that are read in the present period: the clock is read once, and the reply to one step is returned
  pub record Counted (old : RotatingHistogramView L C) (answer : ℕ) (new : RotatingHistogramView L C) : Type 0 where
    pub read : c.read old.clock new.clock
    pub gave_count : gave old.latch (Points (c.reading new.clock)) (Count answer)
    pub same : new.latch ≡ old.latch

  -- their quantile in milliseconds, in the same way
  pub record Ranked (old : RotatingHistogramView L C) (part : Fraction) (answer : ℕ) (new : RotatingHistogramView L C) : Type 0 where
    pub read : c.read old.clock new.clock
    pub gave_millis : gave old.latch (Quantile (c.reading new.clock) part) (Millis answer)
    pub same : new.latch ≡ old.latch

-- a clone: its latch is a share that the old latch created, and what it gives, the old one gives
pub record IsClone {L C : Type 0} (gave : L → HistoStep → HistoReply → Type 0) (may_share : L → Result L AllocError → Type 0) (c : ClockOf C)
    (old copy : RotatingHistogramView L C) : Type 0 where
  pub shared : may_share old.latch (Ok copy.latch)
  pub latch : (s : HistoStep) (r : HistoReply) → gave copy.latch s r → gave old.latch s r
  pub clock : c.shared old.clock copy.clock
