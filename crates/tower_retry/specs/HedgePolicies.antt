-- How long a second request waits, and whether there is one. (`gave`: as in RotatingHistogram.antt.)
use Rattle.std.specs.Prelude.{◌≡◌, ℕ, ◌*◌, ◌-◌, ◌^◌, min, nat_lt, if◌then◌else◌, Option, Some, None}
use Rattle.tower_base.specs.declared.service.Clock.{Ghosts as ClockOf}
use Rattle.tower_base.specs.declared.service.Fraction.{Fraction}
use Rattle.tower_limit.specs.RotatingHistogram.{RotatingHistogramView, Counted, Ranked}
use Rattle.tower_retry.specs.declared.hedge.policy.Policy.{Ghosts as PolicyOf}
use Rattle.tower_limit.specs.declared.hedge.rotating_histogram.steps.HistoStep.{HistoStep}
use Rattle.tower_limit.specs.declared.hedge.rotating_histogram.steps.HistoReply.{HistoReply}

-- a `DelayPolicy`
pub record DelayPolicyView (L C : Type 0) : Type 0 where
  pub histogram : RotatingHistogramView L C
  pub percentile : Fraction

-- a `SelectPolicy`
pub record SelectPolicyView (P L C : Type 0) : Type 0 where
  pub policy : P
  pub histogram : RotatingHistogramView L C
  pub min_data_points : ℕ

module _ {L C Q : Type 0} (gave : L → HistoStep → HistoReply → Type 0) (c : ClockOf C) where
  -- the delay in nanoseconds: the quantile of the latencies, in milliseconds, times 1000000, at most 2 ^ 64 - 1
  pub record DelayComputed (old : DelayPolicyView L C) (request : Q) (answer : ℕ) (new : DelayPolicyView L C) : Type 0 where
    pub millis : ℕ
    pub ranked : Ranked gave c old.histogram old.percentile millis new.histogram
    pub answers : answer ≡ min (millis * 1000000) (2 ^ 64 - 1)
    pub same : new.percentile ≡ old.percentile

module _ {P L C Q : Type 0} (p : PolicyOf P Q) (gave : L → HistoStep → HistoReply → Type 0) (c : ClockOf C) where
  -- What follows the policy's decision. A copy is returned if there are enough latencies. If there is no copy, they aren't counted.
  abbrev pub AfterCopy : Option Q → ℕ → RotatingHistogramView L C → Option Q → RotatingHistogramView L C → Type 0
  AfterCopy (Some copy) least old answer new = (points : ℕ) × Counted gave c old points new × (answer ≡ (if nat_lt points least then None else Some copy))
  AfterCopy None least old answer new = (answer ≡ None) × (new ≡ old)

  -- The policy is called for a copy, and then the histogram for the number of latencies.
  pub record Copied (old : SelectPolicyView P L C) (request : Q) (answer : Option Q) (new : SelectPolicyView P L C) : Type 0 where
    pub copy : Option Q
    pub cloned : p.cloned old.policy request copy
    pub kept : AfterCopy copy old.min_data_points old.histogram answer new.histogram
    pub same : new ≡ record old { histogram = new.histogram }
