-- How a `Hedge` is constructed. (`gave`, `may_share`: as in RotatingHistogram.antt.)
use Rattle.std.specs.Prelude.{◌≡◌, ℕ, List, Result}
use Rattle.std.specs.declared.alloc.AllocError.{AllocError}
use Rattle.tower_base.specs.declared.service.Clock.{Ghosts as ClockOf}
use Rattle.tower_base.specs.declared.service.Fraction.{Fraction}
use Rattle.tower_retry.specs.Hedge.{HedgeView}
use Rattle.tower_limit.specs.RotatingHistogram.{RotatingHistogramView, IsClone, SeededAll}
use Rattle.tower_limit.specs.declared.hedge.rotating_histogram.steps.HistoStep.{HistoStep}
use Rattle.tower_limit.specs.declared.hedge.rotating_histogram.steps.HistoReply.{HistoReply}

-- The first side is a clone of the service, and the second the service itself. Both are recorded, by clones of one histogram. The second is
-- filtered by a clone of the policy, and delayed by a clone of the histogram. All clocks are shares of one clock.
pub record Made {S P L C : Type 0} (service_clone : S → S → Type 0) (policy_clone : P → P → Type 0) (gave : L → HistoStep → HistoReply → Type 0) (may_share : L → Result L AllocError → Type 0) (c : ClockOf C)
    (histogram : RotatingHistogramView L C) (service : S) (policy : P) (min_data_points : ℕ) (percentile : Fraction) (clock : C) (made : HedgeView S P L C) : Type 0 where
  pub first_rec : IsClone gave may_share c histogram made.a.rec
  pub first_service : service_clone service made.a.service
  pub first_clock : c.shared clock made.a.clock
  pub second_rec : IsClone gave may_share c histogram made.b.service.inner.rec
  pub second_service : made.b.service.inner.service ≡ service
  pub second_clock : c.shared clock made.b.service.inner.clock
  pub second_policy : policy_clone policy made.b.service.predicate
  pub delay_histogram : IsClone gave may_share c histogram made.b.policy.histogram
  pub delay_percentile : made.b.policy.percentile ≡ percentile
  pub delay_clock : c.shared clock made.b.clock
  pub select_policy : made.policy.policy ≡ policy
  pub select_histogram : made.policy.histogram ≡ histogram
  pub select_min : made.policy.min_data_points ≡ min_data_points

module _ {S P L C : Type 0} (service_clone : S → S → Type 0) (policy_clone : P → P → Type 0) (gave : L → HistoStep → HistoReply → Type 0) (may_share : L → Result L AllocError → Type 0) (c : ClockOf C) where
  -- A `Hedge` over a given latch. The histogram has the latch and a share of the clock, and begins with these latencies.
  pub record NewFrom (latencies : List ℕ) (latch : L) (service : S) (policy : P) (min_data_points : ℕ) (percentile : Fraction) (clock : C) (made : HedgeView S P L C) : Type 0 where
    pub empty : RotatingHistogramView L C
    pub has_latch : empty.latch ≡ latch
    pub shares : c.shared clock empty.clock
    pub histogram : RotatingHistogramView L C
    pub seeded : SeededAll gave c empty latencies histogram
    pub parts : Made service_clone policy_clone gave may_share c histogram service policy min_data_points percentile clock made

  -- A `Hedge` with a latch of its own, of a histogram with this period. Before, the clock is read once.
  pub record NewAt (period_of : L → ℕ) (latencies : List ℕ) (service : S) (policy : P) (min_data_points : ℕ) (percentile : Fraction) (period : ℕ) (clock : C) (made : HedgeView S P L C) : Type 0 where
    pub latch : L
    pub lasts : period_of latch ≡ period
    pub left : C
    pub read : c.read clock left
    pub from : NewFrom latencies latch service policy min_data_points percentile left made
