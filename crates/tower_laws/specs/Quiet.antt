-- Why a poll of a stack may ask for another poll.
use Rattle.std.specs.Prelude.{ℕ, ◌⊎◌}
use Rattle.tower_latch.specs.declared.Latch.{Ghosts as LatchOf}
use Rattle.tower_limit.specs.Concurrency.{ConcurrencyLimitView, StirsLine}
use Rattle.tower_limit.specs.Rate.{RateLimitView}
use Rattle.tower_limit.specs.declared.limit.concurrency.line_core.LineReply.{LineReply}
use Rattle.tower_limit.specs.declared.limit.concurrency.line_core.LineStep.{LineStep}
use Rattle.tower_limit.specs.declared.limit.concurrency.line_core.LineCore.{LineCore}

-- A layer has no cause of its own: if its poll may ask for another, the poll of what is below it may.
abbrev pub AddsNone : {W S : Type 0} → (W → W → Type 0) → (S → S → Type 0) → (W → S) → Type 0
AddsNone {W} outer inner below = (old new : W) → outer old new → inner (below old) (below new)

module _ {S C L : Type 0} (l : LatchOf L LineCore LineStep LineReply ℕ) (latch : L → Type 0) (clock : C → Type 0) (inner : S → S → Type 0) where
  -- One of the leaves of a concurrency limit over a rate limit may ask for another poll: the line's latch, the clock, or the inner service.
  abbrev pub LeafStirs : ConcurrencyLimitView (RateLimitView S C) L → ConcurrencyLimitView (RateLimitView S C) L → Type 0
  LeafStirs old new = StirsLine l latch new.asking ⊎ (clock new.inner.clock ⊎ inner old.inner.inner new.inner.inner)
