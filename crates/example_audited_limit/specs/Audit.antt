-- What a history says of permits.
use Rattle.std.specs.Prelude.{◌≡◌, ◌≤◌, ◌+◌, ℕ, List, take}
use Rattle.tower_limit.specs.LineLaws.{grants, returns}
use Rattle.tower_limit.specs.declared.limit.concurrency.line_core.LineStep.{LineStep}
use Rattle.tower_limit.specs.declared.limit.concurrency.line_core.LineReply.{LineReply}

-- The most permits that were out at once: in no beginning of the history were more, and in one there were so many.
pub record IsMost (most : ℕ) (history : List (LineStep × LineReply)) : Type 0 where
  pub never_more : (n : ℕ) → grants (take n history) ≤ most + returns (take n history)
  pub once : (n : ℕ) × (grants (take n history) ≡ most + returns (take n history))
