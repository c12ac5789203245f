-- What holds of the history of a line of permits that threads shared.
use Rattle.std.specs.Prelude.{◌≡◌, ◌≤◌, ◌+◌, ℕ, List, take, Option, Some}
use Rattle.tower_latch.specs.Latch.{StepsAs}
use Rattle.tower_latch.specs.History.{IsLegal}
use Rattle.tower_limit.specs.Line.{LineSteps, initial}
use Rattle.tower_limit.specs.LineCore.{StandsFor, Opens}
use Rattle.tower_limit.specs.LineLaws.{grants, returns}
use Rattle.tower_limit.specs.declared.limit.concurrency.line_core.LineCore.{LineCore}
use Rattle.tower_limit.specs.declared.limit.concurrency.line_core.LineStep.{LineStep}
use Rattle.tower_limit.specs.declared.limit.concurrency.line_core.LineReply.{LineReply}

-- If the log opened with an empty line, never more than max permits are out, in each prefix of the history.
abbrev pub BoundedHistory : Type 0
BoundedHistory =
    (max : ℕ) (line : LineCore) (opening : Option LineCore) (history : List (LineStep × LineReply)) → StandsFor line (initial max) → opening ≡ Some line
    → IsLegal Opens (StepsAs StandsFor LineSteps) opening history → (n : ℕ) → grants (take n history) ≤ max + returns (take n history)
