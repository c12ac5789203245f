-- The tokens of a line: one for each holder.
use Rattle.std.specs.Prelude.{ℕ}
use Rattle.tower_limit.specs.declared.limit.concurrency.line_core.LineStep.{LineStep}
use Rattle.tower_limit.specs.declared.limit.concurrency.line_core.LineStep.TheVariants.{Release}
use Rattle.tower_limit.specs.declared.limit.concurrency.line_core.LineReply.{LineReply}
use Rattle.tower_limit.specs.declared.limit.concurrency.line_core.LineReply.TheVariants.{Granted, Left}

-- A holder that leaves gives its token back.
abbrev pub paid : LineStep → LineReply → ℕ
paid Release Left = 1
paid _ _ = 0

-- Who is granted a permit gets a token.
abbrev pub gained : LineReply → ℕ
gained Granted = 1
gained _ = 0
