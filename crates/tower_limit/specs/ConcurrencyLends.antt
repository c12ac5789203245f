-- What `ConcurrencyLimit` lends.
use Rattle.std.specs.Prelude.{ℕ}
use Rattle.std.specs.Borrow.{Lends, MutBor, Fml}
use denote.RattleType.{RattleType}
use Rattle.tower_latch.specs.declared.Latch.{Ghosts as LatchOf}
use Rattle.tower_limit.specs.Concurrency.{ConcurrencyLimitView}
use Rattle.tower_limit.specs.declared.limit.concurrency.line_core.LineCore.{LineCore}
use Rattle.tower_limit.specs.declared.limit.concurrency.line_core.LineStep.{LineStep}
use Rattle.tower_limit.specs.declared.limit.concurrency.line_core.LineReply.{LineReply}
use Rattle.tower_limit.specs.contracts.limit.concurrency.service.ConcurrencyLimit.{the_row}

-- When the loan `r` ends, its last value is the inner service of `t`, a `ConcurrencyLimit`.
abbrev pub LendsInner : (S L : RattleType) → LatchOf L.Denot LineCore LineStep LineReply ℕ → MutBor (ConcurrencyLimitView S.Denot L.Denot) → MutBor S.Denot → Fml
LendsInner S L latch t r = Lends (the_row S L latch) S t r (λ w. record t.now { inner = w })
