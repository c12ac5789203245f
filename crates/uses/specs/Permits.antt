-- A run of a limit, each of whose responses holds a permit.
use Rattle.std.specs.Prelude.{ℕ, List, All, Result}
use Rattle.futures.specs.declared.task.Poll.{Poll}
use Rattle.tower.specs.WaitRuns.{Ran}
use Rattle.tower_base.specs.declared.service.Service.{Ghosts as ServiceOf}
use Rattle.tower_latch.specs.declared.Latch.{Ghosts as LatchOf}
use Rattle.tower_laws.specs.ConcurrencyLimit.{Holds}
use Rattle.tower_laws.specs.Runs.{futures}
use Rattle.tower_limit.specs.Concurrency.{ConcurrencyLimitView, ResponseFutureView}
use Rattle.tower_limit.specs.declared.limit.concurrency.error.Error.{Error}
use Rattle.tower_limit.specs.declared.limit.concurrency.line_core.LineCore.{LineCore}
use Rattle.tower_limit.specs.declared.limit.concurrency.line_core.LineStep.{LineStep}
use Rattle.tower_limit.specs.declared.limit.concurrency.line_core.LineReply.{LineReply}

module _ {S L Q A E F : Type 0} (l : LatchOf L LineCore LineStep LineReply ℕ)
    (s : ServiceOf (ConcurrencyLimitView S L) Q A (Error E) (ResponseFutureView F L)) where
  -- The limit ran from `old` to `new`. Each of the requests, in order, was made of it once, or, since its readiness failed, not at all.
  -- Each response held a permit of the limit's semaphore.
  abbrev pub RanWithPermits : List Q → ConcurrencyLimitView S L → ConcurrencyLimitView S L → Type 0
  RanWithPermits requests old new = (ran : Ran s requests old new) × All (Holds l old.asking.semaphore) (futures ran.transitions)
