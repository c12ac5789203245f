-- The law of a limit, of a run from a new one.
use Rattle.std.proofs.Common.{◌≡◌, ℕ, List, All, subst}
use Rattle.tower_base.specs.Projection.{RunInside}
use Rattle.tower_base.specs.ServiceRun.{Relations, ServiceRun}
use Rattle.tower_latch.specs.declared.Latch.{Ghosts as LatchOf}
use Rattle.tower_laws.specs.ConcurrencyLimit.{Holds, ResponsesHold}
use Rattle.tower_laws.specs.Runs.{futures}
use Rattle.tower_limit.specs.Concurrency.{ConcurrencyLimitView, ResponseFutureView, initial}
use Rattle.tower_limit.specs.declared.limit.concurrency.error.Error.{Error}
use Rattle.tower_limit.specs.declared.limit.concurrency.line_core.LineCore.{LineCore}
use Rattle.tower_limit.specs.declared.limit.concurrency.line_core.LineStep.{LineStep}
use Rattle.tower_limit.specs.declared.limit.concurrency.line_core.LineReply.{LineReply}

module _ {S L Q E F : Type 0} (l : LatchOf L LineCore LineStep LineReply ℕ) {r : Relations (ConcurrencyLimitView S L) Q (Error E) (ResponseFutureView F L)}
    {Has : List Q → Type 0} where
  pub held : ResponsesHold l r → (old new : ConcurrencyLimitView S L) → old ≡ initial old.inner old.asking.semaphore → (ran : RunInside r Has old new)
      → All (Holds l old.asking.semaphore) (futures ran.transitions)
  held law old new is ran =
      law old.asking.semaphore old.inner new ran.transitions (subst (λ (limit : ConcurrencyLimitView S L). ServiceRun r limit ran.transitions new) is ran.run)
