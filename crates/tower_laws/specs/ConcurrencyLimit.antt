-- What a `ConcurrencyLimit` keeps to, over its runs.
use Rattle.std.specs.Prelude.{All, ◌≡◌, ℕ, List, Some, Result}
use Rattle.futures.specs.declared.task.Poll.{Poll}
use Rattle.tower_base.specs.ServiceRun.{Relations, Transition, ServiceRun}
use Rattle.tower_base.specs.declared.service.Steps.{Ghosts as StepsOf}
use Rattle.tower_latch.specs.declared.Latch.{Ghosts as LatchOf}
use Rattle.tower_laws.specs.Runs.{futures}
use Rattle.tower_limit.specs.Concurrency.{ConcurrencyLimitView, IsOf, PermitView, ResponseFutureView, SemaphoreView, Stepped, initial}
use Rattle.tower_limit.specs.declared.limit.concurrency.error.Error.{Error}
use Rattle.tower_limit.specs.declared.limit.concurrency.line_core.LineCore.{LineCore}
use Rattle.tower_limit.specs.declared.limit.concurrency.line_core.LineStep.{LineStep}
use Rattle.tower_limit.specs.declared.limit.concurrency.line_core.LineReply.{LineReply}

module _ {L : Type 0} (l : LatchOf L LineCore LineStep LineReply ℕ) where
  -- The response holds a permit of the semaphore.
  abbrev pub Holds : {F : Type 0} → SemaphoreView L → ResponseFutureView F L → Type 0
  Holds semaphore response = (permit : PermitView L) × (response.permit ≡ Some permit) × IsOf l semaphore permit

  -- In each run of a limit over the semaphore, the response of each call holds one of its permits.
  abbrev pub ResponsesHold : {S Q E F : Type 0} → Relations (ConcurrencyLimitView S L) Q (Error E) (ResponseFutureView F L) → Type 0
  ResponsesHold {S} {Q} {E} {F} limit = (semaphore : SemaphoreView L) (inner : S) (last : ConcurrencyLimitView S L)
      (run : List (Transition (ConcurrencyLimitView S L) Q (Error E) (ResponseFutureView F L))) → ServiceRun limit (initial inner semaphore) run last → All (Holds semaphore) (futures run)

  -- It holds it still after each poll, the one with its answer too.
  abbrev pub PollsKeep : {A E F : Type 0} → StepsOf F (Result A E) → Type 0
  PollsKeep {A} {E} {F} f = (semaphore : SemaphoreView L) (old new : ResponseFutureView F L) (answer : Poll (Result A (Error E))) → Stepped f old answer new
      → Holds semaphore old → Holds semaphore new
