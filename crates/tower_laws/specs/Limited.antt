-- Stacks that contain a `ConcurrencyLimit`, and the responses of that limit inside the stack's futures.
use Rattle.std.specs.Prelude.{ℕ, List, Option, None, Result, All, IfSome, is_some}
use Rattle.std.specs.List.{count_by}
use Rattle.futures.specs.declared.task.Poll.{Poll}
use Rattle.tower_base.specs.Drive.{State, Run, initial}
use Rattle.tower_base.specs.ServiceRun.{Relations}
use Rattle.tower_base.specs.declared.drive.Entry.{Entry}
use Rattle.tower_base.specs.declared.drive.Event.{Event}
use Rattle.tower_base.specs.declared.drive.Slot.{Slot}
use Rattle.tower_base.specs.declared.drive.Slot.TheVariants.{Live, Finished, Dropped}
use Rattle.tower_base.specs.declared.service.Service.{Ghosts as ServiceOf}
use Rattle.tower_latch.specs.declared.Latch.{Ghosts as LatchOf}
use Rattle.tower_latch.specs.declared.guarded.token.Token.{Token}
use Rattle.tower_laws.specs.ConcurrencyLimit.{Holds}
use Rattle.tower_limit.specs.Concurrency.{ConcurrencyLimitView, IsOf, ResponseFutureView, SemaphoreView}
use Rattle.tower_limit.specs.declared.limit.concurrency.line_core.LineCore.{LineCore}
use Rattle.tower_limit.specs.declared.limit.concurrency.line_core.LineStep.{LineStep}
use Rattle.tower_limit.specs.declared.limit.concurrency.line_core.LineReply.{LineReply}

-- the response inside the future that a slot keeps, if there is one
abbrev pub response_in : {F R : Type 0} → (F → Option R) → Slot F → Option R
response_in inside (Live future) = inside future
response_in inside (Finished future) = inside future
response_in inside Dropped = None

-- the number of the kept futures that have a response inside
abbrev pub living : {F R : Type 0} → (F → Option R) → List (Slot F) → ℕ
living inside slots = count_by (λ slot. is_some (response_in inside slot)) slots

module _ {L : Type 0} (l : LatchOf L LineCore LineStep LineReply ℕ) where
  -- The limit is over the semaphore: each token of the latch at which it asks is one of the semaphore's. A permit that it holds is one of the
  -- semaphore's too.
  pub record IsOver {S : Type 0} (semaphore : SemaphoreView L) (limit : ConcurrencyLimitView S L) : Type 0 where
    pub asks : (token : Token) → l.its limit.asking.semaphore.latch token → l.its semaphore.latch token
    pub permit : IfSome limit.permit (IsOf l semaphore)

  -- The response inside, if there is one, holds a permit of the semaphore.
  abbrev pub HoldsInside : {F : Type 0} → SemaphoreView L → Option (ResponseFutureView F L) → Type 0
  HoldsInside semaphore response = IfSome response (Holds l semaphore)

  -- Each poll and each call of the service keeps the limit inside it over its semaphore. After a call the response inside the future, if there is
  -- one, holds a permit of that semaphore. After each poll of the future it still holds one.
  pub record KeepsLimit {S Q A E F G : Type 0} (s : Relations S Q E F) (stepped : F → Poll (Result A E) → F → Type 0)
      (over : SemaphoreView L → S → Type 0) (inside : F → Option (ResponseFutureView G L)) : Type 0 where
    pub polls : (semaphore : SemaphoreView L) (old : S) (answer : Poll (Result (Unit {0}) E)) (new : S) → s.polled old answer new → over semaphore old → over semaphore new
    pub calls : (semaphore : SemaphoreView L) (old : S) (request : Q) (future : F) (new : S) → s.called old request future new → over semaphore old
        → HoldsInside semaphore (inside future) × over semaphore new
    pub steps : (semaphore : SemaphoreView L) (old : F) (answer : Poll (Result A E)) (new : F) → stepped old answer new
        → HoldsInside semaphore (inside old) → HoldsInside semaphore (inside new)

  -- In each slot the response inside the future, if there is one, holds a permit of the semaphore.
  abbrev pub AllHold : {F G : Type 0} → (F → Option (ResponseFutureView G L)) → SemaphoreView L → List (Slot F) → Type 0
  AllHold inside semaphore slots = All (λ slot. HoldsInside semaphore (response_in inside slot)) slots

  -- This holds after each run of a service that contains a limit over the semaphore. (`turned` is the relation of the closure of `drive`.)
  abbrev pub RunsHold : {S Q A E F G T U O : Type 0} → ServiceOf S Q A E F → (F → Poll (Result A E) → F → Type 0) → (O → T → U → O → Type 0)
      → (SemaphoreView L → S → Type 0) → (F → Option (ResponseFutureView G L)) → Type 0
  RunsHold {S} {Q} {A} {E} {F} {G} {T} {U} {O} s stepped turned over inside = (semaphore : SemaphoreView L) (service : S) (outside : O) (events : List (Event Q T))
      (entries : List (Entry A E U)) (last : State S F O) → over semaphore service → Run s stepped turned (initial service outside) events entries last
      → AllHold inside semaphore last.futures
