-- Each response of a limit holds a permit of the limit's semaphore.
use Rattle.std.proofs.Common.{All, ◌≡◌, ℕ, List, [], ◌∷◌, ◌++◌, Option, Some, None, Result, IsSome, unwrap_or, sym, ap, subst, ◌∙◌}
use Rattle.std.proofs.lemmas.List.Elements.{All-cons, All-head, All-nil, All-tail}
use Rattle.tower_base.specs.ServiceRun.{Relations, Action, Transition, Takes, ServiceRun}
use Rattle.tower_base.specs.declared.service.Service.{Ghosts as ServiceOf}
use Rattle.tower_base.specs.declared.service.Steps.{Ghosts as StepsOf}
use Rattle.tower_latch.specs.declared.Latch.{Ghosts as LatchOf}
use Rattle.tower_laws.specs.ConcurrencyLimit.{Holds, PollsKeep, ResponsesHold}
use Rattle.tower_laws.specs.Limited.{IsOver}
use Rattle.tower_laws.specs.LimitedLemmas.{calls, polls}
use Rattle.tower_laws.specs.Runs.{futures}
use Rattle.tower_limit.specs.Concurrency.{Called, ConcurrencyLimitView, IsOf, PermitView, Polled, ResponseFutureView, SemaphoreView, initial}
use Rattle.tower_limit.specs.declared.limit.concurrency.error.Error.{Error}
use Rattle.tower_limit.specs.declared.limit.concurrency.line_core.LineCore.{LineCore}
use Rattle.tower_limit.specs.declared.limit.concurrency.line_core.LineStep.{LineStep}
use Rattle.tower_limit.specs.declared.limit.concurrency.line_core.LineReply.{LineReply}

module _ {S Q A E F L : Type 0} (l : LatchOf L LineCore LineStep LineReply ℕ) (s : ServiceOf S Q A E F) where
  abbrev limit_of : Relations (ConcurrencyLimitView S L) Q (Error E) (ResponseFutureView F L)
  limit_of = record { ready = λ v. IsSome v.permit × s.ready v.inner; polled = Polled l s; called = Called s }

module _ {L : Type 0} (l : LatchOf L LineCore LineStep LineReply ℕ) (semaphore : SemaphoreView L) {S Q A E F : Type 0} (s : ServiceOf S Q A E F) where
  goes_on : (old : ConcurrencyLimitView S L) (action : Action Q (Error E) (ResponseFutureView F L)) (left : ConcurrencyLimitView S L)
      (rest : List (Transition (ConcurrencyLimitView S L) Q (Error E) (ResponseFutureView F L))) → Takes (limit_of l s) old action left → IsOver l semaphore old
      → (IsOver l semaphore left → All (Holds l semaphore) (futures rest)) → All (Holds l semaphore) (futures (record { action = action; left = left } ∷ rest))
  goes_on old (Action.poll answer) left rest takes over later = later (polls l semaphore s old answer left takes over)
  goes_on old (Action.call request future) left rest takes over later =
      let here = calls l semaphore s old request future left takes.1 over in All-cons (Holds l semaphore) future (futures rest) here.0 (later here.1)

  each : (old new : ConcurrencyLimitView S L) (run : List (Transition (ConcurrencyLimitView S L) Q (Error E) (ResponseFutureView F L))) → ServiceRun (limit_of l s) old run new → IsOver l semaphore old
      → All (Holds l semaphore) (futures run)
  each old new [] run over = All-nil (Holds l semaphore)
  each old new (first ∷ rest) run over = goes_on old first.action first.left rest run.0 over (each first.left new rest run.1)

module _ {L : Type 0} (l : LatchOf L LineCore LineStep LineReply ℕ) {S Q A E F : Type 0} (s : ServiceOf S Q A E F) where
  pub responses_hold : ResponsesHold l (limit_of l s)
  responses_hold semaphore inner last run runs = each l semaphore s (initial inner semaphore) last run runs (record { asks = λ token its. its; permit = tt })

module _ {L : Type 0} (l : LatchOf L LineCore LineStep LineReply ℕ) {A E F : Type 0} (f : StepsOf F (Result A E)) where
  pub polls_keep : PollsKeep l f
  polls_keep semaphore old new answer step held = (held.0, step.same ∙ held.1, held.2)

-- what holds of all holds of all but the last, and of the last
module _ {X : Type 0} (P : X → Type 0) where
  pub all_before : (xs : List X) (x : X) → All P (xs ++ x ∷ []) → All P xs
  all_before [] x h = All-nil P
  all_before (y ∷ xs) x h = All-cons P y xs (All-head P y (xs ++ x ∷ []) h) (all_before xs x (All-tail P y (xs ++ x ∷ []) h))

  pub all_last : (xs : List X) (x : X) → All P (xs ++ x ∷ []) → P x
  all_last [] x h = All-head P x [] h
  all_last (y ∷ xs) x h = all_last xs x (All-tail P y (xs ++ x ∷ []) h)

module _ {L F : Type 0} (l : LatchOf L LineCore LineStep LineReply ℕ) (semaphore : SemaphoreView L) (response : ResponseFutureView F L) (held : Holds l semaphore response) where
  pub some_permit : (got : Option (PermitView L)) → got ≡ response.permit → got ≡ None → ⊥
  some_permit got is none = let there = held.1 in cc

  pub permit_of : (got : Option (PermitView L)) (permit : PermitView L) → got ≡ response.permit → got ≡ Some permit → IsOf l semaphore permit
  permit_of got permit is some =
      let same : Some held.0 ≡ Some permit = sym held.1 ∙ sym is ∙ some in
      subst (IsOf l semaphore) (ap (λ o. unwrap_or o held.0) same) held.2
