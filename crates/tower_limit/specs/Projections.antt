-- What each middleware passes on to its inner service.
use Rattle.std.proofs.Common.{ℕ, IsSome, List, [], refl, Result, Ok, Err}
use Rattle.std.specs.declared.alloc.AllocError.{AllocError}
use Rattle.futures.specs.declared.task.Poll.{Poll}
use Rattle.futures.specs.declared.task.Poll.TheVariants.{Ready, Pending}
use Rattle.tower_base.specs.ServiceRun.{Relations, relations, Action}
use Rattle.tower_base.specs.Projection.{Once, RunInside, Projects}
use Rattle.tower_base.specs.ProjectionLemmas.{forwards, no_action, one_poll, one_call}
use Rattle.tower_latch.specs.declared.Latch.{Ghosts as LatchOf}
use Rattle.tower_base.specs.declared.service.Service.{Ghosts as ServiceOf}
use Rattle.tower_limit.specs.Completion.{TrackCompletionFutureView}
use Rattle.tower_limit.specs.Concurrency as C
use Rattle.tower_limit.specs.Constant as K
use Rattle.tower_limit.specs.PendingRequests as P
use Rattle.tower_limit.specs.declared.limit.concurrency.error.Error.{Error as LimitError}
use Rattle.tower_limit.specs.declared.limit.concurrency.line_core.LineCore.{LineCore}
use Rattle.tower_limit.specs.declared.limit.concurrency.line_core.LineStep.{LineStep}
use Rattle.tower_limit.specs.declared.limit.concurrency.line_core.LineReply.{LineReply}
use Rattle.tower_limit.specs.declared.load.pending_requests.count_core.CountCore.{CountCore}
use Rattle.tower_limit.specs.declared.load.pending_requests.count_core.CountStep.{CountStep}
use Rattle.tower_limit.specs.declared.load.pending_requests.count_core.CountReply.{CountReply}

module _ {S Q A E F : Type 0} (s : ServiceOf S Q A E F) where
  module _ {L : Type 0} (l : LatchOf L LineCore LineStep LineReply ℕ) where
    abbrev limit_of : Relations (C.ConcurrencyLimitView S L) Q (LimitError E) (C.ResponseFutureView F L)
    limit_of = record { ready = λ v. IsSome v.permit × s.ready v.inner; polled = C.Polled l s; called = C.Called s }

    went : {Has : List Q → Type 0} (got : Poll (Result (C.PermitView L) AllocError)) (old : C.ConcurrencyLimitView S L) (answer : Poll (Result (Unit {0}) (LimitError E)))
        (new : C.ConcurrencyLimitView S L) → C.AfterPermit l s got old answer new → Has [] → RunInside (relations s) Has old.inner new.inner
    went (Ready (Ok permit)) old answer new goes has = one_poll (relations s) old.inner new.inner goes.1.0 goes.1.1 has
    went (Ready (Err e)) old answer new goes has = no_action (relations s) old.inner new.inner goes.1 has
    went Pending old answer new goes has = no_action (relations s) old.inner new.inner goes.1 has

    pub concurrency_limit : Projects limit_of (relations s) (λ v. v.inner) Once
    concurrency_limit old (Action.poll answer) new takes = went takes.got old answer new takes.goes refl
    concurrency_limit old (Action.call request future) new takes = one_call (relations s) old.inner new.inner request future.response takes.1.ready takes.1.called refl

  module _ {M : Type 0} where
    abbrev constant_of : Relations (K.ConstantView S M) Q E F
    constant_of = record { ready = λ k. s.ready k.inner; polled = K.Polled s; called = K.Called s }

    pub constant : Projects constant_of (relations s) (λ k. k.inner) Once
    constant = forwards constant_of (relations s) (λ k. k.inner) (λ old new answer p. (answer, p.polled)) (λ old new request future h. (future, h.ready, h.called))

  module _ {L N : Type 0} (l : LatchOf L CountCore CountStep CountReply (Unit {0})) where
    abbrev pending_of : Relations (P.PendingRequestsView S L N) Q E (TrackCompletionFutureView F N (P.HandleView L))
    pending_of = record { ready = λ p. s.ready p.service; polled = P.Polled l s; called = P.Called l s }

    pub pending_requests : Projects pending_of (relations s) (λ p. p.service) Once
    pending_requests = forwards pending_of (relations s) (λ p. p.service) (λ old new answer p. (answer, p.polled)) (λ old new request future h. (future.future, h.ready, h.called))
