-- After a poll that returns `Ok` there is a permit, and the inner service is ready.
use Rattle.std.specs.Prelude.{ℕ, Result, Ok, Err, IsSome, refl}
use Rattle.std.specs.declared.alloc.AllocError.{AllocError}
use Rattle.futures.specs.declared.task.Poll.{Poll}
use Rattle.futures.specs.declared.task.Poll.TheVariants.{Ready, Pending}
use Rattle.tower_base.specs.AnswersLemmas.{answered_ok}
use Rattle.tower_latch.specs.declared.Latch.{Ghosts as LatchOf}
use Rattle.tower_base.specs.declared.service.Service.{Ghosts as ServiceOf}
use Rattle.tower_limit.specs.Concurrency.{PermitView, ConcurrencyLimitView, Polled, AfterPermit}
use Rattle.tower_limit.specs.declared.limit.concurrency.error.Error.TheVariants.{Inner}
use Rattle.tower_limit.specs.declared.limit.concurrency.line_core.LineCore.{LineCore}
use Rattle.tower_limit.specs.declared.limit.concurrency.line_core.LineStep.{LineStep}
use Rattle.tower_limit.specs.declared.limit.concurrency.line_core.LineReply.{LineReply}

module _ {L : Type 0} (l : LatchOf L LineCore LineStep LineReply ℕ) where
  module _ {S Q A E F : Type 0} (s : ServiceOf S Q A E F) where
    went : (got : Poll (Result (PermitView L) AllocError)) (old new : ConcurrencyLimitView S L) → ((v w : S) → s.polled v (Ready (Ok tt)) w → s.ready w)
        → AfterPermit l s got old (Ready (Ok tt)) new → IsSome new.permit × s.ready new.inner
    went (Ready (Ok permit)) old new law goes =
        (rw goes.0 refl, law old.inner new.inner (rw (← answered_ok Inner goes.1.0 tt goes.1.2) goes.1.1))
    went (Ready (Err e)) old new law goes = absurd (cc)
    went Pending old new law goes = absurd (cc)

  pub ready_after : {S Q A E F : Type 0} {s : ServiceOf S Q A E F} (old new : ConcurrencyLimitView S L) → ((v w : S) → s.polled v (Ready (Ok tt)) w → s.ready w)
      → Polled l s old (Ready (Ok tt)) new → IsSome new.permit × s.ready new.inner
  ready_after {s = s} old new law p = went s p.got old new law p.goes
