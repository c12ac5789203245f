-- A `Metered` counts each answer once.
use Rattle.std.proofs.Common.{◌≡◌, ℕ, zero, suc, Option, Some, None, Result, refl, sym, subst}
use Rattle.futures.specs.declared.task.Poll.TheVariants.{Ready}
use Rattle.tower_base.specs.declared.service.Service.{Ghosts as ServiceOf}
use Rattle.tower_base.specs.declared.service.Steps.{Ghosts as StepsOf}
use Rattle.tower_base.specs.declared.service.Clock.{Ghosts as ClockOf}
use Rattle.tower_latch.specs.declared.Latch.{Ghosts as LatchOf}
use Rattle.tower_meter.specs.Laws.{EndsAfter, AnswersOnce, CountsAnswer}
use Rattle.tower_meter.specs.Metered.{ResponseFutureView, Counts, Stepped}
use Rattle.tower_meter.specs.declared.bounds.Bounds.{Bounds}
use Rattle.tower_meter.specs.declared.meter_core.MeterCore.{MeterCore}
use Rattle.tower_meter.specs.declared.meter_core.MeterStep.{MeterStep}
use Rattle.tower_meter.specs.declared.meter_core.MeterReply.{MeterReply}

module _ {S L C K Q A E F : Type 0} (l : LatchOf L MeterCore MeterStep MeterReply Bounds) (c : ClockOf C) (s : ServiceOf S Q A E F) (f : StepsOf F (Result A E))
    (of : K → Result A E → ℕ → Type 0) where
  once : (kinds : K) (answer : Result A E) (start : ℕ) (share : Option L) (clock : C) (held : Option L) (after : C)
      → Counts l c f of kinds start (Ready answer) share clock held after → AnswersOnce l c s f of kinds answer start share clock held after
  once kinds answer start (Some share) clock held after counts = counts
  once kinds answer start None clock held after counts = counts

  ends : (polls : ℕ) (future left : ResponseFutureView F L C K) (answer : Result A E) → EndsAfter (Stepped l c f of) polls future answer left
      → EndsAfter f.stepped polls future.inner answer left.inner
      × AnswersOnce l c s f of future.kinds answer future.start future.share future.clock left.share left.clock
  ends zero future left answer step = (step.stepped, once future.kinds answer future.start future.share future.clock left.share left.clock step.counts)
  ends (suc polls) future left answer (next, step, rest) =
      let more = ends polls next left answer rest in (
        (next.inner, step.stepped, more.0),
        subst (λ (v : Option L). AnswersOnce l c s f of future.kinds answer future.start v future.clock left.share left.clock) step.counts.0
            (subst (λ (v : C). AnswersOnce l c s f of future.kinds answer future.start next.share v left.share left.clock) step.counts.1
            (subst (λ (k : ℕ). AnswersOnce l c s f of future.kinds answer k next.share next.clock left.share left.clock) step.start
            (subst (λ (k : K). AnswersOnce l c s f of k answer next.start next.share next.clock left.share left.clock) step.kinds more.1))),
      )

  pub counts_answer : CountsAnswer l c s f of
  counts_answer old new request future left polls answer called ended =
      let here = ends polls future left answer ended in (
        here.0,
        subst (λ (k : K). AnswersOnce l c s f of k answer (c.reading new.clock) future.share future.clock left.share left.clock) called.kinds
            (subst (λ (k : ℕ). AnswersOnce l c s f of future.kinds answer k future.share future.clock left.share left.clock) called.start here.1),
      )
