-- A `Latency` records the time of a response.
use Rattle.std.proofs.Common.{ℕ, zero, suc, Option, Some, None, Result, Ok, Err, refl, sym, subst}
use Rattle.std.specs.Prelude.{MatchOption}
use Rattle.std.specs.declared.clone.Clone.{Ghosts as CloneOf}
use Rattle.futures.specs.declared.task.Poll.TheVariants.{Ready}
use Rattle.tower_base.specs.declared.service.Service.{Ghosts as ServiceOf}
use Rattle.tower_base.specs.declared.service.Steps.{Ghosts as StepsOf}
use Rattle.tower_base.specs.declared.service.Clock.{Ghosts as ClockOf}
use Rattle.tower_laws.specs.Latency.{Records, RecordsLatency}
use Rattle.tower_laws.specs.Responses.{EndsAfter}
use Rattle.tower_limit.specs.declared.hedge.record.Record.{Ghosts as RecordOf}
use Rattle.tower_retry.specs.Latency.{ResponseFutureView, Stepped, RecordsAt}

module _ {R S C Q A E F : Type 0} (s : ServiceOf S Q A E F) (f : StepsOf F (Result A E)) (clones : CloneOf R) (r : RecordOf R) (c : ClockOf C) where
  -- a clone, or its refusal
  abbrev Cloned : R → Option R → Type 0
  Cloned given rec = MatchOption rec (¬ (clones.is_infallible given)) (clones.is_clone given)

  records : (given : R) (answer : Result A E) (start : ℕ) (rec : Option R) (clock : C) (left : Option R) (after : C) → Cloned given rec
      → RecordsAt f r c (Ready answer) start rec clock left after → Records s f clones r c given answer start rec clock left after
  records given (Ok x) start (Some rec) clock (Some kept) after copied (read, recorded) = (copied, read, (kept, recorded, refl))
  records given (Ok x) start (Some rec) clock None after copied none = absurd none
  records given (Ok x) start None clock (Some kept) after copied none = absurd none
  records given (Ok x) start None clock None after refused same = (refused, refl, same)
  records given (Err e) start rec clock left after copied same = same

  ends : (polls : ℕ) (given : R) (future left : ResponseFutureView R F C) (answer : Result A E) → Cloned given future.rec → EndsAfter (Stepped f r c) polls future answer left
      → EndsAfter f.stepped polls future.inner answer left.inner × Records s f clones r c given answer future.start future.rec future.clock left.rec left.clock
  ends zero given future left answer copied step = (step.stepped, records given answer future.start future.rec future.clock left.rec left.clock copied step.records)
  ends (suc polls) given future left answer copied (next, step, rest) =
      let rec = step.records.0 in
      let clock = step.records.1 in
      let more = ends polls given next left answer (subst (Cloned given) (sym rec) copied) rest in (
        (next.inner, step.stepped, more.0),
        subst (λ (k : ℕ). Records s f clones r c given answer k future.rec future.clock left.rec left.clock) step.same
            (subst (λ (v : Option R). Records s f clones r c given answer next.start v future.clock left.rec left.clock) rec
            (subst (λ (v : C). Records s f clones r c given answer next.start next.rec v left.rec left.clock) clock more.1)),
      )

  pub records_latency : RecordsLatency s f clones r c
  records_latency old new request future left polls answer called ended =
      let here = ends polls old.rec future left answer called.rec ended in
      (here.0, subst (λ (k : ℕ). Records s f clones r c old.rec answer k future.rec future.clock left.rec left.clock) called.start here.1)
