-- A `Timeout` answers in time.
use Rattle.std.proofs.Common.{◌≡◌, ℕ, zero, suc, Bool, if◌then◌else◌, Result, Ok, Err, refl, ap, sym, ◌∙◌, subst, ⊎_elim}
use Rattle.std.proofs.lemmas.Bool.Decides.{leb_tells}
use Rattle.futures.specs.declared.task.Poll.{Poll}
use Rattle.futures.specs.declared.task.Poll.TheVariants.{Ready, Pending}
use Rattle.tower_base.specs.declared.service.Service.{Ghosts as ServiceOf}
use Rattle.tower_base.specs.declared.service.Steps.{Ghosts as StepsOf}
use Rattle.tower_base.specs.declared.service.Clock.{Ghosts as ClockOf}
use Rattle.tower_laws.specs.Responses.{PendingFor}
use Rattle.tower_laws.specs.Timeout.{InTime, AnswersInTime}
use Rattle.tower_ware.specs.Timeout.{ResponseFutureView, Stepped, Reads, answer_of}
use Rattle.tower_ware.specs.declared.timeout.error.Error.{Error}
use Rattle.tower_ware.specs.declared.timeout.error.Error.TheVariants.{Elapsed}

module _ {S C Q A E F : Type 0} (s : ServiceOf S Q A E F) (f : StepsOf F (Result A E)) (c : ClockOf C) where
  pending_inside : (inner : Poll (Result A E)) (deadline moment : ℕ) → Pending ≡ answer_of inner deadline moment → inner ≡ Pending
  pending_inside (Ready (Ok x)) deadline moment e = cc
  pending_inside (Ready (Err x)) deadline moment e = cc
  pending_inside Pending deadline moment e = refl

  -- Pending polls poll the response as often, and preserve the deadline.
  waits : (polls : ℕ) (first last : ResponseFutureView F C) → PendingFor (Stepped f c) polls first last
      → PendingFor f.stepped polls first.response last.response × (last.deadline ≡ first.deadline)
  waits zero first last here = (ap (λ v. v.response) here, ap (λ v. v.deadline) here)
  waits (suc polls) first last (next, step, rest) =
      let pending = pending_inside step.inner first.deadline (c.reading next.clock) step.answers in
      let more = waits polls next last rest in
      ((next.response, subst (λ p. f.stepped first.response p next.response) pending step.stepped, more.0), more.1 ∙ step.same)

  in_time : (inner : Poll (Result A E)) (deadline : ℕ) (old new : C) (answer : Poll (Result A (Error E))) → answer ≡ answer_of inner deadline (c.reading new)
      → Reads (c.read old new) (new ≡ old) inner → InTime s f c deadline old new inner answer
  in_time (Ready (Ok x)) deadline old new answer e read = e
  in_time (Ready (Err x)) deadline old new answer e read = e
  in_time Pending deadline old new answer e read = ⊎_elim
      (λ past. subst (λ p. InTime s f c deadline old new Pending p) (sym (e ∙ ap (λ (b : Bool). if b then Ready (Err Elapsed) else Pending) past.0)) (read, past.1, refl))
      (λ before. subst (λ p. InTime s f c deadline old new Pending p) (sym (e ∙ ap (λ (b : Bool). if b then Ready (Err Elapsed) else Pending) before.0)) (read, before.1))
      (leb_tells deadline (c.reading new))

  pub answers_in_time : AnswersInTime s f c
  answers_in_time timeout left request future old new polls answer called waited step =
      let before = waits polls future old waited in
      let deadline = before.1 ∙ called.deadline in (
        before.0,
        step.inner,
        step.stepped,
        subst (λ d. InTime s f c d old.clock new.clock step.inner answer) deadline
            (in_time step.inner old.deadline old.clock new.clock answer step.answers step.read),
      )
