-- A `Delay` calls its service after the delay, once that is ready.
use Rattle.std.proofs.Common.{◌≡◌, inl, inr, ⊎_elim, ℕ, zero, suc, ◌+◌, ◌≤◌, ◌<◌, Bool, if◌then◌else◌, Option, Some, None, Result, Ok, Err, refl, ap, ◌∙◌, subst, arith}
use Rattle.std.proofs.lemmas.Bool.Decides.{leb_tells}
use Rattle.std.specs.declared.clone.Clone.{Ghosts as CloneOf}
use Rattle.futures.specs.declared.task.Poll.{Poll}
use Rattle.futures.specs.declared.task.Poll.TheVariants.{Ready, Pending}
use Rattle.tower_base.specs.Sleep.{SleepView, due}
use Rattle.tower_base.specs.declared.service.Clock.{Ghosts as ClockOf}
use Rattle.tower_base.specs.declared.service.Service.{Ghosts as ServiceOf}
use Rattle.tower_laws.proofs.Responses.{Forwards, answered_pending, answered_ready, at_once, carries}
use Rattle.tower_laws.specs.Delay.{CallAfter, CallOnceReady, CallsAfterDelay}
use Rattle.tower_laws.specs.Responses.{Comes}
use Rattle.tower_retry.specs.Delay.{Stepped}
use Rattle.tower_retry.specs.declared.hedge.delay.error.Error.{Error}
use Rattle.tower_retry.specs.declared.hedge.delay.error.Error.TheVariants.{Inner, Memory}
use Rattle.tower_retry.specs.declared.hedge.delay.policy.Policy.{Ghosts as PolicyOf}
use Rattle.tower_retry.specs.declared.hedge.delay.state.State.{State}
use Rattle.tower_retry.specs.declared.hedge.delay.state.State.TheVariants.{Delaying, InFlight, NoClone}
use Rattle.tower_util.specs.Oneshot.{Stepped as OneshotStepped}
use Rattle.tower_util.specs.declared.util.oneshot.Oneshot.{Oneshot}
use Rattle.tower_util.specs.declared.util.oneshot.State.{State as OneshotState}
use Rattle.tower_util.specs.declared.util.oneshot.State.TheVariants.{NotReady, InFlight as Responding}

due_ready : (deadline moment : ℕ) (x : Unit {0}) → Ready x ≡ due deadline moment → deadline ≤ moment
due_ready deadline moment x e = ⊎_elim (λ past. past.1)
    (λ before. absurd (cc (e ∙ ap (λ (b : Bool). if b then Ready tt else Pending) before.0))) (leb_tells deadline moment)

due_pending : (deadline moment : ℕ) → Pending ≡ due deadline moment → moment < deadline
due_pending deadline moment e = ⊎_elim (λ past. absurd (cc (e ∙ ap (λ (b : Bool). if b then Ready tt else Pending) past.0)))
    (λ before. before.1) (leb_tells deadline moment)

module _ {S Q A E F : Type 0} (s : ServiceOf S Q A E F) (stepped : F → Poll (Result A E) → F → Type 0) where
  -- a `Oneshot`

  abbrev Oneshots : ℕ → OneshotState S Q F → Option (Result A E) → Type 0
  Oneshots = Comes (OneshotStepped s stepped)

  response : (polls : ℕ) (future : F) (answer : Option (Result A E)) → Oneshots polls (Responding future) answer → Comes stepped polls future answer
  response zero future (Some answer) (last, (left, step, same)) = (left, step)
  response zero future None here = tt
  response (suc polls) future answer (next, (left, step, same), rest) =
      (left, step, response polls left answer (subst (λ (v : OneshotState S Q F). Oneshots polls v answer) same rest))

  -- a pending poll of readiness before
  later : (service left : S) (request : Q) (polls : ℕ) (answer : Option (Result A E)) → s.polled service Pending left → CallOnceReady s stepped left request polls answer
      → CallOnceReady s stepped service request (suc polls) answer
  later service left request polls answer polled (inl ((last, ready), is)) = inl ((last, (left, polled, ready)), is)
  later service left request polls answer polled (inr (inl (error, last, ready, is))) = inr (inl (error, last, (left, polled, ready), is))
  later service left request polls answer polled (inr (inr (before, after, sum, willing, ready, call))) =
      inr (inr (suc before, after, omega arith, willing, (left, polled, ready), call))

  pub oneshot : (polls : ℕ) (service : S) (request : Q) (answer : Option (Result A E)) → Oneshots polls (NotReady service request) answer
      → CallOnceReady s stepped service request polls answer
  oneshot zero service request None here = inl ((service, refl), refl)
  oneshot zero service request (Some answer) (last, (Pending, left, polled, (is, same))) = absurd (cc (is))
  oneshot zero service request (Some answer) (last, (Ready (Err error), left, polled, (is, same))) = inr (inl (error, left, polled, cc (is)))
  oneshot zero service request (Some answer) (last, (Ready (Ok x), left, polled, (ready, (future, used, called, (after, step, same))))) =
      inr (inr (0, 0, refl, left, polled, record { ready = ready; response = future; left = used; called = called; comes = (after, step) }))
  oneshot (suc polls) service request answer (next, (Pending, left, polled, (is, same)), rest) =
      later service left request polls answer polled (oneshot polls left request answer (subst (λ (v : OneshotState S Q F). Oneshots polls v answer) same rest))
  oneshot (suc polls) service request answer (next, (Ready (Err error), left, polled, (is, same)), rest) = absurd (cc (is))
  oneshot (suc polls) service request answer (next, (Ready (Ok x), left, polled, (ready, (future, used, called, (after, step, same)))), rest) =
      inr (inr (
        0,
        suc polls,
        omega arith,
        left,
        polled,
        record {
          ready = ready;
          response = future;
          left = used;
          called = called;
          comes = (after, step, response polls after answer (subst (λ (v : OneshotState S Q F). Oneshots polls v answer) same rest));
        },
      ))

  module _ {C : Type 0} (c : ClockOf C) where
    abbrev Future : Type 0
    Future = State (SleepView C) S Q (Oneshot S Q A E F)

    abbrev Given : ℕ → Future → Option (Result A (Error E)) → Type 0
    Given = Comes (Stepped s stepped c)

    abbrev Polls : Oneshot S Q A E F → Poll (Result A E) → Oneshot S Q A E F → Type 0
    Polls old answer new = OneshotStepped s stepped old.state answer new.state

    forwards : Forwards Polls (Stepped s stepped c) Inner (λ (call : Oneshot S Q A E F). InFlight call)
    forwards call (Ready output) new step = (step.inner, step.left, step.stepped, step.answers, tt)
    forwards call Pending new step = (step.inner, step.left, step.stepped, step.answers, step.after)

    -- what comes of a `Oneshot` comes of its state
    of_state : (polls : ℕ) (call : Oneshot S Q A E F) (answer : Option (Result A E)) → Comes Polls polls call answer → Oneshots polls call.state answer
    of_state zero call (Some answer) (last, step) = (last.state, step)
    of_state zero call None here = tt
    of_state (suc polls) call answer (next, step, rest) = (next.state, step, of_state polls next answer rest)

    module _ {P : Type 0} (p : PolicyOf P Q) (clones : CloneOf S) where
      abbrev Calls : C → ℕ → S → Q → ℕ → Option (Result A (Error E)) → Type 0
      Calls = CallAfter s stepped p clones c

      -- a reading before the deadline before
      sleeps : (clock next : C) (deadline : ℕ) (service : S) (request : Q) (polls : ℕ) (output : Option (Result A (Error E))) → c.read clock next → c.reading next < deadline
          → Calls next deadline service request polls output → Calls clock deadline service request (suc polls) output
      sleeps clock next deadline service request polls output read early (inl ((last, before), is)) = inl ((last, (next, read, early, before)), is)
      sleeps clock next deadline service request polls output read early (inr (before, after, sum, (last, past, waits, reads, late), call)) =
          inr (suc before, after, omega arith, (last, past, (next, read, early, waits), reads, late), call)

      delaying : (polls : ℕ) (sleep : SleepView C) (service : S) (request : Q) (output : Option (Result A (Error E))) → Given polls (Delaying sleep service request) output
          → Calls sleep.clock sleep.deadline service request polls output
      delaying zero sleep service request None here = inl ((sleep.clock, refl), refl)
      delaying zero sleep service request (Some output) (last, (Pending, left, slept, (is, same))) = absurd (cc (is))
      delaying zero sleep service request (Some output) (last, (Ready x, left, slept, step)) =
          let found = answered_ready Inner step.inner output step.answers in
          let polled : Oneshots 0 (NotReady service request) (Some found.0) =
          (step.left.state, subst (λ (q : Poll (Result A E)). OneshotStepped s stepped (NotReady service request) q step.left.state) found.1 step.stepped) in
          inr (
            0,
            0,
            refl,
            (sleep.clock, left.clock, refl, slept.read, due_ready sleep.deadline (c.reading left.clock) x slept.answers),
            (Some found.0, oneshot 0 service request (Some found.0) polled, found.2),
          )
      delaying (suc polls) sleep service request output (next, (Pending, left, slept, (is, same)), rest) =
          let more = delaying polls left service request output (subst (λ (v : Future). Given polls v output) same rest) in
          sleeps sleep.clock left.clock sleep.deadline service request polls output slept.read (due_pending sleep.deadline (c.reading left.clock) slept.answers)
          (subst (λ (k : ℕ). Calls left.clock k service request polls output) slept.same more)
      delaying (suc polls) sleep service request output (next, (Ready x, left, slept, step), rest) =
          let more = carries Polls (Stepped s stepped c) Inner (λ (call : Oneshot S Q A E F). InFlight call) forwards polls step.left output
          (subst (λ (v : Future). Given polls v output) step.after rest) in
          let polled : Oneshots (suc polls) (NotReady service request) more.0 = (
            step.left.state,
            subst (λ (q : Poll (Result A E)). OneshotStepped s stepped (NotReady service request) q step.left.state) (answered_pending Inner step.inner step.answers) step.stepped,
            of_state polls step.left more.0 more.1,
          ) in
          inr (
            0,
            suc polls,
            omega arith,
            (sleep.clock, left.clock, refl, slept.read, due_ready sleep.deadline (c.reading left.clock) x slept.answers),
            (more.0, oneshot (suc polls) service request more.0 polled, more.2),
          )

      pub calls_after_delay : CallsAfterDelay s stepped p clones c
      calls_after_delay old new request (Delaying sleep service kept) polls output called comes =
          let begins = called.begins in
          let calls = delaying polls sleep service kept output comes in
          let due : Calls sleep.clock (c.reading sleep.clock + called.delay) service kept polls output = subst (λ (k : ℕ). Calls sleep.clock k service kept polls output) begins.1 calls in
          inr (
            called.delay,
            called.delayed,
            service,
            begins.2,
            begins.0.0,
            sleep.clock,
            begins.0.1,
            begins.0.2,
            subst (λ (q : Q). Calls sleep.clock (c.reading sleep.clock + called.delay) service q polls output) begins.3 due,
          )
      calls_after_delay old new request (InFlight call) polls output called comes = absurd called.begins
      calls_after_delay old new request NoClone polls output called comes =
          inl (called.begins, at_once (Stepped s stepped c) NoClone (Err Memory) (λ answer new step. step.0) polls output comes)
