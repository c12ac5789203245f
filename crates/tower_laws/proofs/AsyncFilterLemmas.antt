-- The response of an `AsyncFilter` is checked first.
use Rattle.std.proofs.Common.{◌≡◌, inl, inr, ℕ, zero, suc, Option, Some, None, Result, Ok, Err, refl, subst, arith}
use Rattle.futures.specs.declared.task.Poll.{Poll}
use Rattle.futures.specs.declared.task.Poll.TheVariants.{Ready, Pending}
use Rattle.std.specs.declared.clone.Clone.{Ghosts as CloneOf}
use Rattle.tower_base.specs.declared.service.Service.{Ghosts as ServiceOf}
use Rattle.tower_base.specs.declared.service.Steps.{Ghosts as StepsOf}
use Rattle.tower_laws.proofs.Responses.{Forwards, answered_pending, answered_ready, at_once, carries}
use Rattle.tower_laws.specs.AsyncFilter.{Checked, ChecksFirst}
use Rattle.tower_laws.specs.Responses.{Comes, wrapped}
use Rattle.tower_ware.specs.Filter.{AsyncResponseFutureStepped}
use Rattle.tower_ware.specs.declared.filter.error.Error.{Error}
use Rattle.tower_ware.specs.declared.filter.error.Error.TheVariants.{Inner, Memory}
use Rattle.tower_ware.specs.declared.filter.predicate.AsyncPredicate.{Ghosts as AsyncPredicateOf}
use Rattle.tower_ware.specs.declared.filter.state.AsyncState.{AsyncState}
use Rattle.tower_ware.specs.declared.filter.state.AsyncState.TheVariants.{Check, InFlight, NoClone}

module _ {S Q A E F P C : Type 0} (s : ServiceOf S Q A E F) (f : StepsOf F (Result A E)) (c : StepsOf C (Result Q P)) where
  abbrev Given : ℕ → AsyncState C S F → Option (Result A (Error E P)) → Type 0
  Given = Comes (AsyncResponseFutureStepped s f c)

  forwards : Forwards f.stepped (AsyncResponseFutureStepped s f c) Inner (λ (response : F). InFlight response)
  forwards response (Ready output) new (left, step, same) = (step.inner, left, step.stepped, step.answers, tt)
  forwards response Pending new (left, step, same) = (step.inner, left, step.stepped, step.answers, same)

  in_flight : (polls : ℕ) (response : F) (output : Option (Result A (Error E P))) → Given polls (InFlight response) output
      → (answer : Option (Result A E)) × Comes f.stepped polls response answer × (output ≡ wrapped Inner answer)
  in_flight = carries f.stepped (AsyncResponseFutureStepped s f c) Inner (λ (response : F). InFlight response) forwards

  -- a pending poll of the check before
  later : (check next : C) (service : S) (polls : ℕ) (output : Option (Result A (Error E P))) → c.stepped check Pending next → Checked s f c service next polls output
      → Checked s f c service check (suc polls) output
  later check next service polls output step (inl (pending, is)) = inl ((next, step, pending), is)
  later check next service polls output step (inr (inl (error, comes, is))) = inr (inl (error, (next, step, comes), is))
  later check next service polls output step (inr (inr (before, after, sum, request, comes, answer, call, is))) =
      inr (inr (suc before, after, omega arith, request, (next, step, comes), answer, call, is))

  checking : (polls : ℕ) (check : C) (service : S) (output : Option (Result A (Error E P))) → Given polls (Check check service) output → Checked s f c service check polls output
  checking zero check service None here = inl (tt, refl)
  checking zero check service (Some output) (last, (Pending, left, step, (is, same))) = absurd (cc (is))
  checking zero check service (Some output) (last, (Ready (Err error), left, step, (is, same))) = inr (inl (error, (left, step), cc (is)))
  checking zero check service (Some output) (last, (Ready (Ok request), left, step, (used, future, polled, ready, called, inside, same))) =
      let found = answered_ready Inner inside.inner output inside.answers in
      let moved : f.stepped future (Ready found.0) polled = subst (λ (p : Poll (Result A E)). f.stepped future p polled) found.1 inside.stepped in
      inr (inr (0, 0, refl, request, (left, step), Some found.0, record { ready = ready; response = future; left = used; called = called; comes = (polled, moved) }, found.2))
  checking (suc polls) check service output (next, (Pending, left, step, (is, same)), rest) =
      later check left service polls output step (checking polls left service output (subst (λ (v : AsyncState C S F). Given polls v output) same rest))
  checking (suc polls) check service output (next, (Ready (Err error), left, step, (is, same)), rest) = absurd (cc (is))
  checking (suc polls) check service output (next, (Ready (Ok request), left, step, (used, future, polled, ready, called, inside, same)), rest) =
      let moved : f.stepped future Pending polled = subst (λ (p : Poll (Result A E)). f.stepped future p polled) (answered_pending Inner inside.inner inside.answers) inside.stepped in
      let more = in_flight polls polled output (subst (λ (v : AsyncState C S F). Given polls v output) same rest) in
      inr (inr (0, suc polls, omega arith, request, (left, step), more.0, record { ready = ready; response = future; left = used; called = called; comes = (polled, moved, more.1) }, more.2))

  pub checks_first : {U R : Type 0} (clones : CloneOf S) (u : AsyncPredicateOf U R Q P C) → ChecksFirst s f c clones u
  checks_first clones u old new request (Check check service) polls output (ready, kept, copied, asked) comes =
      inr (check, asked, copied, subst (λ (v : S). Checked s f c v check polls output) kept (checking polls check service output comes))
  checks_first clones u old new request (InFlight future) polls output called comes = absurd called
  checks_first clones u old new request NoClone polls output called comes =
      inl (called.0, called.1, at_once (AsyncResponseFutureStepped s f c) NoClone (Err Memory) (λ answer new step. step.0) polls output comes)
