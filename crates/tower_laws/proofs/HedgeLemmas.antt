-- A `Hedge` makes at most two calls.
use Rattle.std.proofs.Common.{◌≡◌, ◌⊎◌, ◌<◌, ◌≤◌, inl, inr, ⊎_elim, ℕ, zero, suc, ◌+◌, Bool, true, false, nat_lt, if◌then◌else◌, Option, Some, None, Result, Ok, Err, refl, ap, sym, ◌∙◌, subst, arith}
use Rattle.std.proofs.lemmas.Bool.Decides.{leb_tells}
use Rattle.std.specs.declared.clone.Clone.{Ghosts as CloneOf}
use Rattle.std.specs.declared.convert.Infallible.{Infallible}
use Rattle.futures.specs.declared.task.Poll.{Poll}
use Rattle.futures.specs.declared.task.Poll.TheVariants.{Ready, Pending}
use Rattle.tower_base.specs.Answers.{answered}
use Rattle.tower_base.specs.Sleep.{SleepView}
use Rattle.tower_base.specs.declared.service.Clock.{Ghosts as ClockOf}
use Rattle.tower_base.specs.declared.service.Service.{Ghosts as ServiceOf}
use Rattle.tower_base.specs.declared.service.Steps.{Ghosts as StepsOf}
use Rattle.tower_laws.proofs.AsyncFilterLemmas.{checks_first}
use Rattle.tower_laws.proofs.DelayLemmas.{calls_after_delay}
use Rattle.tower_laws.proofs.Responses.{Forwards, answered_pending, carries}
use Rattle.tower_laws.proofs.SelectLemmas.{first_else_second}
use Rattle.tower_laws.specs.Delay.{CallAfter as DelayedCall, CallOnceReady}
use Rattle.tower_laws.specs.Hedge.{CallAfter, CallIfAllowed, Copies, CopiesNone, HedgesOnce, SecondSide}
use Rattle.tower_laws.specs.Responses.{AtOnce, Call, Comes, OnceReady, ReadyAfter, wrapped}
use Rattle.tower_laws.specs.Select.{SecondPends}
use Rattle.tower_limit.specs.RotatingHistogram.{RotatingHistogramView}
use Rattle.tower_limit.specs.declared.hedge.rotating_histogram.steps.HistoStep.{HistoStep}
use Rattle.tower_limit.specs.declared.hedge.rotating_histogram.steps.HistoReply.{HistoReply}
use Rattle.tower_retry.specs.Delay.{DelayView, Called as DelayCalled, Stepped as DelayStepped}
use Rattle.tower_retry.specs.Hedge.{HedgeView, RecordedView, Checked as PolicyChecked, Stepped as HedgeStepped, flat}
use Rattle.tower_retry.specs.HedgeCheck.{CheckStepped}
use Rattle.tower_retry.specs.HedgePolicies.{AfterCopy, Copied, DelayComputed, DelayPolicyView, SelectPolicyView}
use Rattle.tower_retry.specs.Latency.{ResponseFutureView as LatencyFuture}
use Rattle.tower_retry.specs.Select.{ResponseFutureView as SelectFuture, SecondCalled, Called as SelectCalled, Stepped as SelectStepped}
use Rattle.tower_retry.specs.declared.hedge.check.CheckState.{CheckState}
use Rattle.tower_retry.specs.declared.hedge.check.CheckState.TheVariants.{Passed, Given, Waiting}
use Rattle.tower_retry.specs.declared.hedge.delay.error.Error.{Error as DelayError}
use Rattle.tower_retry.specs.declared.hedge.delay.error.Error.TheVariants.{Inner as DelayInner, Memory as DelayMemory}
use Rattle.tower_retry.specs.declared.hedge.delay.policy.Policy.{Ghosts as DelayPolicyOf}
use Rattle.tower_retry.specs.declared.hedge.delay.state.State.{State as DelayState}
use Rattle.tower_retry.specs.declared.hedge.error.Error.{Error}
use Rattle.tower_retry.specs.declared.hedge.error.Error.TheVariants.{Inner, Memory}
use Rattle.tower_retry.specs.declared.hedge.policy.Policy.{Ghosts as PolicyOf}
use Rattle.tower_retry.specs.declared.hedge.select.error.Error.{Error as SelectError}
use Rattle.tower_retry.specs.declared.hedge.select.error.Error.TheVariants.{First, Second}
use Rattle.tower_retry.specs.declared.hedge.select.policy.Policy.{Ghosts as SelectPolicyOf}
use Rattle.tower_util.specs.declared.util.oneshot.Oneshot.{Oneshot}
use Rattle.tower_ware.specs.Filter.{FilterView, Polled as FilterPolled, AsyncFilterCalled, AsyncResponseFutureStepped}
use Rattle.tower_ware.specs.declared.filter.error.Error.{Error as FilterError}
use Rattle.tower_ware.specs.declared.filter.error.Error.TheVariants.{Inner as FilteredError, Memory as NoFiltered}
use Rattle.tower_ware.specs.declared.filter.predicate.AsyncPredicate.{Ghosts as AsyncPredicateOf}
use Rattle.tower_ware.specs.declared.filter.state.AsyncState.{AsyncState}

only_after : (polls before after : ℕ) → polls ≡ before + after → before ≡ 0 → polls ≡ after
only_after polls before after sum none = omega arith

few : (points least : ℕ) → suc points ≤ least → points < least
few points least h = omega arith

many : (points least : ℕ) → least < suc points → least ≤ points
many points least h = omega arith

-- whether there are enough latencies for the copy that was made
enough : {Q : Type 0} (points least : ℕ) (made : Q) (answer : Option Q) → answer ≡ (if nat_lt points least then None else Some made)
    → ((answer ≡ None) × (points < least)) ⊎ ((answer ≡ Some made) × (least ≤ points))
enough points least made answer e = ⊎_elim (λ below. inl (e ∙ ap (λ (b : Bool). if b then None else Some made) below.0, few points least below.1))
    (λ above. inr (e ∙ ap (λ (b : Bool). if b then None else Some made) above.0, many points least above.1)) (leb_tells (suc points) least)

module _ {S P L C Q A E F : Type 0} (N : Type 0) (s : ServiceOf S Q A E F) (stepped : F → Poll (Result A E) → F → Type 0) (p : PolicyOf P Q)
    (policy_clone : P → P → Type 0) (service_clone : S → S → Type 0) (gave : L → HistoStep → HistoReply → Type 0) (c : ClockOf C) where
  abbrev pub Recorded : Type 0
  Recorded = RecordedView S L C

  abbrev pub RecordedFuture : Type 0
  RecordedFuture = LatencyFuture (RotatingHistogramView L C) F C

  abbrev pub Filtered : Type 0
  Filtered = FilterView Recorded P

  abbrev pub Fails : Type 0
  Fails = FilterError E Infallible

  abbrev pub FilteredFuture : Type 0
  FilteredFuture = AsyncState (CheckState Q N) Recorded RecordedFuture

  abbrev pub DelayedService : Type 0
  DelayedService = DelayView (DelayPolicyView L C) Filtered C

  abbrev pub DelayedFuture : Type 0
  DelayedFuture = DelayState (SleepView C) Filtered Q (Oneshot Filtered Q A Fails FilteredFuture)

  -- the services and policies of the nest, and what they are
  pub record Nest (rec : ServiceOf Recorded Q A E RecordedFuture) (rec_steps : StepsOf RecordedFuture (Result A E)) (rec_clone : CloneOf Recorded)
      (u : AsyncPredicateOf P Q Q Infallible (CheckState Q N)) (check : StepsOf (CheckState Q N) (Result Q Infallible))
      (fil : ServiceOf Filtered Q A Fails FilteredFuture) (fil_stepped : FilteredFuture → Poll (Result A Fails) → FilteredFuture → Type 0) (fil_clone : CloneOf Filtered)
      (named : DelayPolicyOf (DelayPolicyView L C) Q) (copies : SelectPolicyOf (SelectPolicyView P L C) Q) : Type 0 where
    pub rec_polled : (old : Recorded) (answer : Poll (Result (Unit {0}) E)) (new : Recorded) → rec.polled old answer new → s.polled old.service answer new.service
    pub rec_called : (old : Recorded) (request : Q) (future : RecordedFuture) (new : Recorded) → rec.called old request future new
        → s.ready old.service × s.called old.service request future.inner new.service
    pub rec_stepped : (old : RecordedFuture) (answer : Poll (Result A E)) (new : RecordedFuture) → rec_steps.stepped old answer new → stepped old.inner answer new.inner
    pub rec_cloned : (old new : Recorded) → rec_clone.is_clone old new → service_clone old.service new.service
    pub check_made : (old : P) (request : Q) (future : CheckState Q N) (new : P) → u.checked old request future new → PolicyChecked p old request future new
    pub checked : (old : CheckState Q N) (answer : Poll (Result Q Infallible)) (new : CheckState Q N) → check.stepped old answer new → CheckStepped old answer new
    pub fil_polled : (old : Filtered) (answer : Poll (Result (Unit {0}) Fails)) (new : Filtered) → fil.polled old answer new → FilterPolled rec old answer new
    pub fil_called : (old : Filtered) (request : Q) (future : FilteredFuture) (new : Filtered) → fil.called old request future new
        → AsyncFilterCalled rec rec_clone u old request future new
    pub fil_steps : (old : FilteredFuture) (answer : Poll (Result A Fails)) (new : FilteredFuture) → fil_stepped old answer new
        → AsyncResponseFutureStepped rec rec_steps check old answer new
    pub fil_cloned : (old new : Filtered) → fil_clone.is_clone old new → rec_clone.is_clone old.inner new.inner × policy_clone old.predicate new.predicate
    pub delayed : (old : DelayPolicyView L C) (request : Q) (delay : ℕ) (new : DelayPolicyView L C) → named.delayed old request delay new → DelayComputed gave c old request delay new
    pub copied : (old : SelectPolicyView P L C) (request : Q) (copy : Option Q) (new : SelectPolicyView P L C) → copies.cloned old request copy new
        → Copied p gave c old request copy new

  module _ {rec : ServiceOf Recorded Q A E RecordedFuture} {rec_steps : StepsOf RecordedFuture (Result A E)} {rec_clone : CloneOf Recorded}
      {u : AsyncPredicateOf P Q Q Infallible (CheckState Q N)} {check : StepsOf (CheckState Q N) (Result Q Infallible)}
      {fil : ServiceOf Filtered Q A Fails FilteredFuture} {fil_stepped : FilteredFuture → Poll (Result A Fails) → FilteredFuture → Type 0} {fil_clone : CloneOf Filtered}
      {named : DelayPolicyOf (DelayPolicyView L C) Q} {copies : SelectPolicyOf (SelectPolicyView P L C) Q}
      (nest : Nest rec rec_steps rec_clone u check fil fil_stepped fil_clone named copies) where
    -- a recorded call

    recorded : (polls : ℕ) (future : RecordedFuture) (answer : Option (Result A E)) → Comes rec_steps.stepped polls future answer → Comes stepped polls future.inner answer
    recorded zero future (Some answer) (last, step) = (last.inner, nest.rec_stepped future (Ready answer) last step)
    recorded zero future None here = tt
    recorded (suc polls) future answer (next, step, rest) = (next.inner, nest.rec_stepped future Pending next step, recorded polls next answer rest)

    called_inside : (old : Recorded) (request : Q) (future : RecordedFuture) (new : Recorded) (polls : ℕ) (answer : Option (Result A E)) → rec.called old request future new
        → Comes rec_steps.stepped polls future answer → Call s stepped old.service request polls answer
    called_inside old request future new polls answer called comes =
        let inside = nest.rec_called old request future new called in
        record { ready = inside.0; response = future.inner; left = new.service; called = inside.1; comes = recorded polls future answer comes }

    -- the filter's readiness

    readiness_inside : (inner : Poll (Result (Unit {0}) E)) (answer : Result (Unit {0}) Fails) → Ready answer ≡ answered FilteredError inner
        → ((inner ≡ Ready (Ok tt)) × (answer ≡ Ok tt)) ⊎ ((error : E) × (inner ≡ Ready (Err error)) × (answer ≡ Err (FilteredError error)))
    readiness_inside (Ready (Ok x)) answer e = let same : answer ≡ Ok x = cc (e) in inl (refl, same)
    readiness_inside (Ready (Err error)) answer e = inr (error, refl, cc (e))
    readiness_inside Pending answer e = absurd (cc (e))

    pending_inside : (old new : Filtered) → fil.polled old Pending new → s.polled old.inner.service Pending new.inner.service
    pending_inside old new polled =
        let here = nest.fil_polled old Pending new polled in
        let inside = answered_pending FilteredError here.inner here.answers in
        nest.rec_polled old.inner Pending new.inner (subst (λ (a : Poll (Result (Unit {0}) E)). rec.polled old.inner a new.inner) inside here.polled)

    willing : (polls : ℕ) (old new : Filtered) → ReadyAfter fil polls old (Some (Ok tt)) new
        → ReadyAfter s polls old.inner.service (Some (Ok tt)) new.inner.service × (new.predicate ≡ old.predicate)
    willing zero old new polled =
        let here = nest.fil_polled old (Ready (Ok tt)) new polled in
        let inside : here.inner ≡ Ready (Ok tt) = ⊎_elim (λ ok. ok.0) (λ fails. absurd (let is = fails.2 in cc)) (readiness_inside here.inner (Ok tt) here.answers) in
        (nest.rec_polled old.inner (Ready (Ok tt)) new.inner (subst (λ (a : Poll (Result (Unit {0}) E)). rec.polled old.inner a new.inner) inside here.polled), here.same)
    willing (suc polls) old new (next, polled, rest) =
        let here = nest.fil_polled old Pending next polled in
        let more = willing polls next new rest in ((next.inner.service, pending_inside old next polled, more.0), more.1 ∙ here.same)

    unwilling : (polls : ℕ) (old new : Filtered) → ReadyAfter fil polls old None new → ReadyAfter s polls old.inner.service None new.inner.service
    unwilling zero old new same = ap (λ (v : Filtered). v.inner.service) same
    unwilling (suc polls) old new (next, polled, rest) = (next.inner.service, pending_inside old next polled, unwilling polls next new rest)

    failed : (polls : ℕ) (old new : Filtered) (error : Fails) → ReadyAfter fil polls old (Some (Err error)) new
        → (inner : E) × ReadyAfter s polls old.inner.service (Some (Err inner)) new.inner.service × (error ≡ FilteredError inner)
    failed zero old new error polled =
        let here = nest.fil_polled old (Ready (Err error)) new polled in
        ⊎_elim (λ ok. absurd (let is = ok.1 in cc))
        (λ fails. let same : error ≡ FilteredError fails.0 = (let is = fails.2 in cc) in (
          fails.0,
          nest.rec_polled old.inner (Ready (Err fails.0)) new.inner (subst (λ (a : Poll (Result (Unit {0}) E)). rec.polled old.inner a new.inner) fails.1 here.polled),
          same,
        ))
        (readiness_inside here.inner (Err error) here.answers)
    failed (suc polls) old new error (next, polled, rest) =
        let more = failed polls next new error rest in (more.0, (next.inner.service, pending_inside old next polled, more.1), more.2)

    -- the check of a policy that allows the request passes at once
    passes : (polls : ℕ) (policy : P) (request : Q) (state : CheckState Q N) (left : P) (given : Q) → PolicyChecked p policy request state left
        → Comes check.stepped polls state (Some (Ok given)) → (polls ≡ 0) × (given ≡ request) × p.allowed policy request true
    passes zero policy request (Passed kept) left given asked (last, step) =
        let here = nest.checked (Passed kept) (Ready (Ok given)) last step in
        let is = here.0 in
        let allowed = asked.checks.0 in
        let same = asked.checks.1 in
        (refl, cc (is, same), subst (λ (b : Bool). p.allowed policy request b) allowed asked.decided)
    passes (suc polls) policy request (Passed kept) left given asked (next, step, rest) =
        let here = nest.checked (Passed kept) Pending next step in absurd (let is = here.0 in cc)
    passes polls policy request Given left given asked comes = absurd asked.checks
    passes polls policy request (Waiting never) left given asked comes = absurd (waits polls never comes)
      where
        waits : (polls : ℕ) (never : N) → Comes check.stepped polls (Waiting never) (Some (Ok given)) → ⊥
        waits zero never (Passed kept, step) = nest.checked (Waiting never) (Ready (Ok given)) (Passed kept) step
        waits zero never (Given, step) = nest.checked (Waiting never) (Ready (Ok given)) Given step
        waits zero never (Waiting left, step) = let is = nest.checked (Waiting never) (Ready (Ok given)) (Waiting left) step in cc
        waits (suc polls) never (Passed kept, step, rest) = nest.checked (Waiting never) Pending (Passed kept) step
        waits (suc polls) never (Given, step, rest) = nest.checked (Waiting never) Pending Given step
        waits (suc polls) never (Waiting left, step, rest) = waits polls left rest

    -- A check that is pending after a poll is one of a policy that doesn't allow the request.
    pending_check : (polls : ℕ) (policy : P) (request : Q) (state : CheckState Q N) (left : P) → PolicyChecked p policy request state left
        → Comes check.stepped polls state None → (polls ≡ 0) ⊎ p.allowed policy request false
    pending_check zero policy request state left asked comes = inl refl
    pending_check (suc polls) policy request (Passed kept) left asked (next, step, rest) =
        let here = nest.checked (Passed kept) Pending next step in absurd (let is = here.0 in cc)
    pending_check (suc polls) policy request Given left asked comes = absurd asked.checks
    pending_check (suc polls) policy request (Waiting never) left asked comes = inr (subst (λ (b : Bool). p.allowed policy request b) asked.checks asked.decided)

    -- what comes of the second side, in the errors of the delay
    abbrev Goes : HedgeView S P L C → HedgeView S P L C → Q → ℕ → Option (Result A (DelayError Fails)) → Type 0
    Goes old new request polls output = SecondSide s stepped p policy_clone service_clone gave c old new request polls (wrapped (λ e. flat (Second e)) output)

    abbrev Steps : FilteredFuture → Poll (Result A Fails) → FilteredFuture → Type 0
    Steps = AsyncResponseFutureStepped rec rec_steps check

    steps_inside : (polls : ℕ) (future : FilteredFuture) (answer : Option (Result A Fails)) → Comes fil_stepped polls future answer → Comes Steps polls future answer
    steps_inside zero future (Some answer) (last, step) = (last, nest.fil_steps future (Ready answer) last step)
    steps_inside zero future None here = tt
    steps_inside (suc polls) future answer (next, step, rest) = (next, nest.fil_steps future Pending next step, steps_inside polls next answer rest)

    nothing : {B D : Type 0} (outer : D → B) (output : Option (Result A D)) → output ≡ None → wrapped outer output ≡ None
    nothing outer output e = ap (λ (o : Option (Result A _)). wrapped outer o) e

    -- before an answer of readiness it had none
    none_before : (polls : ℕ) (first : S) (answer : Result (Unit {0}) E) (last : S) → ReadyAfter s polls first (Some answer) last → (mid : S) × ReadyAfter s polls first None mid
    none_before zero first answer last polled = (first, refl)
    none_before (suc polls) first answer last (next, polled, rest) = let more = none_before polls next answer last rest in (more.0, (next, polled, more.1))

    -- In the polls before one that makes the service ready it isn't.
    not_yet : (polls before rest : ℕ) (service willing : S) → polls ≡ before + rest → rest ≡ 0 → ReadyAfter s before service (Some (Ok tt)) willing
        → (last : S) × ReadyAfter s polls service None last
    not_yet polls before rest service willing sum none ready =
        let same : before ≡ polls = omega arith in
        let mid = none_before before service (Ok tt) willing ready in (mid.0, subst (λ (k : ℕ). ReadyAfter s k service None mid.0) same mid.1)

    -- the call of the filter, which passes the copy on in the poll of the check
    with_copy : (polls rest : ℕ) (service : S) (given copy : Q) (answer : Option (Result A E)) → given ≡ copy → rest ≡ polls → Call s stepped service given polls answer
        → Call s stepped service copy rest answer
    with_copy polls rest service given copy answer is same call =
        subst (λ (k : ℕ). Call s stepped service copy k answer) (sym same) (subst (λ (q : Q). Call s stepped service q polls answer) is call)

    -- the answers of the filter, as those of the delay
    abbrev Of : Option (Result A Fails) → Option (Result A (Error E))
    Of answer = wrapped (λ e. flat (Second e)) (wrapped DelayInner answer)

    of_none : (answer : Option (Result A Fails)) → answer ≡ None → Of answer ≡ None
    of_none answer e = ap Of e

    of_inner : (answer : Option (Result A E)) → Of (wrapped FilteredError answer) ≡ wrapped Inner answer
    of_inner (Some (Ok x)) = refl
    of_inner (Some (Err error)) = refl
    of_inner None = refl

    as_inner : (answer : Option (Result A Fails)) (inner : Option (Result A E)) → answer ≡ wrapped FilteredError inner → Of answer ≡ wrapped Inner inner
    as_inner answer inner is = ap Of is ∙ of_inner inner

    at_once_of : (polls : ℕ) (answer : Option (Result A Fails)) → AtOnce (Err NoFiltered) polls answer → AtOnce (Err Memory) polls (Of answer)
    at_once_of polls answer (at, inl none) = (at, inl (of_none answer none))
    at_once_of polls answer (at, inr some) = (at, inr (ap Of some))

    no_memory : (polls : ℕ) (output : Option (Result A (DelayError Fails))) → AtOnce (Err DelayMemory) polls output → AtOnce (Err Memory) polls (wrapped (λ e. flat (Second e)) output)
    no_memory polls output (at, inl none) = (at, inl (nothing (λ e. flat (Second e)) output none))
    no_memory polls output (at, inr some) = (at, inr (ap (λ (o : Option (Result A (DelayError Fails))). wrapped (λ e. flat (Second e)) o) some))

    abbrev Allowed : P → Q → S → ℕ → Option (Result A (Error E)) → Type 0
    Allowed policy copy service = CallIfAllowed s stepped p policy_clone service_clone gave c policy service copy

    filtered : (before rest polls : ℕ) (clone ready : Filtered) (copy : Q) (answer : Option (Result A Fails)) → ReadyAfter fil before clone (Some (Ok tt)) ready
        → polls ≡ before + rest → Call fil fil_stepped ready copy rest answer → OnceReady s Inner (Allowed clone.predicate copy) clone.inner.service polls (Of answer)
    filtered before rest polls clone ready copy answer polled sum call =
        let law = checks_first rec rec_steps check rec_clone u ready call.left copy call.response rest answer
        (nest.fil_called ready copy call.response call.left call.called) (steps_inside rest call.response answer call.comes) in
        let found = willing before clone ready polled in
        let goes : Allowed clone.predicate copy ready.inner.service rest (Of answer)
        → OnceReady s Inner (Allowed clone.predicate copy) clone.inner.service polls (Of answer) = λ after. inr (inr (before, rest, sum, ready.inner.service, found.0, after)) in
        ⊎_elim (λ refused. goes (inl (at_once_of rest answer refused.2)))
        (λ asks. ⊎_elim
        (λ pends. ⊎_elim
        (λ none. inl (not_yet polls before rest clone.inner.service ready.inner.service sum none found.0, of_none answer pends.1))
        (λ not. goes (inr (inl (subst (λ (v : P). p.allowed v copy false) found.1 not, of_none answer pends.1))))
        (pending_check rest ready.predicate copy asks.0 call.left.predicate (nest.check_made ready.predicate copy asks.0 call.left.predicate asks.1) pends.0))
        (λ ends. ⊎_elim (λ rejected. absurd (elim rejected.0 [ ]))
        (λ passed.
        let at = passes passed.0 ready.predicate copy asks.0 call.left.predicate passed.3 (nest.check_made ready.predicate copy asks.0 call.left.predicate asks.1) passed.4 in
        let inside = called_inside ready.inner passed.3 passed.6.response passed.6.left passed.1 passed.5 passed.6.called passed.6.comes in
        let same : rest ≡ passed.1 = only_after rest passed.0 passed.1 passed.2 at.0 in
        goes (inr (inr (
          subst (λ (v : P). p.allowed v copy true) found.1 at.2,
          passed.5,
          with_copy passed.1 rest ready.inner.service passed.3 copy passed.5 at.1 same inside,
          as_inner answer passed.5 passed.7,
        ))))
        ends) asks.3)
        law

    readied : (polls : ℕ) (clone : Filtered) (copy : Q) (answer : Option (Result A Fails)) → CallOnceReady fil fil_stepped clone copy polls answer
        → OnceReady s Inner (Allowed clone.predicate copy) clone.inner.service polls (Of answer)
    readied polls clone copy answer (inl ((last, ready), is)) = inl ((last.inner.service, unwilling polls clone last ready), of_none answer is)
    readied polls clone copy answer (inr (inl (error, last, ready, is))) =
        let found = failed polls clone last error ready in
        inr (inl (found.0, last.inner.service, found.1, ap Of (is ∙ ap (λ (e : Fails). Some (Err e)) found.2)))
    readied polls clone copy answer (inr (inr (before, rest, sum, ready, polled, call))) = filtered before rest polls clone ready copy answer polled sum call

    -- the second side once the delay is over
    delayed_by : (old : HedgeView S P L C) (delay : ℕ) (copy : Q) (share clock : C) (clone : Filtered) (polls : ℕ) (output : Option (Result A (DelayError Fails)))
        → c.shared old.b.clock share → c.read share clock → fil_clone.is_clone old.b.service clone
        → DelayedCall fil fil_stepped named fil_clone c clock (c.reading clock + delay) clone copy polls output
        → CallAfter s stepped p policy_clone service_clone gave c old delay copy polls (wrapped (λ e. flat (Second e)) output)
    delayed_by old delay copy share clock clone polls output shared read cloned calls =
        let clones = nest.fil_cloned old.b.service clone cloned in (
          share,
          clock,
          shared,
          read,
          clone.predicate,
          clones.1,
          clone.inner.service,
          nest.rec_cloned old.b.service.inner clone.inner clones.0,
          ⊎_elim
              (λ waits. inl (waits.0, nothing (λ e. flat (Second e)) output waits.1))
              (λ over.
              let is : wrapped (λ e. flat (Second e)) output ≡ Of over.4.0 = ap (λ (o : Option (Result A (DelayError Fails))). wrapped (λ e. flat (Second e)) o) over.4.2 in
              inr (
                over.0,
                over.1,
                over.2,
                over.3,
                subst (λ (o : Option (Result A (Error E))). OnceReady s Inner (Allowed clone.predicate copy) clone.inner.service over.1 o) (sym is) (readied over.1 clone copy over.4.0 over.4.1),
              ))
              calls,
        )

    second : (old new : HedgeView S P L C) (request copy : Q) → Copies s stepped p policy_clone service_clone gave c old new request copy → (future : DelayedFuture) (polls : ℕ)
        (output : Option (Result A (DelayError Fails))) → DelayCalled named fil_clone c old.b copy future new.b → Comes (DelayStepped fil fil_stepped c) polls future output
        → Goes old new request polls output
    second old new request copy copies future polls output called comes = ⊎_elim
        (λ refused. inr (copy, copies, called.delay, nest.delayed old.b.policy copy called.delay new.b.policy called.delayed, inl (no_memory polls output refused.1)))
        (λ goes. inr (
          copy,
          copies,
          goes.0,
          nest.delayed old.b.policy copy goes.0 new.b.policy goes.1,
          inr (delayed_by old goes.0 copy goes.4 goes.5 goes.2 polls output goes.6 goes.7 goes.3 goes.8),
        ))
        (calls_after_delay fil fil_stepped c named fil_clone old.b new.b copy future polls output called comes)

    copied_some : (old new : HedgeView S P L C) (request copy : Q) → Copied p gave c old.policy request (Some copy) new.policy
        → Copies s stepped p policy_clone service_clone gave c old new request copy
    copied_some old new request copy made = by made.copy made.cloned made.kept
      where
        by : (given : Option Q) → p.cloned old.policy.policy request given
            → AfterCopy p gave c given old.policy.min_data_points old.policy.histogram (Some copy) new.policy.histogram
            → Copies s stepped p policy_clone service_clone gave c old new request copy
        by (Some given) cloned (points, counted, is) = ⊎_elim (λ below. absurd (let no = below.0 in cc))
            (λ above. let same : given ≡ copy = (let e = above.0 in cc) in (subst (λ (q : Q). p.cloned old.policy.policy request (Some q)) same cloned, points, counted, above.1))
            (enough points old.policy.min_data_points given (Some copy) is)
        by None cloned (is, same) = absurd (cc (is))

    copied_none : (old new : HedgeView S P L C) (request : Q) → Copied p gave c old.policy request None new.policy
        → CopiesNone s stepped p policy_clone service_clone gave c old new request
    copied_none old new request made = by made.copy made.cloned made.kept
      where
        by : (given : Option Q) → p.cloned old.policy.policy request given
            → AfterCopy p gave c given old.policy.min_data_points old.policy.histogram None new.policy.histogram
            → CopiesNone s stepped p policy_clone service_clone gave c old new request
        by (Some given) cloned (points, counted, is) = ⊎_elim (λ below. inr (given, cloned, points, counted, below.1)) (λ above. absurd (let no = above.0 in cc))
            (enough points old.policy.min_data_points given None is)
        by None cloned (is, same) = inl cloned

    module _ (delayed : ServiceOf DelayedService Q A (DelayError Fails) DelayedFuture) (del_steps : StepsOf DelayedFuture (Result A (DelayError Fails)))
        (del_called : (old : DelayedService) (request : Q) (future : DelayedFuture) (new : DelayedService) → delayed.called old request future new
        → DelayCalled named fil_clone c old request future new)
        (del_stepped : (old : DelayedFuture) (answer : Poll (Result A (DelayError Fails))) (new : DelayedFuture) → del_steps.stepped old answer new
        → DelayStepped fil fil_stepped c old answer new) where
      abbrev HedgeFuture : Type 0
      HedgeFuture = SelectFuture RecordedFuture DelayedFuture

      del_inside : (polls : ℕ) (future : DelayedFuture) (answer : Option (Result A (DelayError Fails))) → Comes del_steps.stepped polls future answer
          → Comes (DelayStepped fil fil_stepped c) polls future answer
      del_inside zero future (Some answer) (last, step) = (last, del_stepped future (Ready answer) last step)
      del_inside zero future None here = tt
      del_inside (suc polls) future answer (next, step, rest) = (next, del_stepped future Pending next step, del_inside polls next answer rest)

      -- what comes of the second side, if there is one
      side : (old new : HedgeView S P L C) (request : Q) (copy : Option Q) (future : DelayedFuture) (polls : ℕ) (output : Option (Result A (DelayError Fails)))
          → Copied p gave c old.policy request copy new.policy → SecondCalled copies rec delayed old.b copy (Some future) new.b → Comes del_steps.stepped polls future output
          → Goes old new request polls output
      side old new request (Some copy) future polls output made called comes =
          second old new request copy (copied_some old new request copy made) future polls output (del_called old.b copy future new.b called.1) (del_inside polls future output comes)
      side old new request None future polls output made none comes = absurd none

      pends : (old new : HedgeView S P L C) (request : Q) (copy : Option Q) (future : Option DelayedFuture) (polls : ℕ) → Copied p gave c old.policy request copy new.policy
          → SecondCalled copies rec delayed old.b copy future new.b → SecondPends rec_steps del_steps polls future
          → SecondSide s stepped p policy_clone service_clone gave c old new request polls None
      pends old new request copy (Some future) polls made called comes = side old new request copy future polls None made called comes
      pends old new request None None polls made same comes = inl (copied_none old new request made, same, refl)
      pends old new request (Some copy) None polls made none comes = absurd none

      abbrev Outside : HedgeFuture → Poll (Result A (SelectError E (DelayError Fails))) → HedgeFuture → Type 0
      Outside = SelectStepped rec_steps del_steps

      first_of : (answer : Result A E) → wrapped flat (wrapped First (Some answer)) ≡ wrapped Inner (Some answer)
      first_of (Ok x) = refl
      first_of (Err error) = refl

      second_of : (answer : Result A (DelayError Fails)) → wrapped flat (wrapped Second (Some answer)) ≡ wrapped (λ e. flat (Second e)) (Some answer)
      second_of (Ok x) = refl
      second_of (Err error) = refl

      module _ (hedge : StepsOf HedgeFuture (Result A (SelectError E (DelayError Fails))))
          (hedge_stepped : (old : HedgeFuture) (answer : Poll (Result A (SelectError E (DelayError Fails)))) (new : HedgeFuture) → hedge.stepped old answer new → Outside old answer new) where
        forwards : Forwards Outside (HedgeStepped {A = A} {E = E} hedge) flat (λ (future : HedgeFuture). future)
        forwards future (Ready output) new step = (step.inner, new, hedge_stepped future step.inner new step.stepped, step.answers, tt)
        forwards future Pending new step = (step.inner, new, hedge_stepped future step.inner new step.stepped, step.answers, refl)

        pub hedges_once : HedgesOnce s stepped p policy_clone service_clone gave c (SelectCalled copies rec delayed) (HedgeStepped {A = A} {E = E} hedge)
        hedges_once old new request future polls output called comes =
            let made = nest.copied old.policy request called.copy new.policy called.cloned in
            let inside = carries Outside (HedgeStepped {A = A} {E = E} hedge) flat (λ (v : HedgeFuture). v) forwards polls future (Some output) comes in
            answers old new request future polls output called made inside.0 inside.1 inside.2
          where
            answers : (old new : HedgeView S P L C) (request : Q) (future : HedgeFuture) (polls : ℕ) (output : Result A (Error E)) (called : SelectCalled copies rec delayed old request future new)
                → Copied p gave c old.policy request called.copy new.policy → (answer : Option (Result A (SelectError E (DelayError Fails)))) → Comes Outside polls future answer
                → Some output ≡ wrapped flat answer
                → ((first : Result A E) × Call s stepped old.a.service request polls (Some first) × SecondSide s stepped p policy_clone service_clone gave c old new request polls None
                × (Some output ≡ wrapped Inner (Some first)))
                ⊎ (Call s stepped old.a.service request (suc polls) None × SecondSide s stepped p policy_clone service_clone gave c old new request polls (Some output))
            answers old new request future polls output called made None comes is = absurd (cc (is))
            answers old new request future polls output called made (Some answer) comes is = ⊎_elim
                (λ one. inl (
                  one.0,
                  called_inside old.a request future.a_fut new.a polls (Some one.0) called.called one.1,
                  pends old new request called.copy future.b_fut polls made called.second_called one.2,
                  is ∙ (ap (λ (o : Option (Result A (SelectError E (DelayError Fails)))). wrapped flat o) one.3 ∙ first_of one.0),
                ))
                (λ two. inr (
                  called_inside old.a request future.a_fut new.a (suc polls) None called.called two.4,
                  subst (λ (o : Option (Result A (Error E))). SecondSide s stepped p policy_clone service_clone gave c old new request polls o)
                      (sym (is ∙ (ap (λ (o : Option (Result A (SelectError E (DelayError Fails)))). wrapped flat o) two.5 ∙ second_of two.2)))
                      (side old new request called.copy two.0 polls (Some two.2) made
                      (subst (λ (b : Option DelayedFuture). SecondCalled copies rec delayed old.b called.copy b new.b) two.1 called.second_called) two.3),
                ))
                (first_else_second rec_steps del_steps future polls answer comes)
