-- What a `Retry` is asked is a run of its service, and each poll of its future one of the clone in the future.
use Rattle.std.proofs.Common.{◌≡◌, ℕ, zero, suc, ◌∷◌, [], ◌++◌, ⊎_elim, refl, ap, sym, subst, Option, Some, None, Result, Ok, Err}
use Rattle.std.specs.declared.clone.Clone.{Ghosts as CloneOf}
use Rattle.futures.specs.declared.task.Poll.{Poll}
use Rattle.futures.specs.declared.task.Poll.TheVariants.{Ready, Pending}
use Rattle.tower_base.specs.Iterations.{Iterates}
use Rattle.tower_base.specs.ServiceRun.{Relations, relations, Action}
use Rattle.tower_base.specs.Projection.{Once, RunInside, Projects}
use Rattle.tower_base.specs.ProjectionLemmas.{forwards, joined, no_action, one_poll, one_call}
use Rattle.tower_base.specs.declared.service.Service.{Ghosts as ServiceOf}
use Rattle.tower_retry.specs.Retry as R
use Rattle.tower_retry.specs.declared.retry.error.Error.{Error}
use Rattle.tower_retry.specs.declared.retry.policy.Policy.{Ghosts as PolicyOf}
use Rattle.tower_retry.specs.declared.retry.state.Attempts.{Attempts}
use Rattle.tower_retry.specs.declared.retry.state.State.{State}
use Rattle.tower_retry.specs.declared.retry.state.State.TheVariants.{InFlight, Waiting, Retrying}

module _ {P S Q A E F W : Type 0} (s : ServiceOf S Q A E F) (stepped : F → Poll (Result A E) → F → Type 0)
    (p : PolicyOf P Q A E W) (waited : W → Poll (Unit {0}) → W → Type 0) where
  module _ (policy_clone : CloneOf P) (service_clone : CloneOf S) where
    abbrev retry_of : Relations (R.RetryView P S) Q (Error E) (R.ResponseFutureView P S Q F W)
    retry_of = record { ready = λ r. s.ready r.service; polled = R.Polled s p; called = R.Called s p policy_clone service_clone }

    pub retry : Projects retry_of (relations s) (λ r. r.service) Once
    retry = forwards retry_of (relations s) (λ r. r.service) (λ old new answer h. (h.inner, h.polled)) (λ old new request future h. (h.response, h.ready, h.called))

  abbrev View : Type 0
  View = Attempts P S Q F W

  abbrev Given : Type 0
  Given = Option (Poll (Result A (Error E)))

  -- some run of the service
  abbrev Runs : S → S → Type 0
  Runs old new = RunInside (relations s) (λ _. Unit {0}) old new

  none : (old : S) (new : View) → new.service ≡ old → Runs old new.service
  none old new same = no_action (relations s) old new.service same tt

  on : (old mid new : S) → Runs old mid → Runs mid new → Runs old new
  on old mid new first second = record {
    transitions = first.transitions ++ second.transitions;
    run = joined (relations s) old mid new first.transitions second.transitions first.run second.run;
    has = tt;
  }

  after_decision : (old : View) (outcome : Result A E) (decision : Option W) (answer : Given) (new : View) → R.AfterDecision p old outcome decision answer new → Runs old.service new.service
  after_decision old outcome None answer new after = none old.service new (ap (λ v. v.service) after.1)
  after_decision old outcome (Some wait) answer new after = none old.service new (ap (λ v. v.service) after.1)

  after_result : (kept : Option Q) (old : View) (result : Result A E) (answer : Given) (new : View) → R.AfterResult p kept old result answer new → Runs old.service new.service
  after_result None old result answer new after = none old.service new (ap (λ v. v.service) after.1)
  after_result (Some request) old result answer new after =
      after_decision (record old { policy = after.1; request = Some after.2 }) after.3 after.0 answer new after.5

  after_response : (old : View) (inner : Poll (Result A E)) (answer : Given) (new : View) → R.AfterResponse p old inner answer new → Runs old.service new.service
  after_response old Pending answer new after = none old.service new (ap (λ v. v.service) after.1)
  after_response old (Ready result) answer new after = after_result old.request old result answer new after

  after_wait : (old : View) (inner : Poll (Unit {0})) (answer : Given) (new : View) → R.AfterWait s p old inner answer new → Runs old.service new.service
  after_wait old Pending answer new after = none old.service new (ap (λ v. v.service) after.1)
  after_wait old (Ready end) answer new after = none old.service new (ap (λ v. v.service) after.1)

  after_readiness : (old : S) (left : View) (inner : Poll (Result (Unit {0}) E)) (answer : Given) (new : View) → s.polled old inner left.service
      → R.AfterReadiness s p left inner answer new → Runs old new.service
  after_readiness old left Pending answer new polled after =
      on old left.service new.service (one_poll (relations s) old left.service Pending polled tt) (none left.service new (ap (λ v. v.service) after.1))
  after_readiness old left (Ready (Err e)) answer new polled after =
      on old left.service new.service (one_poll (relations s) old left.service (Ready (Err e)) polled tt) (none left.service new (ap (λ v. v.service) after.1))
  after_readiness old left (Ready (Ok x)) answer new polled after =
      on old left.service new.service (one_poll (relations s) old left.service (Ready (Ok x)) polled tt)
      (one_call (relations s) left.service new.service after.1.request after.1.response after.1.ready after.1.called tt)

  passed : (state : State F W) (old : View) (answer : Given) (new : View) → R.IterationAt s stepped p waited state old answer new → Runs old.service new.service
  passed (InFlight response) old answer new pass = after_response (record old { state = InFlight pass.1 }) pass.0 answer new pass.3
  passed (Waiting wait) old answer new pass = after_wait (record old { state = Waiting pass.1 }) pass.0 answer new pass.3
  passed Retrying old answer new pass = after_readiness old.service (record old { service = pass.1 }) pass.0 answer new pass.2 pass.3

  went : (n : ℕ) (old new : View) → Iterates (R.Iteration s stepped p waited) n old new → Runs old.service new.service
  unfolding Iterates
  went zero old new goes = none old.service new (ap (λ v. v.service) goes)
  went (suc n) old new goes = on old.service goes.0.service new.service (went n old goes.0 goes.1) (passed goes.0.state goes.0 None new goes.2)

  pub future_runs : (old new : View) (answer : Poll (Result A (Error E))) → R.Stepped s stepped p waited (Some old) answer (Some new) → Runs old.service new.service
  future_runs old new answer step =
      let same : step.0 ≡ new = cc in
      let passes = step.2 in
      subst (λ (v : View). Runs old.service v.service) same
      (on old.service passes.last.service step.0.service (went passes.count old passes.last passes.went)
      (⊎_elim (λ ends. passed passes.last.state passes.last (Some answer) step.0 ends.1) (λ tired. none passes.last.service step.0 (ap (λ v. v.service) tired.2)) passes.ends))
