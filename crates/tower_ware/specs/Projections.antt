-- Which polls and calls each middleware makes of its inner service.
use Rattle.std.proofs.Common.{◌≡◌, ◌⊎◌, ℕ, inl, inr, refl, ap, subst, sym, List, ◌∷◌, [], Option, Some, None, Result, Ok, Err, slice_index_or}
use Rattle.std.specs.declared.clone.Clone.{Ghosts as CloneOf}
use Rattle.futures.specs.declared.task.Poll.{Poll}
use Rattle.futures.specs.declared.task.Poll.TheVariants.{Ready, Pending}
use Rattle.tower_base.specs.ServiceRun.{Relations, relations, Action, Takes}
use Rattle.tower_base.specs.Projection.{Once, AtMostOnce, MappedOrNone, RunInside, Projects}
use Rattle.tower_base.specs.ProjectionLemmas.{forwards, no_action, one_poll, one_call}
use Rattle.tower_base.specs.declared.service.Service.{Ghosts as ServiceOf}
use Rattle.tower_base.specs.declared.service.Clock.{Ghosts as ClockOf}
use Rattle.tower_base.specs.declared.service.Steps.{Ghosts as StepsOf}
use Rattle.tower_ware.specs.Timeout as T
use Rattle.tower_ware.specs.LoadShed as L
use Rattle.tower_ware.specs.Filter as Fi
use Rattle.tower_ware.specs.Steer.{SteerView}
use Rattle.tower_ware.specs.declared.timeout.error.Error.{Error as TimeoutError}
use Rattle.tower_ware.specs.declared.load_shed.error.Error.{Error as ShedError}
use Rattle.tower_ware.specs.declared.filter.error.Error.{Error as FilterError}
use Rattle.tower_ware.specs.declared.filter.state.State.{State as FilterState}
use Rattle.tower_ware.specs.declared.filter.state.State.TheVariants.{Response, Refusal, Answered}
use Rattle.tower_ware.specs.declared.filter.state.AsyncState.{AsyncState}
use Rattle.tower_ware.specs.declared.filter.state.AsyncState.TheVariants.{Check, InFlight, NoClone}
use Rattle.tower_ware.specs.declared.filter.predicate.AsyncPredicate.{Ghosts as AsyncPredicateOf}
use Rattle.tower_ware.specs.declared.filter.predicate.Predicate.{Ghosts as PredicateOf}
use Rattle.tower_ware.specs.declared.reconnect.state.State.{State as ConnectState}
use Rattle.tower_ware.specs.declared.reconnect.state.State.TheVariants.{Idle, Connecting, Connected}

-- the service of a `Steer` at the index, or `other` if there is none
abbrev pub service_at : {S F : Type 0} → ℕ → S → SteerView S F → S
service_at index other v = slice_index_or v.services index other

-- The predicate, at some value of it, may accept the request and turn it into this one.
abbrev pub LetsThrough : {U R Q P : Type 0} → PredicateOf U R Q P → R → Q → Type 0
LetsThrough {U} u request inside = (before after : U) × u.checked before request (Ok inside) after

module _ {S Q A E F : Type 0} (s : ServiceOf S Q A E F) where
  module _ {C : Type 0} (c : ClockOf C) where
    abbrev timeout_of : Relations (T.TimeoutView S C) Q (TimeoutError E) (T.ResponseFutureView F C)
    timeout_of = record { ready = λ t. s.ready t.inner; polled = T.Polled s c; called = T.Called s c }

    pub timeout : Projects timeout_of (relations s) (λ t. t.inner) Once
    timeout = forwards timeout_of (relations s) (λ t. t.inner) (λ old new answer p. (p.inner, p.polled)) (λ old new request future h. (future.response, h.ready, h.called))

  abbrev shed_of : Relations (L.LoadShedView S) Q (ShedError E) (Option F)
  shed_of = record { ready = L.IsReady s; polled = L.Polled s; called = L.Called s }

  pub load_shed : Projects shed_of (relations s) (λ v. v.inner) AtMostOnce
  load_shed old (Action.poll answer) new takes = one_poll (relations s) old.inner new.inner takes.inner takes.polled refl
  load_shed old (Action.call request (Some future)) new takes = one_call (relations s) old.inner new.inner request future takes.1.1 takes.1.2 (inl refl)
  load_shed old (Action.call request None) new takes = no_action (relations s) old.inner new.inner (ap (λ v. v.inner) takes.1.1) (inr refl)

  module _ {U R P : Type 0} (u : PredicateOf U R Q P) where
    abbrev filter_of : Relations (Fi.FilterView S U) R (FilterError E P) (FilterState F P)
    filter_of = record { ready = λ f. s.ready f.inner; polled = Fi.Polled s; called = Fi.FilterCalled s u }

    pub filter : Projects filter_of (relations s) (λ f. f.inner) (MappedOrNone (LetsThrough u))
    filter old (Action.poll answer) new takes = one_poll (relations s) old.inner new.inner takes.inner takes.polled refl
    filter old (Action.call request (Response future)) new takes =
        one_call (relations s) old.inner new.inner takes.1.0 future takes.1.2 takes.1.3 (inl (takes.1.0, (old.predicate, new.predicate, takes.1.1), refl))
    filter old (Action.call request (Refusal p)) new takes = no_action (relations s) old.inner new.inner takes.1.1 (inr refl)
    filter old (Action.call request Answered) new takes = absurd takes.1

  -- `AsyncFilter`: a poll is one of the inner service. A call moves the inner service into its future and leaves a clone, or changes nothing.
  module _ {U R P C : Type 0} (clones : CloneOf S) where
    abbrev pub GoesAside : Fi.FilterView S U → Action R (FilterError E P) (AsyncState C S F) → Fi.FilterView S U → Type 0
    GoesAside old (Action.poll answer) new = RunInside (relations s) (λ x. x ≡ []) old.inner new.inner
    GoesAside old (Action.call request (Check check service)) new = (service ≡ old.inner) × clones.is_clone old.inner new.inner
    GoesAside old (Action.call request (InFlight future)) new = ⊥
    GoesAside old (Action.call request NoClone) new = new.inner ≡ old.inner

    module _ (u : AsyncPredicateOf U R Q P C) where
      abbrev async_filter_of : Relations (Fi.FilterView S U) R (FilterError E P) (AsyncState C S F)
      async_filter_of = record { ready = λ f. s.ready f.inner; polled = Fi.Polled s; called = Fi.AsyncFilterCalled s clones u }

      pub async_filter : (old : Fi.FilterView S U) (action : Action R (FilterError E P) (AsyncState C S F)) (new : Fi.FilterView S U)
          → Takes async_filter_of old action new → GoesAside old action new
      async_filter old (Action.poll answer) new takes = one_poll (relations s) old.inner new.inner takes.inner takes.polled refl
      async_filter old (Action.call request (Check check service)) new takes = (takes.1.1, takes.1.2)
      async_filter old (Action.call request (InFlight future)) new takes = absurd takes.1
      async_filter old (Action.call request NoClone) new takes = ap (λ f. f.inner) takes.1.0

  module _ {C P : Type 0} (c : StepsOf C (Result Q P)) where
    -- Some check returned this request, and only this one was made.
    abbrev pub Checked : List Q → Type 0
    Checked requests = (request : Q) × ((before after : C) × c.stepped before (Ready (Ok request)) after) × (requests ≡ request ∷ [])

    -- In the future the service stays as it was until the check accepts the request, and then gets only the call with that request.
    abbrev pub RunsOfChecked : AsyncState C S F → AsyncState C S F → Type 0
    RunsOfChecked (Check before old) (Check after new) = new ≡ old
    RunsOfChecked (Check before old) (InFlight future) = (left : S) × RunInside (relations s) Checked old left
    RunsOfChecked (Check before old) NoClone = ⊥
    RunsOfChecked (InFlight future) (Check after new) = ⊥
    RunsOfChecked NoClone (Check after new) = ⊥
    RunsOfChecked _ _ = Unit {0}

    module _ (f : StepsOf F (Result A E)) where
      after_check : (before check : C) (service : S) (checked : Poll (Result Q P)) (answer : Poll (Result A (FilterError E P))) (new : AsyncState C S F)
          → c.stepped before checked check → Fi.AfterCheck s f c checked check service answer new → RunsOfChecked (Check before service) new
      after_check before check service Pending answer new step h = subst (λ v. RunsOfChecked (Check before service) v) (sym h.1) refl
      after_check before check service (Ready (Err p)) answer new step h = subst (λ v. RunsOfChecked (Check before service) v) (sym h.1) refl
      after_check before check service (Ready (Ok request)) answer new step h = subst (λ v. RunsOfChecked (Check before service) v) (sym h.6)
          (h.0, one_call (relations s) service h.0 request h.1 h.3 h.4 (request, (before, check, step), refl))

      pub async_future : (old : AsyncState C S F) (answer : Poll (Result A (FilterError E P))) (new : AsyncState C S F)
          → Fi.AsyncResponseFutureStepped s f c old answer new → RunsOfChecked old new
      async_future (Check before service) answer new step = after_check before step.1 service step.0 answer new step.2 step.3
      async_future (InFlight future) answer new step = subst (λ v. RunsOfChecked (InFlight future) v) (sym step.2) tt
      async_future NoClone answer new step = subst (λ v. RunsOfChecked NoClone v) (sym step.1) tt

  -- `Reconnect`
  module _ {N M : Type 0} (connect : StepsOf N (Result S M)) where
    -- Some connect returned this service.
    abbrev pub Gave : S → Type 0
    Gave service = (before after : N) × connect.stepped before (Ready (Ok service)) after

    -- A run from the connection of this state leads to the service, and `Has` holds of the run's requests.
    abbrev pub FromState : (List Q → Type 0) → ConnectState N S → S → Type 0
    FromState Has (Connected old) new = RunInside (relations s) Has old new
    FromState Has (Connecting f) new = ⊥
    FromState Has Idle new = ⊥

    -- A connection is the one before, after such a run, or one that a connect has returned since, after a run without calls.
    abbrev pub Continues : (List Q → Type 0) → ConnectState N S → ConnectState N S → Type 0
    Continues Has old (Connected new) = FromState Has old new ⊎ ((given : S) × Gave given × RunInside (relations s) (λ x. x ≡ []) given new)
    Continues Has old (Connecting f) = Unit {0}
    Continues Has old Idle = Unit {0}
