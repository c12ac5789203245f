-- What a `Reconnect` is asked is a run of each connection, from its making on.
use Rattle.std.proofs.Common.{◌≡◌, ℕ, zero, suc, inl, inr, ⊎_elim, refl, ap, sym, ◌∙◌, subst, List, [], Option, Some, None, Result, Ok, Err}
use Rattle.std.specs.declared.clone.Clone.{Ghosts as CloneOf}
use Rattle.futures.specs.declared.task.Poll.{Poll}
use Rattle.futures.specs.declared.task.Poll.TheVariants.{Ready, Pending}
use Rattle.tower_base.specs.Iterations.{Iterates}
use Rattle.tower_base.specs.ServiceRun.{Relations, relations, Action, Takes}
use Rattle.tower_base.specs.Projection.{AtMostOnce, ByAction, RunInside}
use Rattle.tower_base.specs.ProjectionLemmas.{no_action, one_poll, one_call}
use Rattle.tower_base.specs.declared.service.Service.{Ghosts as ServiceOf}
use Rattle.tower_base.specs.declared.service.Steps.{Ghosts as StepsOf}
use Rattle.tower_ware.proofs.RunsLemmas.{after}
use Rattle.tower_ware.specs.Projections.{FromState, Continues}
use Rattle.tower_ware.specs.Reconnect.{ReconnectView, AfterMaker, AfterConnect, AfterReadiness, IterationAt, Iteration, Polled, IsReady, CalledAt, Called}
use Rattle.tower_ware.specs.declared.reconnect.error.Error.{Error}
use Rattle.tower_ware.specs.declared.reconnect.state.Reply.{Reply}
use Rattle.tower_ware.specs.declared.reconnect.state.State.{State}
use Rattle.tower_ware.specs.declared.reconnect.state.State.TheVariants.{Idle, Connecting, Connected}

module _ {M T S F ME Q A E G : Type 0} (m : ServiceOf M T S ME F) (connect : StepsOf F (Result S ME)) (s : ServiceOf S Q A E G)
    (clones : CloneOf T) where
  abbrev View : Type 0
  View = ReconnectView M F S ME T

  abbrev Holds : (List Q → Type 0) → State F S → State F S → Type 0
  Holds = Continues s connect

  -- as it was
  stays : (Has : List Q → Type 0) (state : State F S) → Has [] → Holds Has state state
  stays Has (Connected service) none = inl (no_action (relations s) service service refl none)
  stays Has (Connecting f) none = tt
  stays Has Idle none = tt

  extended : (old : State F S) (mid new : S) → FromState s connect (λ x. x ≡ []) old mid → RunInside (relations s) (λ x. x ≡ []) mid new
      → FromState s connect (λ x. x ≡ []) old new
  extended (Connected service) mid new first second = after (relations s) service mid new first second
  extended (Connecting f) mid new first second = first
  extended Idle mid new first second = first

  from_mid : (old mid : State F S) (new : S) → Holds (λ x. x ≡ []) old mid → FromState s connect (λ x. x ≡ []) mid new → Holds (λ x. x ≡ []) old (Connected new)
  from_mid old (Connected mid) new first second =
      ⊎_elim (λ from. inl (extended old mid new from second)) (λ given. inr (given.0, given.1, after (relations s) given.0 mid new given.2 second)) first
  from_mid old (Connecting f) new first second = absurd second
  from_mid old Idle new first second = absurd second

  chained : (old mid new : State F S) → Holds (λ x. x ≡ []) old mid → Holds (λ x. x ≡ []) mid new → Holds (λ x. x ≡ []) old new
  chained old mid (Connected new) first second = ⊎_elim (λ from. from_mid old mid new first from) (λ given. inr given) second
  chained old mid (Connecting f) first second = tt
  chained old mid Idle first second = tt

  -- a state by an equation
  held : (Has : List Q → Type 0) (old : State F S) (state : State F S) (new : View) → new.state ≡ state → Holds Has old state → Holds Has old new.state
  held Has old state new e here = subst (λ x. Holds Has old x) (sym e) here

  after_maker : (old : View) (polled : M) (readiness : Poll (Result (Unit {0}) ME)) (answer : Option (Poll (Result (Unit {0}) (Error E ME)))) (new : View)
      → old.state ≡ Idle → AfterMaker m connect s clones old polled readiness answer new → Holds (λ x. x ≡ []) Idle new.state
  after_maker old polled Pending answer new same h = held (λ x. x ≡ []) Idle Idle new (ap (λ v. v.state) h.1 ∙ same) tt
  after_maker old polled (Ready (Err e)) answer new same h = held (λ x. x ≡ []) Idle Idle new (ap (λ v. v.state) h.1 ∙ same) tt
  after_maker old polled (Ready (Ok x)) answer new same h =
      ⊎_elim (λ refused. held (λ x. x ≡ []) Idle Idle new (ap (λ v. v.state) refused.1 ∙ same) tt)
      (λ goes. held (λ x. x ≡ []) Idle (Connecting goes.2) new (ap (λ v. v.state) goes.7) tt) h

  after_connect : (old : View) (f left : F) (connected : Poll (Result S ME)) (answer : Option (Poll (Result (Unit {0}) (Error E ME)))) (new : View)
      → connect.stepped f connected left → AfterConnect m connect s clones old left connected answer new → Holds (λ x. x ≡ []) (Connecting f) new.state
  after_connect old f left Pending answer new step h = held (λ x. x ≡ []) (Connecting f) (Connecting left) new (ap (λ v. v.state) h.1) tt
  after_connect old f left (Ready (Ok service)) answer new step h =
      held (λ x. x ≡ []) (Connecting f) (Connected service) new (ap (λ v. v.state) h.1)
      (inr (service, (f, left, step), no_action (relations s) service service refl refl))
  after_connect old f left (Ready (Err e)) answer new step h = held (λ x. x ≡ []) (Connecting f) Idle new (ap (λ v. v.state) h.1) tt

  after_readiness : (old : View) (service left : S) (readiness : Poll (Result (Unit {0}) E)) (answer : Option (Poll (Result (Unit {0}) (Error E ME)))) (new : View)
      → s.polled service readiness left → AfterReadiness m connect s clones old left readiness answer new → Holds (λ x. x ≡ []) (Connected service) new.state
  after_readiness old service left Pending answer new polled h =
      held (λ x. x ≡ []) (Connected service) (Connected left) new (ap (λ v. v.state) h.1) (inl (one_poll (relations s) service left Pending polled refl))
  after_readiness old service left (Ready (Ok x)) answer new polled h =
      held (λ x. x ≡ []) (Connected service) (Connected left) new (ap (λ v. v.state) h.1) (inl (one_poll (relations s) service left (Ready (Ok x)) polled refl))
  after_readiness old service left (Ready (Err e)) answer new polled h = held (λ x. x ≡ []) (Connected service) Idle new (ap (λ v. v.state) h.1) tt

  passed : (state : State F S) (old : View) (answer : Option (Poll (Result (Unit {0}) (Error E ME)))) (new : View) → old.state ≡ state
      → IterationAt m connect s clones state old answer new → Holds (λ x. x ≡ []) state new.state
  passed Idle old answer new same h = after_maker old h.1 h.0 answer new same h.3
  passed (Connecting f) old answer new same h = after_connect old f h.1 h.0 answer new h.2 h.3
  passed (Connected service) old answer new same h = after_readiness old service h.1 h.0 answer new h.2 h.3

  went : (n : ℕ) (old new : View) → Iterates (Iteration m connect s clones) n old new → Holds (λ x. x ≡ []) old.state new.state
  unfolding Iterates
  went zero old new h = held (λ x. x ≡ []) old.state old.state new (ap (λ v. v.state) h) (stays (λ x. x ≡ []) old.state refl)
  went (suc n) old new h = chained old.state h.0.state new.state (went n old h.0 h.1) (passed h.0.state h.0 None new refl h.2)

  polls : (old : View) (answer : Poll (Result (Unit {0}) (Error E ME))) (new : View) → Polled m connect s clones old answer new
      → Holds (λ x. x ≡ []) old.state new.state
  polls old answer new p =
      let so_far = went p.iterations.count old p.iterations.last p.iterations.went in
      ⊎_elim (λ ends. chained old.state p.iterations.last.state new.state so_far (passed p.iterations.last.state p.iterations.last (Some answer) new refl ends.1))
      (λ tired. held (λ x. x ≡ []) old.state p.iterations.last.state new (ap (λ v. v.state) tired.2) so_far) p.iterations.ends

  -- the kept error is taken
  taken : (state : State F S) (old : View) (request : Q) (new : View) → old.state ≡ state → new ≡ record old { error = None } → Holds (AtMostOnce request) state new.state
  taken state old request new same e = held (AtMostOnce request) state state new (ap (λ v. v.state) e ∙ same) (stays (AtMostOnce request) state (inr refl))

  calls : (state : State F S) (error : Option ME) (old : View) (request : Q) (reply : Reply G ME) (new : View) → old.state ≡ state
      → CalledAt s state error old request reply new → Holds (AtMostOnce request) state new.state
  calls (Connected service) (Some e) old request reply new same h = taken (Connected service) old request new same h.1
  calls (Connecting f) (Some e) old request reply new same h = taken (Connecting f) old request new same h.1
  calls Idle (Some e) old request reply new same h = taken Idle old request new same h.1
  calls (Connected service) None old request reply new same h =
      held (AtMostOnce request) (Connected service) (Connected h.1) new (ap (λ v. v.state) h.5)
      (inl (one_call (relations s) service h.1 request h.0 h.2 h.3 (inl refl)))
  calls (Connecting f) None old request reply new same h = absurd h
  calls Idle None old request reply new same h = absurd h

  module _ {R : Type 0} (view : R → View) where
    abbrev reconnect_of : Relations R Q (Error E ME) (Reply G ME)
    reconnect_of = record {
      ready = λ r. IsReady s (view r);
      polled = λ old answer new. Polled m connect s clones (view old) answer (view new);
      called = λ old request reply new. Called s (view old) request reply (view new);
    }

    pub reconnect : (old : R) (action : Action Q (Error E ME) (Reply G ME)) (new : R) → Takes reconnect_of old action new
        → Holds (ByAction AtMostOnce action) (view old).state (view new).state
    reconnect old (Action.poll answer) new takes = polls (view old) answer (view new) takes
    reconnect old (Action.call request reply) new takes = calls (view old).state (view old).error (view old) request reply (view new) refl takes.1
