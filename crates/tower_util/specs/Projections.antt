-- Which requests each service here passes to the services inside it.
use Rattle.std.proofs.Common.{◌≡◌, ◌⊎◌, inl, inr, subst, sym, refl, List, [], Option, Some, None, IfSome, Result, Ok, Err, ◌∷◌}
use Rattle.std.specs.declared.clone.Clone.{Ghosts as CloneOf}
use Rattle.futures.specs.declared.task.Poll.{Poll}
use Rattle.futures.specs.declared.task.Poll.TheVariants.{Ready, Pending}
use Rattle.tower_base.specs.ServiceRun.{Relations, relations, Action, Takes, requests}
use Rattle.tower_base.specs.Projection.{AtMostOnce, Never, Once, Mapped, ByAction, RunInside, Projects}
use Rattle.tower_base.specs.ProjectionLemmas.{forwards, no_action, one_poll, one_call}
use Rattle.tower_base.specs.declared.service.Service.{Ghosts as ServiceOf}
use Rattle.tower_util.specs.Chain as C
use Rattle.tower_util.specs.FutureService as W
use Rattle.tower_util.specs.Maps as M
use Rattle.tower_util.specs.Oneshot as On
use Rattle.tower_util.specs.Optional as Op
use Rattle.tower_util.specs.Shared as Sh
use Rattle.tower_util.specs.declared.make.shared.Error.{Error as SharedError}
use Rattle.tower_util.specs.declared.util.from_future.State.{State as FutureServiceState}
use Rattle.tower_util.specs.declared.util.from_future.State.TheVariants.{Coming, There, Lost}
use Rattle.tower_util.specs.declared.util.chain.Chain.{Chain}
use Rattle.tower_util.specs.declared.util.either.Either.{Either}
use Rattle.tower_util.specs.declared.util.either.Either.TheVariants.{Left, Right}
use Rattle.tower_util.specs.declared.util.either.EitherResponseFuture.{EitherResponseFuture}
use Rattle.tower_util.specs.declared.util.either.EitherResponseFuture.TheVariants.{First, Second}
use Rattle.tower_util.specs.declared.util.error.future_service.Error.{Error as FutureServiceError}
use Rattle.tower_util.specs.declared.util.oneshot.State.{State as OneshotState}
use Rattle.tower_util.specs.declared.util.oneshot.State.TheVariants.{NotReady, InFlight, Done}
use Rattle.tower_util.specs.declared.util.optional.error.Error.{Error as OptionalError}

-- The closure, at some value of it, may make this of the request.
abbrev pub ClosureMakes : {N R Q : Type 0} → (N → R → Q → N → Type 0) → R → Q → Type 0
ClosureMakes {N} step request inside = (before after : N) × step before request inside after

module _ {S Q A E F : Type 0} (s : ServiceOf S Q A E F) where
  module _ {N : Type 0} where
    -- `MapRequest`
    module _ {R : Type 0} (step : N → R → Q → N → Type 0) where
      abbrev map_request_of : Relations (M.MapView S N) R E F
      map_request_of = record {
        ready = λ m. s.ready m.inner;
        polled = λ old answer new. s.polled old.inner answer new.inner × (new.f ≡ old.f);
        called = λ old request future new. (inner : Q) × step old.f request inner new.f × s.ready old.inner × s.called old.inner inner future new.inner;
      }

      pub map_request : Projects map_request_of (relations s) (λ m. m.inner) (Mapped (ClosureMakes step))
      map_request old (Action.poll answer) new takes = one_poll (relations s) old.inner new.inner answer takes.0 refl
      map_request old (Action.call request future) new takes =
          one_call (relations s) old.inner new.inner takes.1.0 future takes.1.2 takes.1.3 (takes.1.0, (old.f, new.f, takes.1.1), refl)

    -- `MapResponse`
    abbrev map_response_of : Relations (M.MapView S N) Q E (M.MapView (Option F) N)
    map_response_of = record {
      ready = λ m. s.ready m.inner;
      polled = λ old answer new. s.polled old.inner answer new.inner × (new.f ≡ old.f);
      called = M.Called s.ready s.called;
    }

    pub map_response : Projects map_response_of (relations s) (λ m. m.inner) Once
    map_response = forwards map_response_of (relations s) (λ m. m.inner) (λ old new answer p. (answer, p.0)) (λ old new request future c. (c.0, c.1, c.2))

    -- `turned` converts the errors of readiness.
    module _ {U : Type 0} (turned : N → E → U → Type 0) where
      -- `MapErr`, `MapResult`
      abbrev map_of : Relations (M.MapView S N) Q U (M.MapView (Option F) N)
      map_of = record { ready = λ m. s.ready m.inner; polled = M.Polled s.polled turned; called = M.Called s.ready s.called }

      pub map : Projects map_of (relations s) (λ m. m.inner) Once
      map = forwards map_of (relations s) (λ m. m.inner) (λ old new answer p. (p.0, p.1)) (λ old new request future c. (c.0, c.1, c.2))

      module _ {G : Type 0} where
        -- `Then`, `AndThen`
        abbrev chain_of : Relations (M.MapView S N) Q U (Chain F G N)
        chain_of = record { ready = λ m. s.ready m.inner; polled = M.Polled s.polled turned; called = C.Called s.ready s.called }

        pub chain : Projects chain_of (relations s) (λ m. m.inner) Once
        chain = forwards chain_of (relations s) (λ m. m.inner) (λ old new answer p. (p.0, p.1)) (λ old new request future c. (c.0, c.1, c.2))

        -- `MapFuture`
        module _ (step : N → F → G → N → Type 0) where
          abbrev map_future_of : Relations (M.MapView S N) Q U G
          map_future_of = record {
            ready = λ m. s.ready m.inner;
            polled = M.Polled s.polled turned;
            called = λ old request future new. (inner : F) × s.ready old.inner × s.called old.inner request inner new.inner × step old.f inner future new.f;
          }

          pub map_future : Projects map_future_of (relations s) (λ m. m.inner) Once
          map_future = forwards map_future_of (relations s) (λ m. m.inner) (λ old new answer p. (p.0, p.1)) (λ old new request future c. (c.0, c.1, c.2))

  -- `Optional`
  abbrev optional_of : Relations (Option S) Q (OptionalError E) (Option F)
  optional_of = record { ready = λ o. IfSome o s.ready; polled = Op.Polled s.polled; called = Op.Called s.ready s.called }

  -- If there is a service, it stays, and gets just this action. If there is none, none appears.
  abbrev pub RunsOfOptional : Option S → Action Q (OptionalError E) (Option F) → Option S → Type 0
  RunsOfOptional (Some old) action (Some new) = RunInside (relations s) (ByAction Once action) old new
  RunsOfOptional None action None = Unit {0}
  RunsOfOptional (Some old) action None = ⊥
  RunsOfOptional None action (Some new) = ⊥

  pub optional : (old : Option S) (action : Action Q (OptionalError E) (Option F)) (new : Option S) → Takes optional_of old action new → RunsOfOptional old action new
  optional (Some old) (Action.poll answer) new takes =
      subst (λ v. RunsOfOptional (Some old) (Action.poll answer) v) (sym takes.4) (one_poll (relations s) old takes.1 takes.0 takes.2 refl)
  optional (Some old) (Action.call request future) new takes =
      let c = takes.1 in subst (λ v. RunsOfOptional (Some old) (Action.call request future) v) (sym c.5) (one_call (relations s) old c.1 request c.0 c.2 c.3 refl)
  optional None (Action.poll answer) new takes = subst (λ v. RunsOfOptional None (Action.poll answer) v) (sym takes.1) tt
  optional None (Action.call request future) new takes = subst (λ v. RunsOfOptional None (Action.call request future) v) (sym takes.1.1) tt

  -- `FutureService`
  module _ {P : Type 0} (stepped : P → Poll (Result S E) → P → Type 0) where
    abbrev future_service_of : Relations (FutureServiceState P S) Q (FutureServiceError E) F
    future_service_of = record { ready = W.IsThere s.ready; polled = W.Polled stepped s.polled; called = W.Called s.ready s.called }

    -- The service stays, and gets just this action. A service that the future returned in this action gets no call.
    abbrev pub RunsOnceThere : FutureServiceState P S → Action Q (FutureServiceError E) F → FutureServiceState P S → Type 0
    RunsOnceThere (There old) action (There new) = RunInside (relations s) (ByAction Once action) old new
    RunsOnceThere (Coming future) action (There new) =
        (given : S) × (left : P) × stepped future (Ready (Ok given)) left × RunInside (relations s) (λ x. x ≡ []) given new
    RunsOnceThere Lost action (There new) = ⊥
    RunsOnceThere (There old) action (Coming left) = ⊥
    RunsOnceThere (There old) action Lost = ⊥
    RunsOnceThere (Coming future) action (Coming left) = Unit {0}
    RunsOnceThere (Coming future) action Lost = Unit {0}
    RunsOnceThere Lost action (Coming left) = ⊥
    RunsOnceThere Lost action Lost = Unit {0}

    came : (future left : P) (inner : Poll (Result S E)) (answer : Poll (Result (Unit {0}) (FutureServiceError E))) (new : FutureServiceState P S) → stepped future inner left
        → W.FutureStepped stepped s.polled left inner answer new → RunsOnceThere (Coming future) (Action.poll answer) new
    came future left Pending answer new step h = subst (λ v. RunsOnceThere (Coming future) (Action.poll answer) v) (sym h.1) tt
    came future left (Ready (Err e)) answer new step h = subst (λ v. RunsOnceThere (Coming future) (Action.poll answer) v) (sym h.1) tt
    came future left (Ready (Ok service)) answer new step h =
        subst (λ v. RunsOnceThere (Coming future) (Action.poll answer) v) (sym h.4) (service, left, step, one_poll (relations s) service h.1 h.0 h.2 refl)

    pub future_service : (old : FutureServiceState P S) (action : Action Q (FutureServiceError E) F) (new : FutureServiceState P S) → Takes future_service_of old action new → RunsOnceThere old action new
    future_service (There old) (Action.poll answer) new takes =
        subst (λ v. RunsOnceThere (There old) (Action.poll answer) v) (sym takes.4) (one_poll (relations s) old takes.1 takes.0 takes.2 refl)
    future_service (There old) (Action.call request future) new takes =
        let c = takes.1 in subst (λ v. RunsOnceThere (There old) (Action.call request future) v) (sym c.3) (one_call (relations s) old c.0 request future c.1 c.2 refl)
    future_service (Coming coming) (Action.poll answer) new takes = came coming takes.1 takes.0 answer new takes.2 takes.3
    future_service (Coming coming) (Action.call request future) new takes = absurd takes.1
    future_service Lost (Action.poll answer) new takes = subst (λ v. RunsOnceThere Lost (Action.poll answer) v) (sym takes.1) tt
    future_service Lost (Action.call request future) new takes = absurd takes.1

  -- `Oneshot`: while it waits, and after an error of readiness, its service is only polled. A service that is ready is called once with the request.
  abbrev pub RunsInOneshot : OneshotState S Q F → OneshotState S Q F → Type 0
  RunsInOneshot (NotReady old request) (NotReady new same) = RunInside (relations s) (λ x. x ≡ []) old new × (same ≡ request)
  RunsInOneshot (NotReady old request) new = (left : S) × RunInside (relations s) (AtMostOnce request) old left
  RunsInOneshot old (NotReady new request) = ⊥
  RunsInOneshot old new = Unit {0}

  module _ (stepped : F → Poll (Result A E) → F → Type 0) where
    -- The state after the call.
    flown : (service left : S) (request : Q) (future : F) (answer : Poll (Result A E)) (new : OneshotState S Q F)
        → RunInside (relations s) (AtMostOnce request) service left → On.ResponseStepped s stepped future answer new → RunsInOneshot (NotReady service request) new
    flown service left request future (Ready (Ok x)) new run h = subst (λ v. RunsInOneshot (NotReady service request) v) (sym h.2) (left, run)
    flown service left request future (Ready (Err e)) new run h = subst (λ v. RunsInOneshot (NotReady service request) v) (sym h.2) (left, run)
    flown service left request future Pending new run h = subst (λ v. RunsInOneshot (NotReady service request) v) (sym h.2) (left, run)

    asked : (service left : S) (request : Q) (readiness : Poll (Result (Unit {0}) E)) (answer : Poll (Result A E)) (new : OneshotState S Q F)
        → s.polled service readiness left → On.ReadinessPolled s stepped left request readiness answer new → RunsInOneshot (NotReady service request) new
    asked service left request Pending answer new polled h =
        subst (λ v. RunsInOneshot (NotReady service request) v) (sym h.1) (one_poll (relations s) service left Pending polled refl, refl)
    asked service left request (Ready (Err e)) answer new polled h =
        subst (λ v. RunsInOneshot (NotReady service request) v) (sym h.1) (one_poll (relations s) service left (Ready (Err e)) polled refl, refl)
    asked service left request (Ready (Ok x)) answer new polled h =
        flown service h.1.1 request h.1.0 answer new (record {
          transitions = record { action = Action.poll (Ready (Ok x)); left = left } ∷ record { action = Action.call request h.1.0; left = h.1.1 } ∷ [];
          run = (polled, ((h.0, h.1.2), refl));
          has = inl refl;
        }) h.1.3

    in_flight : (future : F) (answer : Poll (Result A E)) (new : OneshotState S Q F) → On.ResponseStepped s stepped future answer new → RunsInOneshot (InFlight future) new
    in_flight future (Ready (Ok x)) new h = subst (λ v. RunsInOneshot (InFlight future) v) (sym h.2) tt
    in_flight future (Ready (Err e)) new h = subst (λ v. RunsInOneshot (InFlight future) v) (sym h.2) tt
    in_flight future Pending new h = subst (λ v. RunsInOneshot (InFlight future) v) (sym h.2) tt

    pub oneshot : (old : OneshotState S Q F) (answer : Poll (Result A E)) (new : OneshotState S Q F) → On.Stepped s stepped old answer new → RunsInOneshot old new
    oneshot (NotReady service request) answer new step = asked service step.1 request step.0 answer new step.2 step.3
    oneshot (InFlight future) answer new step = in_flight future answer new step
    oneshot Done answer new step = absurd step

-- `Shared`
module _ {S T Q A E F : Type 0} (clones : CloneOf S) (s : ServiceOf S Q A E F) where
  abbrev shared_of : Relations S T SharedError (Option (Result S SharedError))
  shared_of = record { ready = λ _. Unit {0}; polled = λ old answer new. (answer ≡ Ready (Ok tt)) × (new ≡ old); called = Sh.Called clones }

  pub shared : Projects shared_of (relations s) (λ x. x) Never
  shared old (Action.poll answer) new takes = no_action (relations s) old new takes.1 refl
  shared old (Action.call request future) new takes = no_action (relations s) old new takes.1.1 refl

-- What is passed inside on one side or on the other.
abbrev pub EitherGoes : {Q R : Type 0} → (Q → List R → Type 0) → (Q → List R → Type 0) → Q → List R → Type 0
EitherGoes left right request inside = left request inside ⊎ right request inside

module _ {A B Q E F G : Type 0} (a : Relations A Q E F) (b : Relations B Q E G) where
  abbrev either_of : Relations (Either A B) Q E (EitherResponseFuture F G)
  either_of = record {
    ready = elim [ Left x ↦ a.ready x | Right y ↦ b.ready y ];
    polled = λ old answer new. elim old [
      | Left x ↦ (left : A) × a.polled x answer left × (new ≡ Left left)
      | Right y ↦ (left : B) × b.polled y answer left × (new ≡ Right left)
    ];
    called = λ old request future new. elim old [
      | Left x ↦ (left : A) × (inner : F) × a.ready x × a.called x request inner left × (future ≡ First inner) × (new ≡ Left left)
      | Right y ↦ (left : B) × (inner : G) × b.ready y × b.called y request inner left × (future ≡ Second inner) × (new ≡ Right left)
    ];
  }

  -- The side that is present stays, and gets just this action.
  abbrev pub RunsOfSide : Either A B → Action Q E (EitherResponseFuture F G) → Either A B → Type 0
  RunsOfSide (Left old) action (Left new) = RunInside a (ByAction Once action) old new
  RunsOfSide (Right old) action (Right new) = RunInside b (ByAction Once action) old new
  RunsOfSide (Left old) action (Right new) = ⊥
  RunsOfSide (Right old) action (Left new) = ⊥

  pub sides : (old : Either A B) (action : Action Q E (EitherResponseFuture F G)) (new : Either A B) → Takes either_of old action new → RunsOfSide old action new
  sides (Left old) (Action.poll answer) new takes =
      subst (λ v. RunsOfSide (Left old) (Action.poll answer) v) (sym takes.2) (one_poll a old takes.0 answer takes.1 refl)
  sides (Right old) (Action.poll answer) new takes =
      subst (λ v. RunsOfSide (Right old) (Action.poll answer) v) (sym takes.2) (one_poll b old takes.0 answer takes.1 refl)
  sides (Left old) (Action.call request future) new takes =
      let c = takes.1 in subst (λ v. RunsOfSide (Left old) (Action.call request future) v) (sym c.5) (one_call a old c.0 request c.1 c.2 c.3 refl)
  sides (Right old) (Action.call request future) new takes =
      let c = takes.1 in subst (λ v. RunsOfSide (Right old) (Action.call request future) v) (sym c.5) (one_call b old c.0 request c.1 c.2 c.3 refl)

  -- What both sides contain.
  module _ {X R D H : Type 0} (inner : Relations X R D H) (left : A → X) (right : B → X) (goes_left goes_right : Q → List R → Type 0) where
    abbrev inside : Either A B → X
    inside = elim [ Left x ↦ left x | Right y ↦ right y ]

    widened : {Has More : List R → Type 0} (old new : X) → ((requests : List R) → Has requests → More requests) → RunInside inner Has old new → RunInside inner More old new
    widened old new more here = record { transitions = here.transitions; run = here.run; has = more (requests here.transitions) here.has }

    pub either : Projects a inner left goes_left → Projects b inner right goes_right → Projects either_of inner inside (EitherGoes goes_left goes_right)
    either first second (Left old) (Action.poll answer) new takes =
        subst (λ v. RunInside inner (λ x. x ≡ []) (left old) (inside v)) (sym takes.2) (first old (Action.poll answer) takes.0 takes.1)
    either first second (Right old) (Action.poll answer) new takes =
        subst (λ v. RunInside inner (λ x. x ≡ []) (right old) (inside v)) (sym takes.2) (second old (Action.poll answer) takes.0 takes.1)
    either first second (Left old) (Action.call request future) new takes =
        let c = takes.1 in
        let here = first old (Action.call request c.1) c.0 (c.2, c.3) in
        subst (λ v. RunInside inner (EitherGoes goes_left goes_right request) (left old) (inside v)) (sym c.5) (widened (left old) (left c.0) (λ x h. inl h) here)
    either first second (Right old) (Action.call request future) new takes =
        let c = takes.1 in
        let here = second old (Action.call request c.1) c.0 (c.2, c.3) in
        subst (λ v. RunInside inner (EitherGoes goes_left goes_right request) (right old) (inside v)) (sym c.5) (widened (right old) (right c.0) (λ x h. inr h) here)
