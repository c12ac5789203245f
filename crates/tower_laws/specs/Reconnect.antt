-- What a `Reconnect` keeps to, over its runs.
use Rattle.std.specs.Prelude.{◌≡◌, ℕ, List, [], ◌∷◌, Option, Some, None, Result, Ok, Err}
use Rattle.std.proofs.Common.{⊎_elim}
use Rattle.std.specs.declared.clone.Clone.{Ghosts as CloneOf}
use Rattle.futures.specs.declared.task.Poll.{Poll}
use Rattle.futures.specs.declared.task.Poll.TheVariants.{Ready, Pending}
use Rattle.tower_base.specs.ServiceRun.{Relations, Action, Transition, Takes, ServiceRun}
use Rattle.tower_base.specs.declared.service.Service.{Ghosts as ServiceOf}
use Rattle.tower_base.specs.declared.service.Steps.{Ghosts as StepsOf}
use Rattle.tower_laws.specs.Responses.{AtOnce, Comes, wrapped}
use Rattle.tower_ware.specs.Reconnect.{ReconnectView, Answer, IsReady, IterationAt, Iteration, Polled, Called, Stepped}
use Rattle.tower_ware.specs.declared.reconnect.error.Error.{Error}
use Rattle.tower_ware.specs.declared.reconnect.error.Error.TheVariants.{Inner, Make}
use Rattle.tower_ware.specs.declared.reconnect.state.Reply.{Reply}
use Rattle.tower_ware.specs.declared.reconnect.state.Reply.TheVariants.{InFlight, Failed}
use Rattle.tower_ware.specs.declared.reconnect.state.State.{State}
use Rattle.tower_ware.specs.declared.reconnect.state.State.TheVariants.{Idle, Connecting, Connected}

-- the error with which a connect failed
abbrev pub error_of : {S ME : Type 0} → Poll (Result S ME) → Option ME
error_of (Ready (Err error)) = Some error
error_of (Ready (Ok service)) = None
error_of Pending = None

-- an error in place of an older one
abbrev pub newest : {ME : Type 0} → Option ME → Option ME → Option ME
newest (Some error) kept = Some error
newest None kept = kept

module _ {M T S F ME Q A E G : Type 0} (m : ServiceOf M T S ME F) (connect : StepsOf F (Result S ME)) (s : ServiceOf S Q A E G)
    (clones : CloneOf T) where
  -- the error of the connect that was polled in the iteration, if one was and failed
  abbrev pub failure_at : (state : State F S) (old : ReconnectView M F S ME T) (answer : Answer m connect s clones) (new : ReconnectView M F S ME T)
      → IterationAt m connect s clones state old answer new → Option ME
  failure_at Idle old answer new pass = None
  failure_at (Connecting f) old answer new pass = error_of pass.0
  failure_at (Connected service) old answer new pass = None

  -- In a poll no connect fails but in the last iteration.
  abbrev pub OnlyLastFails : Type 0
  OnlyLastFails = (old new : ReconnectView M F S ME T) (pass : Iteration m connect s clones old None new) → failure_at old.state old None new pass ≡ None

  -- The error of the connect that failed in the poll, if one did. (`⊎_elim f g x` is `f` or `g` of the one of two facts that `x` proves.)
  abbrev pub failure_in : (old : ReconnectView M F S ME T) (answer : Poll (Result (Unit {0}) (Error E ME))) (new : ReconnectView M F S ME T)
      → Polled m connect s clones old answer new → Option ME
  failure_in old answer new p = ⊎_elim (λ ends. failure_at p.iterations.last.state p.iterations.last (Some answer) new ends.1) (λ tired. None) p.iterations.ends

  -- The call goes to the connection that is there, once.
  pub record GoesThere (old : ReconnectView M F S ME T) (request : Q) (reply : Reply G ME) (new : ReconnectView M F S ME T) : Type 0 where
    pub connection : S
    pub there : old.state ≡ Connected connection
    pub ready : s.ready connection
    pub response : G
    pub left : S
    pub called : s.called connection request response left
    pub stays : new.state ≡ Connected left
    pub replies : reply ≡ InFlight response

  module _ {R : Type 0} (view : R → ReconnectView M F S ME T) where
    abbrev pub reconnect_of : Relations R Q (Error E ME) (Reply G ME)
    reconnect_of = record {
      ready = λ r. IsReady s (view r);
      polled = λ old answer new. Polled m connect s clones (view old) answer (view new);
      called = λ old request reply new. Called s (view old) request reply (view new);
    }

    -- The kept error is that of the latest connect that failed since the last call, before and after the action. A call returns it. If there is
    -- none, the call goes to the connection.
    abbrev pub ErrorMoves : (old : R) (action : Action Q (Error E ME) (Reply G ME)) (new : R) → Takes reconnect_of old action new → Option ME → Option ME → Type 0
    ErrorMoves old (Action.poll answer) new takes kept later = later ≡ newest (failure_in (view old) answer (view new) takes) kept
    ErrorMoves old (Action.call request reply) new takes (Some error) later = (reply ≡ Failed (Some error)) × (later ≡ None)
    ErrorMoves old (Action.call request reply) new takes None later = GoesThere (view old) request reply (view new) × (later ≡ None)

    abbrev pub NextCallFails : Option ME → (old : R) (run : List (Transition R Q (Error E ME) (Reply G ME))) (new : R) → ServiceRun reconnect_of old run new → Type 0
    NextCallFails kept old [] new runs = Unit {0}
    NextCallFails kept old (first ∷ rest) new runs = (later : Option ME) × ErrorMoves old first.action first.left runs.0 kept later
        × NextCallFails later first.left rest new runs.1

-- What comes of a call that returns an error is just that. What comes of another is what comes of the connection's response.
module _ {G A E : Type 0} (f : StepsOf G (Result A E)) where
  abbrev pub Gives : {ME : Type 0} → Reply G ME → ℕ → Option (Result A (Error E ME)) → Type 0
  Gives (Failed (Some error)) polls output = AtOnce (Err (Make error)) polls output
  Gives (Failed None) polls output = (polls ≡ 0) × (output ≡ None)
  Gives (InFlight response) polls output = (answer : Option (Result A E)) × Comes f.stepped polls response answer × (output ≡ wrapped Inner answer)

  abbrev pub RepliesGive : Type 0 → Type 0
  RepliesGive ME = (reply : Reply G ME) (polls : ℕ) (output : Option (Result A (Error E ME))) → Comes (Stepped f) polls reply output → Gives reply polls output
