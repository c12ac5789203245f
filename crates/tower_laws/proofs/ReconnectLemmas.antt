-- A failed connect of a `Reconnect` is the answer of the next call.
use Rattle.std.proofs.Common.{◌≡◌, ◌⊎◌, ◌<◌, ℕ, zero, suc, inl, inr, ⊎_elim, refl, ap, ◌∙◌, subst, List, [], ◌∷◌, Option, Some, None, Result, Ok, Err}
use Rattle.std.specs.declared.clone.Clone.{Ghosts as CloneOf}
use Rattle.futures.specs.declared.task.Poll.{Poll}
use Rattle.futures.specs.declared.task.Poll.TheVariants.{Ready, Pending}
use Rattle.tower_base.specs.Iterations.{Iterates, limit}
use Rattle.tower_base.specs.ServiceRun.{Action, Transition, Takes, ServiceRun}
use Rattle.tower_base.specs.declared.service.Service.{Ghosts as ServiceOf}
use Rattle.tower_base.specs.declared.service.Steps.{Ghosts as StepsOf}
use Rattle.tower_laws.proofs.Responses.{Forwards, carries, at_once}
use Rattle.tower_laws.specs.Reconnect.{GoesThere, NextCallFails, OnlyLastFails, RepliesGive, ErrorMoves, failure_at, failure_in, newest, reconnect_of}
use Rattle.tower_ware.specs.Reconnect.{ReconnectView, Answer, AfterMaker, AfterReadiness, IterationAt, Iteration, Polled, CalledAt, Stepped}
use Rattle.tower_ware.specs.declared.reconnect.error.Error.{Error}
use Rattle.tower_ware.specs.declared.reconnect.error.Error.TheVariants.{Inner, Make}
use Rattle.tower_ware.specs.declared.reconnect.state.Reply.{Reply}
use Rattle.tower_ware.specs.declared.reconnect.state.Reply.TheVariants.{InFlight, Failed}
use Rattle.tower_ware.specs.declared.reconnect.state.State.{State}
use Rattle.tower_ware.specs.declared.reconnect.state.State.TheVariants.{Idle, Connecting, Connected}

module _ {M T S F ME Q A E G : Type 0} (m : ServiceOf M T S ME F) (connect : StepsOf F (Result S ME)) (s : ServiceOf S Q A E G)
    (clones : CloneOf T) where
  abbrev View : Type 0
  View = ReconnectView M F S ME T

  abbrev Given : Type 0
  Given = Answer m connect s clones

  after_maker : (old : View) (polled : M) (readiness : Poll (Result (Unit {0}) ME)) (answer : Given) (new : View) → AfterMaker m connect s clones old polled readiness answer new
      → new.error ≡ old.error
  after_maker old polled Pending answer new h = ap (λ (v : View). v.error) h.1
  after_maker old polled (Ready (Err e)) answer new h = ap (λ (v : View). v.error) h.1
  after_maker old polled (Ready (Ok x)) answer new h = ⊎_elim (λ refused. ap (λ (v : View). v.error) refused.1) (λ goes. ap (λ (v : View). v.error) goes.7) h

  after_readiness : (old : View) (left : S) (readiness : Poll (Result (Unit {0}) E)) (answer : Given) (new : View) → AfterReadiness m connect s clones old left readiness answer new
      → new.error ≡ old.error
  after_readiness old left Pending answer new h = ap (λ (v : View). v.error) h.1
  after_readiness old left (Ready (Ok x)) answer new h = ap (λ (v : View). v.error) h.1
  after_readiness old left (Ready (Err e)) answer new h = ap (λ (v : View). v.error) h.1

  -- the kept error after an iteration
  tells : (state : State F S) (old : View) (answer : Given) (new : View) (pass : IterationAt m connect s clones state old answer new)
      → new.error ≡ newest (failure_at m connect s clones state old answer new pass) old.error
  tells Idle old answer new (readiness, polled, step, after) = after_maker old polled readiness answer new after
  tells (Connecting f) old answer new (Pending, left, step, after) = ap (λ (v : View). v.error) after.1
  tells (Connecting f) old answer new (Ready (Ok service), left, step, after) = ap (λ (v : View). v.error) after.1
  tells (Connecting f) old answer new (Ready (Err e), left, step, after) = ap (λ (v : View). v.error) after.1
  tells (Connected service) old answer new (readiness, left, step, after) = after_readiness old left readiness answer new after

  quiet : (state : State F S) (old new : View) (pass : IterationAt m connect s clones state old None new) → failure_at m connect s clones state old None new pass ≡ None
  quiet Idle old new pass = refl
  quiet (Connecting f) old new (Pending, left, step, after) = refl
  quiet (Connecting f) old new (Ready (Ok service), left, step, after) = refl
  quiet (Connecting f) old new (Ready (Err e), left, step, (is, same)) = absurd (cc (is))
  quiet (Connected service) old new pass = refl

  pub only_last_fails : OnlyLastFails m connect s clones
  only_last_fails old new pass = quiet old.state old new pass

  -- iterations without an answer preserve the kept error
  went : (n : ℕ) (old new : View) → Iterates (Iteration m connect s clones) n old new → new.error ≡ old.error
  unfolding Iterates
  went zero old new h = ap (λ (v : View). v.error) h
  went (suc n) old new (mid, before, pass) =
      (tells mid.state mid None new pass ∙ ap (λ (e : Option ME). newest e mid.error) (quiet mid.state mid new pass)) ∙ went n old mid before

  ended : (old last : View) (answer : Poll (Result (Unit {0}) (Error E ME))) (new : View) (count : ℕ) → last.error ≡ old.error
      → (ends : ((count < limit) × Iteration m connect s clones last (Some answer) new) ⊎ ((count ≡ limit) × (answer ≡ Pending) × (new ≡ last)))
      → new.error ≡ newest (⊎_elim (λ ends. failure_at m connect s clones last.state last (Some answer) new ends.1) (λ tired. None) ends) old.error
  ended old last answer new count same (inl (below, pass)) =
      tells last.state last (Some answer) new pass ∙ ap (λ (e : Option ME). newest (failure_at m connect s clones last.state last (Some answer) new pass) e) same
  ended old last answer new count same (inr (all, tired, stays)) = ap (λ (v : View). v.error) stays ∙ same

  polls : (old : View) (answer : Poll (Result (Unit {0}) (Error E ME))) (new : View) (p : Polled m connect s clones old answer new)
      → new.error ≡ newest (failure_in m connect s clones old answer new p) old.error
  polls old answer new p = ended old p.iterations.last answer new p.iterations.count (went p.iterations.count old p.iterations.last p.iterations.went) p.iterations.ends

  module _ {R : Type 0} (view : R → View) where
    abbrev Turned : R → Action Q (Error E ME) (Reply G ME) → R → Type 0
    Turned old action new = (takes : Takes (reconnect_of m connect s clones view) old action new)
        → ErrorMoves m connect s clones view old action new takes (view old).error (view new).error

    abbrev Replied : Option ME → View → Q → Reply G ME → View → Type 0
    Replied (Some e) old request reply new = (reply ≡ Failed (Some e)) × (new.error ≡ None)
    Replied None old request reply new = GoesThere m connect s clones old request reply new × (new.error ≡ old.error)

    called_at : (state : State F S) (error : Option ME) (old : View) (request : Q) (reply : Reply G ME) (new : View) → old.state ≡ state
        → CalledAt s state error old request reply new
        → Replied error old request reply new
    called_at Idle (Some e) old request reply new is h = (h.0, ap (λ (v : View). v.error) h.1)
    called_at (Connecting f) (Some e) old request reply new is h = (h.0, ap (λ (v : View). v.error) h.1)
    called_at (Connected service) (Some e) old request reply new is h = (h.0, ap (λ (v : View). v.error) h.1)
    called_at Idle None old request reply new is h = absurd h
    called_at (Connecting f) None old request reply new is h = absurd h
    called_at (Connected service) None old request reply new is (f, left, ready, called, replies, same) = (
      record {
        connection = service;
        there = is;
        ready = ready;
        response = f;
        left = left;
        called = called;
        stays = ap (λ (v : View). v.state) same;
        replies = replies;
      },
      ap (λ (v : View). v.error) same,
    )

    call_turns : (old : R) (request : Q) (reply : Reply G ME) (new : R) (takes : Takes (reconnect_of m connect s clones view) old (Action.call request reply) new)
        → (error : Option ME) → (view old).error ≡ error
        → Replied error (view old) request reply (view new)
        → ErrorMoves m connect s clones view old (Action.call request reply) new takes error (view new).error
    call_turns old request reply new takes (Some e) is h = h
    call_turns old request reply new takes None is h = (h.0, h.1 ∙ is)

    turn : (old : R) (action : Action Q (Error E ME) (Reply G ME)) (new : R) → Turned old action new
    turn old (Action.poll answer) new takes = polls (view old) answer (view new) takes
    turn old (Action.call request reply) new takes =
        call_turns old request reply new takes (view old).error refl (called_at (view old).state (view old).error (view old) request reply (view new) refl takes.1)

    turns : (old : R) (run : List (Transition R Q (Error E ME) (Reply G ME))) (new : R) (runs : ServiceRun (reconnect_of m connect s clones view) old run new)
        → NextCallFails m connect s clones view (view old).error old run new runs
    turns old [] new runs = tt
    turns old (first ∷ rest) new runs = ((view first.left).error, turn old first.action first.left runs.0, turns first.left rest new runs.1)

    pub next_call_fails : (old new : R) (run : List (Transition R Q (Error E ME) (Reply G ME))) (runs : ServiceRun (reconnect_of m connect s clones view) old run new)
        → (view old).error ≡ None → NextCallFails m connect s clones view None old run new runs
    next_call_fails old new run runs none =
        subst (λ (e : Option ME). NextCallFails m connect s clones view e old run new runs) none (turns old run new runs)

module _ {G A E ME : Type 0} (f : StepsOf G (Result A E)) where
  forwards : Forwards f.stepped (Stepped {ME = ME} f) Inner (λ (response : G). InFlight response)
  forwards response (Ready output) new (inner, left, step, answers, same) = (inner, left, step, answers, tt)
  forwards response Pending new (inner, left, step, answers, same) = (inner, left, step, answers, same)

  pub replies_give : RepliesGive f ME
  replies_give (InFlight response) polls output comes = carries f.stepped (Stepped f) Inner (λ (response : G). InFlight response) forwards polls response output comes
  replies_give (Failed (Some error)) polls output comes = at_once (Stepped f) (Failed (Some error)) (Err (Make error)) (λ answer new step. step.0) polls output comes
  replies_give (Failed None) zero (Some output) (last, none) = absurd none
  replies_give (Failed None) zero None here = (refl, refl)
  replies_give (Failed None) (suc polls) output (next, none, rest) = absurd none
