-- The calls of a `LoadShed` reach its service if it is ready.
use Rattle.std.proofs.Common.{◌≡◌, Bool, List, [], ◌∷◌, Option, Some, None, Result, Ok, Err, refl, ap, ◌∙◌, subst}
use Rattle.futures.specs.declared.task.Poll.{Poll}
use Rattle.futures.specs.declared.task.Poll.TheVariants.{Ready, Pending}
use Rattle.tower_base.specs.Drive.{allows}
use Rattle.tower_base.specs.ServiceRun.{Relations, relations, Action, Transition, Takes, ServiceRun}
use Rattle.tower_base.specs.declared.service.Service.{Ghosts as ServiceOf}
use Rattle.tower_base.specs.declared.service.Steps.{Ghosts as StepsOf}
use Rattle.tower_laws.proofs.Responses.{Forwards, carries, at_once}
use Rattle.tower_laws.specs.LoadShed.{ReachIfReady, CallsReachIfReady, AnswersOrSheds}
use Rattle.tower_laws.specs.Runs.{actions}
use Rattle.tower_ware.specs.LoadShed.{LoadShedView, IsReady, Polled, Called, Stepped, initial, flag_of}
use Rattle.tower_ware.specs.declared.load_shed.error.Error.{Error}
use Rattle.tower_ware.specs.declared.load_shed.error.Error.TheVariants.{Inner, Overloaded}

module _ {S Q A E F : Type 0} (s : ServiceOf S Q A E F) where
  abbrev View : Type 0
  View = LoadShedView S

  abbrev shed_of : Relations View Q (Error E) (Option F)
  shed_of = record { ready = IsReady s; polled = Polled s; called = Called s }

  same_flag : (inner : Poll (Result (Unit {0}) E)) → flag_of inner ≡ allows inner
  same_flag (Ready (Ok x)) = refl
  same_flag (Ready (Err e)) = refl
  same_flag Pending = refl

  record Inside (ready : Bool) (old new : S) (outside : List (Action Q (Error E) (Option F))) : Type 0 where
    transitions : List (Transition S Q E F)
    run : ServiceRun (relations s) old transitions new
    reach : ReachIfReady shed_of s ready outside (actions transitions)

  -- the first of the actions
  goes : (old left : View) (new : S) (action : Action Q (Error E) (Option F)) (rest : List (Action Q (Error E) (Option F))) → Takes shed_of old action left
      → Inside left.is_ready left.inner new rest → Inside old.is_ready old.inner new (action ∷ rest)
  goes old left new (Action.poll answer) rest takes inside = record {
    transitions = record { action = Action.poll takes.inner; left = left.inner } ∷ inside.transitions;
    run = (takes.polled, inside.run);
    reach = subst (λ (b : Bool). ReachIfReady shed_of s b rest (actions inside.transitions)) (takes.flag ∙ same_flag takes.inner) inside.reach;
  }
  goes old left new (Action.call request (Some future)) rest takes inside = record {
    transitions = record { action = Action.call request future; left = left.inner } ∷ inside.transitions;
    run = ((takes.1.1, takes.1.2), inside.run);
    reach = (takes.1.0, refl, refl, subst (λ (b : Bool). ReachIfReady shed_of s b rest (actions inside.transitions)) (takes.1.3) inside.reach);
  }
  goes old left new (Action.call request None) rest takes inside =
      let here : Inside old.is_ready old.inner new rest = subst (λ (v : View). Inside v.is_ready v.inner new rest) takes.1.1 inside in record {
        transitions = here.transitions;
        run = here.run;
        reach = (takes.1.0, subst (λ (b : Bool). ReachIfReady shed_of s b rest (actions here.transitions)) takes.1.0 here.reach);
      }

  went : (run : List (Transition View Q (Error E) (Option F))) (old new : View) → ServiceRun shed_of old run new → Inside old.is_ready old.inner new.inner (actions run)
  went [] old new here = record { transitions = []; run = ap (λ v. v.inner) here; reach = tt }
  went (first ∷ rest) old new runs = goes old first.left new.inner first.action (actions rest) runs.0 (went rest first.left new runs.1)

  pub calls_reach : CallsReachIfReady shed_of s
  calls_reach inner last run runs = let inside = went run (initial inner) last runs in (inside.transitions, inside.run, inside.reach)

module _ {A E F : Type 0} (f : StepsOf F (Result A E)) where
  forwards : Forwards f.stepped (Stepped f) Inner (λ (response : F). Some response)
  forwards response (Ready output) (Some left) (inner, step, answers) = (inner, left, step, answers, tt)
  forwards response Pending (Some left) (inner, step, answers) = (inner, left, step, answers, refl)
  forwards response answer None none = absurd none

  pub answers_or_sheds : AnswersOrSheds f
  answers_or_sheds (Some response) polls output comes = carries f.stepped (Stepped f) Inner (λ (response : F). Some response) forwards polls response output comes
  answers_or_sheds None polls output comes = at_once (Stepped f) None (Err Overloaded) (λ answer new step. step.0) polls output comes
