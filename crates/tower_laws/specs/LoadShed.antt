-- What a `LoadShed` keeps to, over its runs.
use Rattle.std.specs.Prelude.{◌≡◌, ℕ, Bool, true, false, List, [], ◌∷◌, Option, Some, None, Result, Err}
use Rattle.tower_base.specs.Drive.{allows}
use Rattle.tower_base.specs.ServiceRun.{Relations, relations, Action, Transition, ServiceRun}
use Rattle.tower_base.specs.declared.service.Service.{Ghosts as ServiceOf}
use Rattle.tower_base.specs.declared.service.Steps.{Ghosts as StepsOf}
use Rattle.tower_laws.specs.Responses.{AtOnce, Comes, wrapped}
use Rattle.tower_laws.specs.Runs.{actions}
use Rattle.tower_ware.specs.LoadShed.{LoadShedView, initial, Stepped}
use Rattle.tower_ware.specs.declared.load_shed.error.Error.{Error}
use Rattle.tower_ware.specs.declared.load_shed.error.Error.TheVariants.{Inner, Overloaded}

module _ {S Q A E F : Type 0} (shed : Relations (LoadShedView S) Q (Error E) (Option F)) (s : ServiceOf S Q A E F) where
  -- The polls and calls outside, and those inside. The flag says that the last poll found the service ready, and no call came since: then a call
  -- reaches the service, with its request and its future, and otherwise it doesn't.
  abbrev pub ReachIfReady : Bool → List (Action Q (Error E) (Option F)) → List (Action Q E F) → Type 0
  ReachIfReady ready [] [] = Unit {0}
  ReachIfReady ready (Action.poll answer ∷ rest) (Action.poll inner ∷ inside) = ReachIfReady (allows inner) rest inside
  ReachIfReady ready (Action.call request (Some future) ∷ rest) (Action.call same response ∷ inside) =
      (ready ≡ true) × (same ≡ request) × (response ≡ future) × ReachIfReady false rest inside
  ReachIfReady ready (Action.call request None ∷ rest) inside = (ready ≡ false) × ReachIfReady false rest inside
  ReachIfReady ready outside inside = ⊥

  -- So it is in each run from `new` on.
  abbrev pub CallsReachIfReady : Type 0
  CallsReachIfReady = (inner : S) (last : LoadShedView S) (run : List (Transition (LoadShedView S) Q (Error E) (Option F))) → ServiceRun shed (initial inner) run last
      → (inside : List (Transition S Q E F)) × ServiceRun (relations s) inner inside last.inner × ReachIfReady false (actions run) (actions inside)

module _ {A E F : Type 0} (f : StepsOf F (Result A E)) where
  -- What comes of a call: what comes of its response, or `Overloaded` if the call didn't reach the service.
  abbrev pub Answer : Option F → ℕ → Option (Result A (Error E)) → Type 0
  Answer (Some response) polls output = (answer : Option (Result A E)) × Comes f.stepped polls response answer × (output ≡ wrapped Inner answer)
  Answer None polls output = AtOnce (Err Overloaded) polls output

  abbrev pub AnswersOrSheds : Type 0
  AnswersOrSheds = (future : Option F) (polls : ℕ) (output : Option (Result A (Error E))) → Comes (Stepped f) polls future output → Answer future polls output
