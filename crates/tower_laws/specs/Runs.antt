-- What the actions of a run are, and the futures of its calls.
use Rattle.std.specs.Prelude.{List, [], ◌∷◌, ◌++◌}
use Rattle.tower_base.specs.ServiceRun.{Action, Transition}

-- the polls and calls of a run, without the values that they left
abbrev pub actions : {S Q E F : Type 0} → List (Transition S Q E F) → List (Action Q E F)
actions [] = []
actions (first ∷ rest) = first.action ∷ actions rest

-- the future of a call
abbrev pub future_of : {Q E F : Type 0} → Action Q E F → List F
future_of (Action.poll answer) = []
future_of (Action.call request future) = future ∷ []

-- the futures of the calls, in their order
abbrev pub futures : {S Q E F : Type 0} → List (Transition S Q E F) → List F
futures [] = []
futures (first ∷ rest) = future_of first.action ++ futures rest
