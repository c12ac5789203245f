-- Runs of a service: the values that its polls and calls lead it through.
use Rattle.std.specs.Prelude.{◌≡◌, List, [], ◌∷◌, ◌++◌, Result}
use Rattle.futures.specs.declared.task.Poll.{Poll}
use Rattle.tower_base.specs.Drive.{State, Run}
use Rattle.tower_base.specs.declared.service.Service.{Ghosts as ServiceOf}
use Rattle.tower_base.specs.declared.drive.Event.{Event}
use Rattle.tower_base.specs.declared.drive.Event.TheVariants.{Call}
use Rattle.tower_base.specs.declared.drive.Entry.{Entry}
use Rattle.tower_base.specs.declared.drive.Entry.TheVariants.{Called}

-- the relations of a service: when it may be called, and what a poll and a call may do
pub record Relations (S Q E F : Type 0) : Type 1 where
  pub ready : S → Type 0
  pub polled : S → Poll (Result (Unit {0}) E) → S → Type 0
  pub called : S → Q → F → S → Type 0

abbrev pub relations : {S Q A E F : Type 0} → ServiceOf S Q A E F → Relations S Q E F
relations s = record { ready = s.ready; polled = s.polled; called = s.called }

-- a poll of readiness and its answer, or a call with its request and its future
pub data Action (Q E F : Type 0) : Type 0 where
  poll : Poll (Result (Unit {0}) E) → Action Q E F
  call : Q → F → Action Q E F

-- an action, and the value that it left
pub record Transition (S Q E F : Type 0) : Type 0 where
  pub action : Action Q E F
  pub left : S

-- the request of a call
abbrev pub request_of : {Q E F : Type 0} → Action Q E F → List Q
request_of (Action.poll answer) = []
request_of (Action.call request future) = request ∷ []

-- the requests of the calls, in their order
abbrev pub requests : {S Q E F : Type 0} → List (Transition S Q E F) → List Q
requests [] = []
requests (first ∷ rest) = request_of first.action ++ requests rest

module _ {S Q E F : Type 0} (s : Relations S Q E F) where
  -- The action leads from the old value to the new one. Only a ready service is called.
  abbrev pub Takes : S → Action Q E F → S → Type 0
  Takes old (Action.poll answer) new = s.polled old answer new
  Takes old (Action.call request future) new = s.ready old × s.called old request future new

  -- A run of the service: the actions lead, one after another, from the old value to the new one.
  abbrev pub ServiceRun : S → List (Transition S Q E F) → S → Type 0
  ServiceRun old [] new = new ≡ old
  ServiceRun old (first ∷ rest) new = Takes old first.action first.left × ServiceRun first.left rest new

-- There is a run of the service that makes these requests.
pub record Makes {S Q E F : Type 0} (s : Relations S Q E F) (old : S) (made : List Q) (new : S) : Type 0 where
  pub transitions : List (Transition S Q E F)
  pub run : ServiceRun s old transitions new
  pub same : requests transitions ≡ made

-- the requests that `drive` made, which are those of the calls that it didn't skip
abbrev pub made_by : {Q A E T U : Type 0} → Event Q T → Entry A E U → List Q
made_by (Call request) (Called index) = request ∷ []
made_by event entry = []

abbrev pub made : {Q A E T U : Type 0} → List (Event Q T) → List (Entry A E U) → List Q
made (event ∷ events) (entry ∷ entries) = made_by event entry ++ made events entries
made [] entries = []
made (event ∷ events) [] = []

-- Every run of `drive` is a run of its service, which makes those requests.
abbrev pub RunsMake : {S Q A E F T U O : Type 0} → ServiceOf S Q A E F → (F → Poll (Result A E) → F → Type 0) → (O → T → U → O → Type 0) → Type 0
RunsMake {S} {Q} {A} {E} {F} {T} {U} {O} s stepped turned = (old new : State S F O) (events : List (Event Q T)) (entries : List (Entry A E U))
    → Run s stepped turned old events entries new → Makes (relations s) old.service (made events entries) new.service
