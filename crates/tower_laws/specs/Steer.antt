-- What a `Steer` keeps to, over its runs.
use Rattle.std.specs.Prelude.{◌≡◌, ℕ, List, [], ◌∷◌, ◌++◌, nat_eq, if◌then◌else◌}
use Rattle.tower_base.specs.Projection.{RunInside}
use Rattle.tower_base.specs.ServiceRun.{Relations, relations, Action, Transition, ServiceRun, requests}
use Rattle.tower_base.specs.declared.service.Service.{Ghosts as ServiceOf}
use Rattle.tower_ware.specs.Projections.{service_at}
use Rattle.tower_ware.specs.Steer.{SteerView}
use Rattle.tower_ware.specs.declared.steer.picker.Picker.{Ghosts as PickerOf}

-- those of the requests for which this index was picked
abbrev pub picked_for : {Q : Type 0} → ℕ → List Q → List ℕ → List Q
picked_for index (request ∷ requests) (pick ∷ picks) = if nat_eq index pick then request ∷ picked_for index requests picks else picked_for index requests picks
picked_for index requests picks = []

module _ {S F Q A E G : Type 0} (steer : Relations (SteerView S F) Q E G) (s : ServiceOf S Q A E G) (p : PickerOf F S Q) where
  -- the index that the picker returned at a call, among the services as they were then
  abbrev pub PicksAt : SteerView S F → Action Q E G → SteerView S F → List ℕ → Type 0
  PicksAt old (Action.poll answer) new picks = picks ≡ []
  PicksAt old (Action.call request future) new picks = (index : ℕ) × p.picked old.picker request old.services index new.picker × (picks ≡ index ∷ [])

  -- those of all calls, in their order
  abbrev pub Picks : SteerView S F → List (Transition (SteerView S F) Q E G) → List ℕ → Type 0
  Picks old [] picks = picks ≡ []
  Picks old (first ∷ rest) picks = (here later : List ℕ) × PicksAt old first.action first.left here × Picks first.left rest later × (picks ≡ here ++ later)

  -- The run of each service has just the requests for which the picker returned its index, in their order.
  abbrev pub EachGetsWhatIsPicked : Type 0
  EachGetsWhatIsPicked = (old new : SteerView S F) (run : List (Transition (SteerView S F) Q E G)) → ServiceRun steer old run new
      → (picks : List ℕ) × Picks old run picks × ((index : ℕ) (other : S)
      → RunInside (relations s) (λ inside. inside ≡ picked_for index (requests run) picks) (service_at index other old) (service_at index other new))
