-- Projections: the run that a run of a service makes of a service inside it.
use Rattle.std.specs.Prelude.{◌≡◌, ◌⊎◌, List, [], ◌∷◌, ◌++◌, Result}
use Rattle.futures.specs.declared.task.Poll.{Poll}
use Rattle.tower_base.specs.Drive.{State, Run}
use Rattle.tower_base.specs.ServiceRun.{Relations, Action, Transition, Takes, ServiceRun, requests, made}
use Rattle.tower_base.specs.declared.service.Service.{Ghosts as ServiceOf}
use Rattle.tower_base.specs.declared.drive.Event.{Event}
use Rattle.tower_base.specs.declared.drive.Entry.{Entry}

-- A call with the request makes just the same request inside.
abbrev pub Once : {Q : Type 0} → Q → List Q → Type 0
Once request inside = inside ≡ request ∷ []

-- A call makes the same request inside, or none.
abbrev pub AtMostOnce : {Q : Type 0} → Q → List Q → Type 0
AtMostOnce request inside = (inside ≡ request ∷ []) ⊎ (inside ≡ [])

-- A call makes one request inside, which comes from its request by the relation.
abbrev pub Mapped : {Q R : Type 0} → (Q → R → Type 0) → Q → List R → Type 0
Mapped {R = R} gives request inside = (given : R) × gives request given × (inside ≡ given ∷ [])

-- A call makes such a request inside, or none.
abbrev pub MappedOrNone : {Q R : Type 0} → (Q → R → Type 0) → Q → List R → Type 0
MappedOrNone gives request inside = Mapped gives request inside ⊎ (inside ≡ [])

-- A call makes no request inside.
abbrev pub Never : {Q R : Type 0} → Q → List R → Type 0
Never request inside = inside ≡ []

module _ {Q R : Type 0} (goes : Q → List R → Type 0) where
  -- The action makes these requests inside: a poll none, and a call those that `goes` gives for its request.
  abbrev pub ByAction : {E F : Type 0} → Action Q E F → List R → Type 0
  ByAction (Action.poll answer) inside = inside ≡ []
  ByAction (Action.call request future) inside = goes request inside

  -- The requests, one after another, make these inside.
  abbrev pub Each : List Q → List R → Type 0
  Each [] inside = inside ≡ []
  Each (request ∷ rest) inside = (first later : List R) × goes request first × Each rest later × (inside ≡ first ++ later)

-- The requests are made through a service in between.
abbrev pub Through : {Q P R : Type 0} → (Q → List P → Type 0) → (P → List R → Type 0) → Q → List R → Type 0
Through {P = P} outer inner request inside = (between : List P) × outer request between × Each inner between inside

-- A run inside, from one value to another. `Has` holds for its requests.
pub record RunInside {S R D G : Type 0} (inner : Relations S R D G) (Has : List R → Type 0) (old new : S) : Type 0 where
  pub transitions : List (Transition S R D G)
  pub run : ServiceRun inner old transitions new
  pub has : Has (requests transitions)

module _ {W S Q R E D F G : Type 0} (outer : Relations W Q E F) (inner : Relations S R D G) (inside : W → S) (goes : Q → List R → Type 0) where
  -- A projection to the service inside: each poll and each call outside is a run inside. A poll makes no calls there.
  abbrev pub Projects : Type 0
  Projects = (old : W) (action : Action Q E F) (new : W) → Takes outer old action new → RunInside inner (ByAction goes action) (inside old) (inside new)

  -- Each whole run outside is a run inside.
  abbrev pub RunsProject : Type 0
  RunsProject = (old new : W) (transitions : List (Transition W Q E F)) → ServiceRun outer old transitions new
      → RunInside inner (Each goes (requests transitions)) (inside old) (inside new)

-- Each run of `drive` is a run inside.
abbrev pub DrivesProject : {W S Q R A E D F G T U O : Type 0} → ServiceOf W Q A E F → (F → Poll (Result A E) → F → Type 0) → (O → T → U → O → Type 0)
    → Relations S R D G → (W → S) → (Q → List R → Type 0) → Type 0
DrivesProject {W} {S} {Q} {R} {A} {E} {D} {F} {G} {T} {U} {O} w stepped turned inner inside goes = (old new : State W F O) (events : List (Event Q T)) (entries : List (Entry A E U))
    → Run w stepped turned old events entries new → RunInside inner (Each goes (made events entries)) (inside old.service) (inside new.service)

-- If each request is made inside once, the requests inside are just the same, in their order.
abbrev pub OnceIsSame : Type 0 → Type 0
OnceIsSame Q = (outside inside : List Q) → Each Once outside inside → inside ≡ outside
