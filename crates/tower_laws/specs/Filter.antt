-- What a `Filter` keeps to, over its runs.
use Rattle.std.specs.Prelude.{◌≡◌, ℕ, List, [], ◌∷◌, Option, Result, Ok, Err}
use Rattle.tower_base.specs.ServiceRun.{Relations, relations, Transition, ServiceRun, requests}
use Rattle.tower_base.specs.declared.service.Service.{Ghosts as ServiceOf}
use Rattle.tower_base.specs.declared.service.Steps.{Ghosts as StepsOf}
use Rattle.tower_laws.specs.Responses.{AtOnce, Comes, wrapped}
use Rattle.tower_laws.specs.Runs.{futures}
use Rattle.tower_ware.specs.Filter.{FilterView, ResponseFutureStepped}
use Rattle.tower_ware.specs.declared.filter.error.Error.{Error}
use Rattle.tower_ware.specs.declared.filter.error.Error.TheVariants.{Inner, Rejected}
use Rattle.tower_ware.specs.declared.filter.predicate.Predicate.{Ghosts as PredicateOf}
use Rattle.tower_ware.specs.declared.filter.state.State.{State}

-- what the predicate let through
abbrev pub let_through : {Q P : Type 0} → List (Result Q P) → List Q
let_through [] = []
let_through (Ok request ∷ rest) = request ∷ let_through rest
let_through (Err error ∷ rest) = let_through rest

module _ {S Q A E F U R P : Type 0} (filter : Relations (FilterView S U) R (Error E P) (State F P)) (s : ServiceOf S Q A E F) (f : StepsOf F (Result A E))
    (u : PredicateOf U R Q P) where
  -- The predicate checks the requests, one after another, with these results.
  abbrev pub Checks : U → List R → List (Result Q P) → U → Type 0
  Checks old [] [] new = new ≡ old
  Checks old (request ∷ requests) (result ∷ results) new = (next : U) × u.checked old request result next × Checks next requests results new
  Checks old requests results new = ⊥

  -- What comes of the calls, by the results of the checks. If the predicate refused a request, it is the predicate's error. What comes of the others
  -- is, in order, what comes of the responses inside.
  abbrev pub Answer : List (Result Q P) → List (State F P) → List F → Type 0
  Answer [] [] [] = Unit {0}
  Answer (Err error ∷ results) (future ∷ futures) inside = ((polls : ℕ) (output : Option (Result A (Error E P))) → Comes (ResponseFutureStepped f) polls future output
      → AtOnce (Err (Rejected error)) polls output) × Answer results futures inside
  Answer (Ok request ∷ results) (future ∷ futures) (response ∷ inside) = ((polls : ℕ) (output : Option (Result A (Error E P)))
      → Comes (ResponseFutureStepped f) polls future output
      → (answer : Option (Result A E)) × Comes f.stepped polls response answer × (output ≡ wrapped Inner answer)) × Answer results futures inside
  Answer results futures inside = ⊥

  -- The service gets just what the predicate let through, in the order of the calls.
  pub record LetsThrough (old : FilterView S U) (run : List (Transition (FilterView S U) R (Error E P) (State F P))) (new : FilterView S U) : Type 0 where
    pub results : List (Result Q P)
    pub checks : Checks old.predicate (requests run) results new.predicate
    pub inside : List (Transition S Q E F)
    pub runs : ServiceRun (relations s) old.inner inside new.inner
    pub gets : requests inside ≡ let_through results
    pub answer : Answer results (futures run) (futures inside)

  abbrev pub RunsLetThrough : Type 0
  RunsLetThrough = (old new : FilterView S U) (run : List (Transition (FilterView S U) R (Error E P) (State F P))) → ServiceRun filter old run new → LetsThrough old run new
