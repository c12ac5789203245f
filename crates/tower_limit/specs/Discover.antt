-- What a discovery may return and insert, and the machine of `discover::ServiceList`.
use Rattle.std.specs.Prelude.{◌≡◌, ◌+◌, ℕ, List, [], ◌∷◌, Option, Some, None, Result, Ok, Err}
use Rattle.std.specs.declared.convert.Infallible.{Infallible}
use Rattle.futures.specs.declared.task.Poll.{Poll}
use Rattle.futures.specs.declared.task.Poll.TheVariants.{Ready, Pending}
use Rattle.tower_base.specs.Gives.{MayAnswer}
use Rattle.tower_limit.specs.declared.discover.Change.{Change}
use Rattle.tower_limit.specs.declared.discover.Change.TheVariants.{Insert, Remove}

-- what a discovery returns: pending, its end, a change or an error
abbrev pub Found : Type 0 → Type 0 → Type 0 → Type 0
Found K S E = Poll (Option (Result (Change K S) E))

-- This service is inserted under this key.
abbrev pub inserted : {K S E : Type 0} → K → S → Found K S E
inserted key service = Ready (Some (Ok (Insert key service)))

-- After some polls, whatever they returned, the discovery inserts this service under this key.
abbrev pub MayInsert : {D K S E : Type 0} → (D → Found K S E → D → Type 0) → D → K → S → Type 0
MayInsert discovered d key service = MayAnswer discovered d (inserted key service)

-- the same result, with an inserted service changed by `service` and an error by `error`
abbrev pub changed : {K S T E U : Type 0} → (S → T) → (E → U) → Found K S E → Found K T U
changed service error (Ready (Some (Ok (Insert key s)))) = Ready (Some (Ok (Insert key (service s))))
changed service error (Ready (Some (Ok (Remove key)))) = Ready (Some (Ok (Remove key)))
changed service error (Ready (Some (Err e))) = Ready (Some (Err (error e)))
changed service error (Ready None) = Ready None
changed service error Pending = Pending

-- a `ServiceList`: the index of its next service, and the services that are left
pub record ServiceListView (S : Type 0) : Type 0 where
  pub next : ℕ
  pub services : List S

-- a poll of a list: the first service that is left is inserted under its index; after the last one comes the end
abbrev pub Listed : {S : Type 0} → ServiceListView S → Found ℕ S Infallible → ServiceListView S → Type 0
Listed old (Ready (Some (Ok (Insert key service)))) new =
    (key ≡ old.next) × (old.services ≡ service ∷ new.services) × (new.next ≡ old.next + 1)
Listed old (Ready None) new = (old.services ≡ []) × (new ≡ old)
Listed old _ new = ⊥
