-- The machine of `steer`: a list of services, and the list of the indexes of those whose readiness is to be polled, front first.
use Rattle.std.specs.Prelude.{All, zero, suc, ◌++◌, ◌≡◌, ℕ, ◌<◌, ◌≤◌, List, [], ◌∷◌, Result, Ok, Err, ◌⊎◌, length, slice_index_or, slice_set}
use Rattle.std.specs.List.{AllZip}
use Rattle.futures.specs.declared.task.Poll.{Poll}
use Rattle.futures.specs.declared.task.Poll.TheVariants.{Ready, Pending}
use Rattle.tower_base.specs.declared.service.Service.{Ghosts as ServiceOf}
use Rattle.tower_ware.specs.declared.steer.picker.Picker.{Ghosts as PickerOf}

-- A `Steer`. The indexes of the services to poll are in a list that has room for `room` indexes.
pub record SteerView (S F : Type 0) : Type 0 where
  pub picker : F
  pub services : List S
  pub listed : List ℕ
  pub room : ℕ

-- The list has the index j.
abbrev pub Listed : List ℕ → ℕ → Type 0
Listed [] j = ⊥
Listed (i ∷ is) j = (i ≡ j) ⊎ Listed is j

-- the numbers below n, in order
abbrev pub upto : ℕ → List ℕ
upto zero = []
upto (suc n) = upto n ++ n ∷ []

-- Each service that isn't listed is ready.
abbrev pub Rested : {S : Type 0} → (S → Type 0) → List S → List ℕ → Type 0
Rested ready services listed = (j : ℕ) (v : _) → j < length services → slice_index_or services j v ≡ v → ready v ⊎ Listed listed j

-- The invariant of every `Steer`: there is a service, the listed indexes are those of services, and there is room for the index of a call.
pub record Fits {S : Type 0} (services : List S) (listed : List ℕ) (room : ℕ) : Type 0 where
  pub some : 0 < length services
  pub inside : All (λ i. i < length services) listed
  pub fits : 0 < room

-- The picker and each service are sound, and each service that isn't listed is ready, as left by the poll that took it off the list.
pub record Sound {S F : Type 0} (picker : F → Type 0) (sound ready : S → Type 0) (v : SteerView S F) : Type 0 where
  pub chooses : picker v.picker
  pub each : All sound v.services
  pub rested : Rested ready v.services v.listed

-- a clone: clones of the picker and of each service, all of which are to be polled
pub record IsClone {S F : Type 0} (picker : F → F → Type 0) (service : S → S → Type 0) (old new : SteerView S F) : Type 0 where
  pub chooses : picker old.picker new.picker
  pub services : AllZip service old.services new.services
  pub listed : new.listed ≡ upto (length new.services)
  pub room : length new.services ≤ new.room

module _ {S : Type 0} (needs : S → ℕ → Type 0) where
  -- What a pending poll of readiness waits for: the service at the index in front of the list.
  abbrev pub NeedsFront : List ℕ → List S → ℕ → Type 0
  NeedsFront [] services source = ⊥
  NeedsFront (i ∷ is) services source = (service : S) × (slice_index_or services i service ≡ service) × needs service source

  abbrev pub Needs : {F : Type 0} → SteerView S F → ℕ → Type 0
  Needs v source = NeedsFront v.listed v.services source

-- `Continues` holds after `Ok`, and `Stops` of any other answer.
abbrev pub OnOk : {E : Type 0} → Type 0 → (Poll (Result (Unit {0}) E) → Type 0) → Poll (Result (Unit {0}) E) → Type 0
OnOk Continues Stops (Ready (Ok u)) = Continues
OnOk Continues Stops (Ready (Err e)) = Stops (Ready (Err e))
OnOk Continues Stops Pending = Stops Pending

module _ {S E : Type 0} (polled : S → Poll (Result (Unit {0}) E) → S → Type 0) where
  -- The listed services are polled one after another, up to the first that doesn't return `Ok`, which stays at the front. The answer, the list and
  -- the services are those after this.
  abbrev pub EachPolled : List ℕ → List S → Poll (Result (Unit {0}) E) → List ℕ → List S → Type 0
  EachPolled [] old answer rest new = (answer ≡ Ready (Ok tt)) × (rest ≡ []) × (new ≡ old)
  EachPolled (i ∷ is) old answer rest new = (service left : S) × (inner : Poll (Result (Unit {0}) E)) × (slice_index_or old i service ≡ service)
      × polled service inner left × OnOk (EachPolled is (slice_set old i left) answer rest new)
      (λ stop. (answer ≡ stop) × (rest ≡ i ∷ is) × (new ≡ slice_set old i left)) inner

module _ {S E : Type 0} (polled : S → Poll (Result (Unit {0}) E) → S → Type 0) (stirs : S → S → Type 0) where
  -- Of the polls of the listed services, one after another as in `EachPolled`, one may ask for another poll.
  abbrev pub EachStirs : List ℕ → List S → Type 0
  EachStirs [] old = ⊥
  EachStirs (i ∷ is) old = (service left : S) × (inner : Poll (Result (Unit {0}) E)) × (slice_index_or old i service ≡ service)
      × polled service inner left × (stirs service left ⊎ OnOk (EachStirs is (slice_set old i left)) (λ stop. ⊥) inner)

  -- why a poll of readiness may ask for another: the causes of the services that are polled
  abbrev pub Stirs : {F : Type 0} → SteerView S F → SteerView S F → Type 0
  Stirs old new = EachStirs old.listed old.services

module _ {S F Q A E G : Type 0} (s : ServiceOf S Q A E G) where
  -- a poll of readiness: polls of the listed services
  pub record Polled (old : SteerView S F) (answer : Poll (Result (Unit {0}) E)) (new : SteerView S F) : Type 0 where
    pub polled : EachPolled s.polled old.listed old.services answer new.listed new.services
    pub same : new ≡ record old { listed = new.listed; services = new.services }

  -- a call: one pick among the services, and one call of the service at that index, which is ready; its index is listed from now on
  pub record Called (p : PickerOf F S Q) (old : SteerView S F) (request : Q) (future : G) (new : SteerView S F) : Type 0 where
    pub index : ℕ
    pub service : S
    pub left : S
    pub picked : p.picked old.picker request old.services index new.picker
    pub inside : index < length old.services
    pub there : slice_index_or old.services index service ≡ service
    pub ready : s.ready service
    pub called : s.called service request future left
    pub services : new.services ≡ slice_set old.services index left
    pub listed : new.listed ≡ index ∷ []
    pub room : new.room ≡ old.room
