-- If a poll of a `Steer` returns `Ok`, it leaves no index listed.
use Rattle.std.specs.Prelude.{◌≡◌, ℕ, List, [], ◌∷◌, Result, Ok, Err, slice_set}
use Rattle.futures.specs.declared.task.Poll.{Poll}
use Rattle.futures.specs.declared.task.Poll.TheVariants.{Ready, Pending}
use Rattle.tower_base.specs.declared.service.Service.{Ghosts as ServiceOf}
use Rattle.tower_ware.specs.Steer.{EachPolled, OnOk, Polled, SteerView}

-- A poll that returns `Ok` doesn't stop.
goes_on : {E X Continues : Type 0} (Stops : Poll (Result (Unit {0}) E) → Type 0) (r : Poll (Result (Unit {0}) E))
    → OnOk Continues Stops r → ((a : Poll (Result (Unit {0}) E)) → Stops a → Ready (Ok tt) ≡ a) → (Continues → X) → X
goes_on Stops (Ready (Ok u)) h same k = k h
goes_on Stops (Ready (Err e)) h same k = absurd (let e = same _ h in cc)
goes_on Stops Pending h same k = absurd (let e = same _ h in cc)

module _ {S E : Type 0} (polled : S → Poll (Result (Unit {0}) E) → S → Type 0) where
  -- After `Ok` no index is listed.
  each_ok : (is : List ℕ) (ss : List S) (rest : List ℕ) (ts : List S) → EachPolled polled is ss (Ready (Ok tt)) rest ts → rest ≡ []
  each_ok [] ss rest ts h = h.1
  each_ok (i ∷ is) ss rest ts h =
      goes_on (λ r. (Ready (Ok tt) ≡ r) × (rest ≡ i ∷ is) × (ts ≡ slice_set ss i h.1)) h.2 h.5 (λ a x. x.0) (each_ok is (slice_set ss i h.1) rest ts)

-- A poll that returns `Ok` leaves no index listed.
pub polled_ok : {S F Q A E G : Type 0} {s : ServiceOf S Q A E G} (old new : SteerView S F) → Polled s old (Ready (Ok tt)) new → new.listed ≡ []
polled_ok {s = s} old new p = each_ok s.polled old.listed old.services new.listed new.services p.polled
