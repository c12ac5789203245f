-- What a `Steer` is asked is a run of each service in it.
use Rattle.std.proofs.Common.{◌≡◌, ◌<◌, ◌≤◌, ℕ, inl, inr, ⊎_elim, refl, ap, sym, ◌∙◌, subst, arith, List, [], ◌∷◌, length, slice_index_or, slice_set, Result, Ok, Err}
use Rattle.std.proofs.lemmas.Bool.Decides.{eqb_tells, leb_tells}
use Rattle.std.proofs.lemmas.Grind.{get_or-set_at}
use Rattle.std.proofs.lemmas.List.{get_or-set_other, get_or_past, get_or_default, length-set}
use Rattle.futures.specs.declared.task.Poll.{Poll}
use Rattle.futures.specs.declared.task.Poll.TheVariants.{Ready, Pending}
use Rattle.tower_base.specs.ServiceRun.{Relations, relations, Action}
use Rattle.tower_base.specs.Projection.{AtMostOnce, RunInside, Projects}
use Rattle.tower_base.specs.ProjectionLemmas.{no_action, one_poll, one_call}
use Rattle.tower_base.specs.declared.service.Service.{Ghosts as ServiceOf}
use Rattle.tower_ware.specs.Projections.{service_at}
use Rattle.tower_ware.specs.Steer.{SteerView, EachPolled, OnOk, Polled, Called}
use Rattle.tower_ware.proofs.RunsLemmas.{after}
use Rattle.tower_ware.specs.declared.steer.picker.Picker.{Ghosts as PickerOf}

module _ {S F Q A E G : Type 0} (s : ServiceOf S Q A E G) (p : PickerOf F S Q) (j : ℕ) (d : S) where
  abbrev steer_of : Relations (SteerView S F) Q E G
  steer_of = record { ready = λ v. v.listed ≡ []; polled = Polled s; called = Called s p }

  -- past the end nothing is changed
  past_same : (services : List S) (i : ℕ) (left : S) → j ≡ i → length services ≤ i → slice_index_or (slice_set services i left) j d ≡ slice_index_or services j d
  past_same services i left e le = let size = length-set services i left in
      get_or_past (slice_set services i left) j d (omega arith) ∙ sym (get_or_past services j d (omega arith))

  -- a list with one service changed, seen at the index j
  changed : (Has : List Q → Type 0) (services : List S) (i : ℕ) (service left : S) → slice_index_or services i service ≡ service → Has []
      → RunInside (relations s) Has service left → RunInside (relations s) Has (slice_index_or services j d) (slice_index_or (slice_set services i left) j d)
  changed Has services i service left there none here =
      ⊎_elim (λ same. ⊎_elim
      (λ past. no_action (relations s) (slice_index_or services j d) (slice_index_or (slice_set services i left) j d)
      (past_same services i left same.1 past.1) none)
      (λ below. let e : j ≡ i = same.1 in let lt : i < length services = below.1 in
      let before : slice_index_or services j d ≡ service = ap (λ k. slice_index_or services k d) e ∙ (get_or_default services i d service lt ∙ there) in
      let later : slice_index_or (slice_set services i left) j d ≡ left = get_or-set_at services i j left d e lt in
      subst (λ x. RunInside (relations s) Has x (slice_index_or (slice_set services i left) j d)) (sym before)
      (subst (λ x. RunInside (relations s) Has service x) (sym later) here))
      (leb_tells (length services) i))
      (λ other. no_action (relations s) (slice_index_or services j d) (slice_index_or (slice_set services i left) j d)
      (get_or-set_other services i j left d other.1) none)
      (eqb_tells j i)

  on_ok : {Continues : Type 0} (old new : S) (Stops : Poll (Result (Unit {0}) E) → Type 0) (answer : Poll (Result (Unit {0}) E)) → OnOk Continues Stops answer
      → (Continues → RunInside (relations s) (λ x. x ≡ []) old new) → ((stop : Poll (Result (Unit {0}) E)) → Stops stop → new ≡ old) → RunInside (relations s) (λ x. x ≡ []) old new
  on_ok old new Stops (Ready (Ok u)) here goes stops = goes here
  on_ok old new Stops (Ready (Err e)) here goes stops = no_action (relations s) old new (stops _ here) refl
  on_ok old new Stops Pending here goes stops = no_action (relations s) old new (stops _ here) refl

  each : (listed : List ℕ) (old : List S) (answer : Poll (Result (Unit {0}) E)) (rest : List ℕ) (new : List S) → EachPolled s.polled listed old answer rest new
      → RunInside (relations s) (λ x. x ≡ []) (slice_index_or old j d) (slice_index_or new j d)
  each [] old answer rest new here = no_action (relations s) (slice_index_or old j d) (slice_index_or new j d) (ap (λ x. slice_index_or x j d) here.2) refl
  each (i ∷ is) old answer rest new here =
      let mid : List S = slice_set old i here.1 in
      after (relations s) (slice_index_or old j d) (slice_index_or mid j d) (slice_index_or new j d)
      (changed (λ x. x ≡ []) old i here.0 here.1 here.3 refl (one_poll (relations s) here.0 here.1 here.2 here.4 refl))
      (on_ok (slice_index_or mid j d) (slice_index_or new j d) (λ stop. (answer ≡ stop) × (rest ≡ i ∷ is) × (new ≡ mid)) here.2 here.5
      (λ goes. each is mid answer rest new goes) (λ stop stops. ap (λ x. slice_index_or x j d) stops.2))

  pub steer : Projects steer_of (relations s) (service_at j d) AtMostOnce
  steer old (Action.poll answer) new takes = each old.listed old.services answer new.listed new.services takes.polled
  steer old (Action.call request future) new takes =
      let c = takes.1 in
      subst (λ x. RunInside (relations s) (AtMostOnce request) (slice_index_or old.services j d) (slice_index_or x j d)) (sym c.services)
      (changed (AtMostOnce request) old.services c.index c.service c.left c.there (inr refl)
      (one_call (relations s) c.service c.left request future c.ready c.called (inl refl)))
