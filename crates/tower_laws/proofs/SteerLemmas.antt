-- Each service of a `Steer` gets the requests that are picked for it.
use Rattle.std.proofs.Common.{◌≡◌, ◌≢◌, ℕ, Bool, if◌then◌else◌, ⊎_elim, refl, ap, sym, ◌∙◌, subst, List, [], ◌∷◌, ◌++◌, slice_index_or}
use Rattle.std.proofs.lemmas.Bool.Decides.{eqb_tells}
use Rattle.std.proofs.lemmas.Grind.{get_or-set_at}
use Rattle.std.proofs.lemmas.List.{get_or-set_other, get_or_default}
use Rattle.tower_base.specs.Projection.{RunInside}
use Rattle.tower_base.specs.ProjectionLemmas.{joined, requests_joined, no_action, one_call}
use Rattle.tower_base.specs.ServiceRun.{Relations, relations, Action, Transition, Takes, ServiceRun, requests}
use Rattle.tower_base.specs.declared.service.Service.{Ghosts as ServiceOf}
use Rattle.tower_laws.specs.Steer.{EachGetsWhatIsPicked, Picks, picked_for}
use Rattle.tower_ware.proofs.SteerRuns.{steer}
use Rattle.tower_ware.specs.Projections.{service_at}
use Rattle.tower_ware.specs.Steer.{SteerView, Polled, Called}
use Rattle.tower_ware.specs.declared.steer.picker.Picker.{Ghosts as PickerOf}

module _ {S F Q A E G : Type 0} (s : ServiceOf S Q A E G) (p : PickerOf F S Q) where
  abbrev View : Type 0
  View = SteerView S F

  abbrev steer_of : Relations View Q E G
  steer_of = record { ready = λ v. v.listed ≡ []; polled = Polled s; called = Called s p }

  -- a run with exactly these requests
  abbrev Gets : List Q → S → S → Type 0
  Gets asked old new = RunInside (relations s) (λ inside. inside ≡ asked) old new

  both : (first second : List Q) (old mid new : S) → Gets first old mid → Gets second mid new → Gets (first ++ second) old new
  both first second old mid new before after = record {
    transitions = before.transitions ++ after.transitions;
    run = joined (relations s) old mid new before.transitions after.transitions before.run after.run;
    has = requests_joined (relations s) before.transitions after.transitions
        ∙ (ap (λ (x : List Q). x ++ requests after.transitions) before.has ∙ ap (λ (x : List Q). first ++ x) after.has);
  }

  -- a call of the service at this index, or of another
  here : (old new : View) (request : Q) (future : G) (called : Called s p old request future new) (other : S) → Gets (request ∷ []) (service_at called.index other old) (service_at called.index other new)
  here old new request future called other =
      let before : slice_index_or old.services called.index other ≡ called.service = get_or_default old.services called.index other called.service called.inside ∙ called.there in
      let after : slice_index_or new.services called.index other ≡ called.left =
      ap (λ (x : List S). slice_index_or x called.index other) called.services ∙ get_or-set_at old.services called.index called.index called.left other refl called.inside in
      subst (λ (x : S). Gets (request ∷ []) x (slice_index_or new.services called.index other)) (sym before)
      (subst (λ (x : S). Gets (request ∷ []) called.service x) (sym after)
      (one_call (relations s) called.service called.left request future called.ready called.called refl))

  elsewhere : (old new : View) (request : Q) (future : G) (called : Called s p old request future new) (index : ℕ) (other : S) → index ≢ called.index
      → Gets [] (service_at index other old) (service_at index other new)
  elsewhere old new request future called index other differs =
      no_action (relations s) (slice_index_or old.services index other) (slice_index_or new.services index other)
      (ap (λ (x : List S). slice_index_or x index other) called.services ∙ get_or-set_other old.services called.index index called.left other differs) refl

  abbrev Each : View → List Q → List ℕ → View → Type 0
  Each old asked picks new = (index : ℕ) (other : S) → Gets (picked_for index asked picks) (service_at index other old) (service_at index other new)

  calls : (old left new : View) (request : Q) (future : G) (asked : List Q) (picks : List ℕ) (called : Called s p old request future left) → Each left asked picks new
      → Each old (request ∷ asked) (called.index ∷ picks) new
  calls old left new request future asked picks called more index other = ⊎_elim
      (λ same. let goal : Bool → Type 0 = λ b. Gets (if b then request ∷ picked_for index asked picks else picked_for index asked picks) (service_at index other old) (service_at index other new) in
      let first = subst (λ (i : ℕ). Gets (request ∷ []) (service_at i other old) (service_at i other left)) (sym same.1) (here old left request future called other) in
      subst goal (sym same.0) (both (request ∷ []) (picked_for index asked picks) (service_at index other old) (service_at index other left) (service_at index other new) first (more index other)))
      (λ differs. let goal : Bool → Type 0 = λ b. Gets (if b then request ∷ picked_for index asked picks else picked_for index asked picks) (service_at index other old) (service_at index other new) in
      let first = elsewhere old left request future called index other differs.1 in
      subst goal (sym differs.0) (both [] (picked_for index asked picks) (service_at index other old) (service_at index other left) (service_at index other new) first (more index other)))
      (eqb_tells index called.index)

  record Picked (old : View) (run : List (Transition View Q E G)) (new : View) : Type 0 where
    picks : List ℕ
    picked : Picks steer_of s p old run picks
    each : Each old (requests run) picks new

  goes : (old new : View) (action : Action Q E G) (left : View) (rest : List (Transition View Q E G)) → Takes steer_of old action left → Picked left rest new
      → Picked old (record { action = action; left = left } ∷ rest) new
  goes old new (Action.poll answer) left rest takes more = record {
    picks = more.picks;
    picked = ([], more.picks, refl, more.picked, refl);
    each = λ index other. both [] (picked_for index (requests rest) more.picks) (service_at index other old) (service_at index other left) (service_at index other new)
        (steer s p index other old (Action.poll answer) left takes) (more.each index other);
  }
  goes old new (Action.call request future) left rest takes more = record {
    picks = takes.1.index ∷ more.picks;
    picked = (takes.1.index ∷ [], more.picks, (takes.1.index, takes.1.picked, refl), more.picked, refl);
    each = calls old left new request future (requests rest) more.picks takes.1 more.each;
  }

  went : (old new : View) (run : List (Transition View Q E G)) → ServiceRun steer_of old run new → Picked old run new
  went old new [] same = record {
    picks = [];
    picked = refl;
    each = λ index other. no_action (relations s) (service_at index other old) (service_at index other new) (ap (λ (v : View). service_at index other v) same) refl;
  }
  went old new (first ∷ rest) runs = goes old new first.action first.left rest runs.0 (went first.left new rest runs.1)

  pub each_gets : EachGetsWhatIsPicked steer_of s p
  each_gets old new run runs = let found = went old new run runs in (found.picks, found.picked, found.each)
