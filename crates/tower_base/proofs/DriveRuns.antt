-- Runs of `drive` are runs of the service.
use Rattle.std.proofs.Common.{◌≡◌, List, [], ◌∷◌, ◌++◌, refl, ap, ◌∙◌, subst, Result}
use Rattle.futures.specs.declared.task.Poll.{Poll}
use Rattle.tower_base.specs.Drive.{State, Step}
use Rattle.tower_base.specs.ServiceRun.{Relations, relations, Action, Makes, requests, made_by, made, RunsMake}
use Rattle.tower_base.specs.Projection.{Each, Projects, DrivesProject}
use Rattle.tower_base.specs.ProjectionLemmas.{joined, requests_joined, projected}
use Rattle.tower_base.specs.declared.service.Service.{Ghosts as ServiceOf}
use Rattle.tower_base.specs.declared.drive.Event.{Event}
use Rattle.tower_base.specs.declared.drive.Event.TheVariants.{Poll as PollEvent, Call, Future, Drop, Turn}
use Rattle.tower_base.specs.declared.drive.Entry.{Entry}
use Rattle.tower_base.specs.declared.drive.Entry.TheVariants.{Polled, Called, Answered, Dropped as DroppedEntry, Turned, Skipped}

module _ {S Q A E F T U O : Type 0} (s : ServiceOf S Q A E F) (stepped : F → Poll (Result A E) → F → Type 0) (turned : O → T → U → O → Type 0) where
  nothing : (old new : S) (here : new ≡ old) → Makes (relations s) old [] new
  nothing old new here = record { transitions = []; run = here; same = refl }

  then : (old mid new : S) (a b : List Q) → Makes (relations s) old a mid → Makes (relations s) mid b new → Makes (relations s) old (a ++ b) new
  then old mid new a b first second = record {
    transitions = first.transitions ++ second.transitions;
    run = joined (relations s) old mid new first.transitions second.transitions first.run second.run;
    same = requests_joined (relations s) first.transitions second.transitions ∙ (ap (λ x. x ++ requests second.transitions) first.same ∙ ap (λ x. a ++ x) second.same);
  }

  step : (old : State S F O) (event : Event Q T) (entry : Entry A E U) (new : State S F O) → Step s stepped turned old event entry new
      → Makes (relations s) old.service (made_by event entry) new.service
  step old PollEvent (Polled answer) new h = record { transitions = record { action = Action.poll answer; left = new.service } ∷ []; run = (h.0, refl); same = refl }
  step old (Call request) (Called index) new h = record { transitions = record { action = Action.call request h.future; left = new.service } ∷ []; run = ((h.ready, h.called), refl); same = refl }
  step old (Call request) Skipped new h = nothing old.service new.service (ap (λ x. x.service) h.1)
  step old (Future index) (Answered place answer) new h = nothing old.service new.service (ap (λ x. x.service) h.2)
  step old (Future index) Skipped new h = nothing old.service new.service (ap (λ x. x.service) h.1)
  step old (Drop index) (DroppedEntry place) new h = nothing old.service new.service (ap (λ x. x.service) h.2)
  step old (Drop index) Skipped new h = nothing old.service new.service (ap (λ x. x.service) h.1)
  step old (Turn t) (Turned u) new h = nothing old.service new.service (ap (λ x. x.service) h.1)
  step old event entry new h = absurd h

  pub runs_make : RunsMake s stepped turned
  runs_make old new [] [] h = nothing old.service new.service (ap (λ x. x.service) h)
  runs_make old new (event ∷ events) (entry ∷ entries) h = then old.service h.0.service new.service (made_by event entry) (made events entries) (step old event entry h.0 h.1) (runs_make h.0 new events entries h.2)
  runs_make old new [] (entry ∷ entries) h = absurd h
  runs_make old new (event ∷ events) [] h = absurd h

  pub drives_project : {X R H G : Type 0} (inner : Relations X R H G) (inside : S → X) (goes : Q → List R → Type 0) → Projects (relations s) inner inside goes
      → DrivesProject s stepped turned inner inside goes
  drives_project inner inside goes each old new events entries run =
      let here = runs_make old new events entries run in
      let there = projected (relations s) inner inside goes each old.service new.service here.transitions here.run in
      record { transitions = there.transitions; run = there.run; has = subst (λ x. Each goes x (requests there.transitions)) here.same there.has }
