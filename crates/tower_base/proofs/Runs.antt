-- Runs of events.
use Rattle.std.proofs.Common.{◌≡◌, false, List, [], ◌∷◌, ◌++◌, Result, subst, refl, rules}
use Rattle.futures.specs.declared.task.Poll.{Poll}
use Rattle.tower_base.specs.declared.service.Service.{Ghosts as ServiceOf}
use Rattle.tower_base.specs.Drive.{State, Step, Run, initial}
use Rattle.tower_base.specs.Driver.{state_of, Sound}
use Rattle.tower_base.specs.declared.drive.Driver.{Driver}
use Rattle.futures.specs.Task.{Keeps}
use Rattle.futures.specs.declared.task.context.Context.{Context}
use Rattle.tower_base.specs.declared.drive.Event.{Event}
use Rattle.tower_base.specs.declared.drive.Entry.{Entry}

module _ {S Q A E F T U O : Type 0} (s : ServiceOf S Q A E F)
    (stepped : F → Poll (Result A E) → F → Type 0) (turned : O → T → U → O → Type 0) where
  -- a run goes on by one event
  pub Run-append : (old mid new : State S F O) (events : List (Event Q T)) (entries : List (Entry A E U)) (event : Event Q T) (entry : Entry A E U)
      → Run s stepped turned old events entries mid → Step s stepped turned mid event entry new
      → Run s stepped turned old (events ++ event ∷ []) (entries ++ entry ∷ []) new
  Run-append old mid new [] [] event entry run step = (new, subst (λ x. Step s stepped turned x event entry new) run step, refl)
  Run-append old mid new (x ∷ xs) (y ∷ ys) event entry run step =
      (run.0, run.1, Run-append run.0 mid new xs ys event entry run.2 step)
  Run-append old mid new [] (y ∷ ys) event entry run step = absurd run
  Run-append old mid new (x ∷ xs) [] event entry run step = absurd run

-- the code has come so far
pub record Going {S Q A E F T U O : Type 0} (s : ServiceOf S Q A E F)
    (stepped : F → Poll (Result A E) → F → Type 0) (turned : O → T → U → O → Type 0) (can_poll : F → Type 0) (callable : O → Type 0)
    (service : S) (outside : O) (first now : Context) (events : List (Event Q T)) (entries : List (Entry A E U)) (driver : Driver S F O) : Type 0 where
  pub run : Run s stepped turned (initial service outside) events entries (state_of driver)
  pub sound : Sound s.sound s.ready can_poll callable driver
  pub kept : Keeps first now

module _ {S Q A E F T U O : Type 0} (s : ServiceOf S Q A E F)
    (stepped : F → Poll (Result A E) → F → Type 0) (turned : O → T → U → O → Type 0) (can_poll : F → Type 0) (callable : O → Type 0)
    (service : S) (outside : O) (first : Context) where
  pub Going-start : (driver : Driver S F O) → (entries : List (Entry A E U)) → entries ≡ [] → s.sound service → callable outside
      → (driver.service ≡ service) × (driver.futures.items ≡ []) × (driver.may_call ≡ false) × (driver.outside ≡ outside)
      → Going s stepped turned can_poll callable service outside first first [] entries driver
  Going-start driver entries none sound can fresh = record {
    run = rw none (rw (fresh.0, fresh.1, fresh.2, fresh.3) refl);
    sound = record { kept = rw fresh.0 sound; service = λ may. absurd (cc); futures = rw fresh.1 (search rules); outside = rw fresh.3 can };
    kept = λ fact h. h;
  }

  pub Going-step : (now after : Context) (events : List (Event Q T)) (entries : List (Entry A E U)) (driver left : Driver S F O) (event : Event Q T) (entry : Entry A E U)
      → Going s stepped turned can_poll callable service outside first now events entries driver
      → Step s stepped turned (state_of driver) event entry (state_of left) → Sound s.sound s.ready can_poll callable left → Keeps now after
      → Going s stepped turned can_poll callable service outside first after (events ++ event ∷ []) (entries ++ entry ∷ []) left
  Going-step now after events entries driver left event entry going step sound kept = record {
    run = Run-append s stepped turned (initial service outside) (state_of driver) (state_of left) events entries event entry going.run step;
    sound = sound;
    kept = λ fact h. kept fact (going.kept fact h);
  }
