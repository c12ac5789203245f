-- What holds for all runs of a slot.
use Rattle.std.specs.Prelude.{◌≡◌, ◌⊎◌, List, [], ◌∷◌}
use Rattle.std.specs.List.{AllByRecursion}
use Rattle.tower_latch.specs.Latch.{Serves}
use Rattle.tower_pool.specs.Slot.{SlotSteps}
use Rattle.tower_pool.specs.declared.spawn_ready.slot_core.Slot.{Slot}
use Rattle.tower_pool.specs.declared.spawn_ready.slot_core.Slot.TheVariants.{Idle}
use Rattle.tower_pool.specs.declared.spawn_ready.slot_core.SlotStep.{SlotStep}
use Rattle.tower_pool.specs.declared.spawn_ready.slot_core.SlotStep.TheVariants.{Put, Look}
use Rattle.tower_pool.specs.declared.spawn_ready.slot_core.SlotReply.{SlotReply}
use Rattle.tower_pool.specs.declared.spawn_ready.slot_core.SlotReply.TheVariants.{Done, Service}

module _ {S E : Type 0} where
  -- The reply gives no service.
  abbrev pub GivesNone : SlotReply S E → Type 0
  GivesNone (Service service) = ⊥
  GivesNone _ = Unit {0}

  -- None of these replies gives a service.
  abbrev pub GiveNone : List (SlotStep S E × SlotReply S E) → Type 0
  GiveNone served = AllByRecursion (λ entry. GivesNone entry.1) served

  -- At some entry the service was put into the slot, and no service was given since.
  abbrev pub PutBefore : S → List (SlotStep S E × SlotReply S E) → Type 0
  PutBefore service [] = ⊥
  PutBefore service (entry ∷ rest) = ((entry.0 ≡ Put service) × (entry.1 ≡ Done) × GiveNone rest) ⊎ PutBefore service rest

-- A service that comes back was put into the slot by a task, and each that was put there comes back at most once.
abbrev pub ComesFromATask : (S E : Type 0) → Type 0
ComesFromATask S E = (served : List (SlotStep S E × SlotReply S E)) (last after : Slot S E) (service : S)
    → Serves SlotSteps Idle served last → SlotSteps last Look (Service service) after → PutBefore service served
