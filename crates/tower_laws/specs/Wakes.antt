-- Whom a step wakes, of the line of permits and of a slot.
use Rattle.std.specs.Prelude.{◌≡◌, ◌≢◌, ℕ}
use Rattle.tower_latch.specs.Latch.{StepsAs}
use Rattle.tower_latch.specs.WaitQueue.{stalls}
use Rattle.tower_latch.specs.Wakes.{IsWoken, NamesAll}
use Rattle.tower_latch.specs.declared.Wakes.{Wakes}
use Rattle.tower_limit.specs.Line.{LineSteps}
use Rattle.tower_limit.specs.LineCore.{StandsFor}
use Rattle.tower_limit.specs.declared.limit.concurrency.line_core.LineCore.{LineCore}
use Rattle.tower_limit.specs.declared.limit.concurrency.line_core.LineStep.{LineStep}
use Rattle.tower_limit.specs.declared.limit.concurrency.line_core.LineReply.{LineReply}
use Rattle.tower_pool.specs.Slot.{SlotSteps, Stalls}
use Rattle.tower_pool.specs.declared.spawn_ready.slot_core.Slot.{Slot}
use Rattle.tower_pool.specs.declared.spawn_ready.slot_core.Slot.TheVariants.{Running, Aborted}
use Rattle.tower_pool.specs.declared.spawn_ready.slot_core.SlotStep.{SlotStep}
use Rattle.tower_pool.specs.declared.spawn_ready.slot_core.SlotStep.TheVariants.{Abort}
use Rattle.tower_pool.specs.declared.spawn_ready.slot_core.SlotReply.{SlotReply}

-- The ticket with this key waits in the line, and has no permit yet.
abbrev pub Waits : LineCore → ℕ → Type 0
Waits core key = stalls core.queue key

-- A ticket that waits for a permit is woken by the step that frees one for it, or ends its wait.
abbrev pub TicketsAreNamed : Type 0
TicketsAreNamed = (old new : LineCore) (step : LineStep) (reply : LineReply) (wakes : Wakes) → StepsAs StandsFor LineSteps old step reply new
    → NamesAll Waits old new wakes → (key : ℕ) → Waits old key → ¬ (Waits new key) → IsWoken Waits new wakes key

module _ (S E : Type 0) where
  -- P holds for each step of a slot that names all who no longer stall.
  abbrev pub OfEach : (Slot S E → SlotStep S E → Slot S E → Wakes → Type 0) → Type 0
  OfEach P = (old new : Slot S E) (step : SlotStep S E) (reply : SlotReply S E) (wakes : Wakes) → SlotSteps old step reply new → NamesAll Stalls old new wakes → P old step new wakes

  -- The owner, which waits while the task runs, is woken by the step that ends this: a service, an error, or the end of the task.
  abbrev pub OwnerIsNamed : Type 0
  OwnerIsNamed = OfEach (λ old step new wakes. old ≡ Running → new ≢ Running → IsWoken Stalls new wakes 0)

  -- The task is woken by the first abort.
  abbrev pub TaskIsNamed : Type 0
  TaskIsNamed = OfEach (λ old step new wakes. old ≢ Aborted → step ≡ Abort → IsWoken Stalls new wakes 1)
