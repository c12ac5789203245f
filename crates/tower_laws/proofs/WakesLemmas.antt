-- Whom a step wakes, of the line of permits and of a slot.
use Rattle.std.proofs.Common.{◌≡◌, inl, inr, ℕ, refl, ap, ◌∙◌}
use Rattle.tower_latch.proofs.Settling.{spared_stalls}
use Rattle.tower_latch.specs.Wakes.{IsWoken, NamesAll}
use Rattle.tower_latch.specs.declared.Wakes.{Wakes}
use Rattle.tower_laws.specs.Wakes.{TicketsAreNamed, OwnerIsNamed, TaskIsNamed, Waits}
use Rattle.tower_pool.specs.Slot.{Stalls, slot_step}
use Rattle.tower_pool.specs.declared.spawn_ready.slot_core.Slot.{Slot}
use Rattle.tower_pool.specs.declared.spawn_ready.slot_core.Slot.TheVariants.{Idle, Running, Holds, Failed, Ended, Aborted}
use Rattle.tower_pool.specs.declared.spawn_ready.slot_core.SlotStep.{SlotStep}
use Rattle.tower_pool.specs.declared.spawn_ready.slot_core.SlotStep.TheVariants.{Abort}
use Rattle.tower_pool.specs.declared.spawn_ready.slot_core.SlotReply.{SlotReply}

module _ {C : Type 0} (stalls : C → ℕ → Type 0) where
  -- whoever stalls no more is woken
  woken : (old new : C) (wakes : Wakes) → NamesAll stalls old new wakes → (key : ℕ) → stalls old key → (stalls new key → ⊥) → IsWoken stalls new wakes key
  woken old new wakes names key was gone = elim (names.0 key was) [
    | inl still ↦ absurd (gone still)
    | inr named ↦ (named, λ spared. gone (spared_stalls (stalls new) wakes key spared))
  ]

pub tickets_named : TicketsAreNamed
tickets_named old new step reply wakes s names key was gone = woken Waits old new wakes names key was gone

module _ {S E : Type 0} where
  not_owner : (new : Slot S E) → (new ≡ Running → ⊥) → Stalls new 0 → ⊥
  not_owner new gone (inl s) = gone s.1
  not_owner new gone (inr s) = absurd (cc s.0)

  pub owner_named : OwnerIsNamed S E
  owner_named old new step reply wakes s names was gone = woken Stalls old new wakes names 0 (inl (refl, was)) (not_owner new gone)

  not_task : (new : Slot S E) → new ≡ Aborted → Stalls new 1 → ⊥
  not_task new is (inl s) = absurd (cc s.0)
  not_task new is (inr s) = s.1 is

  aborted : (old : Slot S E) → (slot_step old Abort).1 ≡ Aborted
  aborted Idle = refl
  aborted Running = refl
  aborted (Holds service) = refl
  aborted (Failed e) = refl
  aborted Ended = refl
  aborted Aborted = refl

  pub task_named : TaskIsNamed S E
  task_named old new step reply wakes s names was is =
      woken Stalls old new wakes names 1 (inr (refl, was))
      (not_task new (ap (λ (p : SlotReply S E × Slot S E). p.1) s ∙ ap (λ (m : SlotStep S E). (slot_step old m).1) is ∙ aborted old))
