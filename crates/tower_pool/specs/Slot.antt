-- The slot of a task that drives a service to readiness.
use Rattle.std.specs.Prelude.{◌≡◌, ◌≢◌, ◌⊎◌, ℕ, Bool, true, false}
use Rattle.tower_latch.specs.declared.Wakes.{Wakes}
use Rattle.tower_latch.specs.declared.Wakes.TheVariants.{Wait, All}
use Rattle.tower_pool.specs.declared.spawn_ready.slot_core.Slot.{Slot}
use Rattle.tower_pool.specs.declared.spawn_ready.slot_core.Slot.TheVariants.{Idle, Running, Holds, Failed, Ended, Aborted}
use Rattle.tower_pool.specs.declared.spawn_ready.slot_core.SlotStep.{SlotStep}
use Rattle.tower_pool.specs.declared.spawn_ready.slot_core.SlotStep.TheVariants.{Start, Put, PutError, Abort, TaskGone, Look, Aborted as IsAborted}
use Rattle.tower_pool.specs.declared.spawn_ready.slot_core.SlotReply.{SlotReply}
use Rattle.tower_pool.specs.declared.spawn_ready.slot_core.SlotReply.TheVariants.{Done, Back, Truth, Waiting, Service, Error, Lost, Unknown}

-- The reply to a step, and the slot after it. Once aborted a slot stays so, and a step that doesn't fit changes nothing. The step `Aborted`, here
-- `IsAborted`, asks whether the slot is aborted.
abbrev pub slot_step : {S E : Type 0} → Slot S E → SlotStep S E → SlotReply S E × Slot S E
slot_step Idle Start = (Done, Running)
slot_step Running (Put service) = (Done, Holds service)
slot_step Running (PutError e) = (Done, Failed e)
slot_step Running TaskGone = (Done, Ended)
slot_step Running Look = (Waiting, Running)
slot_step (Holds service) Look = (Service service, Idle)
slot_step (Failed e) Look = (Error e, Ended)
slot_step Ended Look = (Lost, Ended)
slot_step Aborted (Put service) = (Back service, Aborted)
slot_step Aborted (PutError e) = (Done, Aborted)
slot_step Aborted IsAborted = (Truth true, Aborted)
slot_step old IsAborted = (Truth false, old)
slot_step old Abort = (Done, Aborted)
slot_step old TaskGone = (Done, old)
slot_step old step = (Unknown, old)

-- The caller has to wait: the owner, since the service isn't there yet, or the task, since there is no abort yet.
abbrev pub is_waiting : {S E : Type 0} → SlotReply S E → Bool
is_waiting Waiting = true
is_waiting (Truth false) = true
is_waiting _ = false

-- one step of a slot
abbrev pub SlotSteps : {S E : Type 0} → Slot S E → SlotStep S E → SlotReply S E → Slot S E → Type 0
SlotSteps old step reply new = (reply, new) ≡ slot_step old step

-- the key at which the caller waits: the owner waits at 0 for the service, and the task at 1 for an abort
abbrev pub key_of : {S E : Type 0} → SlotReply S E → ℕ
key_of (Truth false) = 1
key_of _ = 0

-- who waits, and who may go on, after this reply
abbrev pub wakes_of : {S E : Type 0} → SlotReply S E → Wakes
wakes_of Waiting = Wait 0
wakes_of (Truth false) = Wait 1
wakes_of _ = All

-- The step asks again at this key.
abbrev pub Asks : {S E : Type 0} → SlotStep S E → ℕ → Type 0
Asks Look key = key ≡ 0
Asks IsAborted key = key ≡ 1
Asks _ key = ⊥

-- The owner waits while the task runs, and the task while the slot isn't aborted.
abbrev pub Stalls : {S E : Type 0} → Slot S E → ℕ → Type 0
Stalls slot key = ((key ≡ 0) × (slot ≡ Running)) ⊎ ((key ≡ 1) × (slot ≢ Aborted))
