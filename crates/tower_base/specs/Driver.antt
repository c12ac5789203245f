-- The state that the code's `Driver` represents.
use Rattle.std.specs.Prelude.{◌≡◌, true, All}
use Rattle.tower_base.specs.Drive.{State}
use Rattle.tower_base.specs.declared.drive.Driver.{Driver}
use Rattle.tower_base.specs.declared.drive.Slot.{Slot}
use Rattle.tower_base.specs.declared.drive.Slot.TheVariants.{Live, Finished, Dropped}

abbrev pub state_of : {S F O : Type 0} → Driver S F O → State S F O
state_of driver = record { service = driver.service; futures = driver.futures.items; may_call = driver.may_call; outside = driver.outside }

-- A live future may be polled.
abbrev pub CanStep : {F : Type 0} → (F → Type 0) → Slot F → Type 0
CanStep can_poll (Live f) = can_poll f
CanStep can_poll (Finished f) = Unit {0}
CanStep can_poll Dropped = Unit {0}

-- The service is sound, and ready if a call may be made. Each live future may be polled, and the closure may be called.
pub record Sound {S F O : Type 0} (sound ready : S → Type 0) (can_poll : F → Type 0) (callable : O → Type 0) (driver : Driver S F O) : Type 0 where
  pub kept : sound driver.service
  pub service : driver.may_call ≡ true → ready driver.service
  pub futures : All (CanStep can_poll) driver.futures.items
  pub outside : callable driver.outside
