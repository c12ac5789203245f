-- Which steps a `MeterCore` stands for.
use Rattle.std.specs.Prelude.{◌≡◌, List, []}
use Rattle.tower_latch.specs.Latch.{FollowsMachine}
use Rattle.tower_meter.specs.Tally.{MeterSteps, Shows}
use Rattle.tower_meter.specs.declared.meter_core.MeterCore.{MeterCore}
use Rattle.tower_meter.specs.declared.meter_core.MeterStep.{MeterStep}
use Rattle.tower_meter.specs.declared.meter_core.MeterReply.{MeterReply}

-- The core's reading is that of these steps.
abbrev pub StandsFor : MeterCore → List MeterStep → Type 0
StandsFor core steps = Shows core.reading steps

-- No step was counted yet.
abbrev pub Opens : MeterCore → Type 0
Opens core = StandsFor core []

-- The core follows the machine of its bounds, and keeps them.
pub record Follows (old : MeterCore) (step : MeterStep) (reply : MeterReply) (new : MeterCore) : Type 0 where
  pub same : new.reading.bounds ≡ old.reading.bounds
  pub goes : FollowsMachine StandsFor (MeterSteps old.reading.bounds) old step reply new
