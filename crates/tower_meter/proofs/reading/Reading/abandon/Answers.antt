use Rattle.std.proofs.Common.{refl}
use Rattle.tower_meter.proofs.Tallies.{adds_abandon}
use Rattle.tower_meter.proofs.reading.Reading.abandon.Goals as goal

pub returns : goal.returns
returns c = record { same = refl; adds = λ steps s. adds_abandon _ _ _ steps s c.requires refl refl refl refl refl refl refl refl refl refl refl refl }
