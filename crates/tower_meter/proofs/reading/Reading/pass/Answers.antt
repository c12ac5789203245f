use Rattle.std.proofs.Common.{refl}
use Rattle.tower_meter.proofs.Tallies.{adds_uncounted}
use Rattle.tower_meter.proofs.reading.Reading.pass.Goals as goal

pub returns : goal.returns
returns c = record { same = refl; adds = λ steps s. adds_uncounted _ _ _ steps s refl refl refl refl refl refl refl refl refl refl refl refl }
