use Rattle.std.proofs.Common.{refl}
use Rattle.tower_meter.proofs.Tallies.{adds_call}
use Rattle.tower_meter.proofs.reading.Reading.begin.Goals as goal

pub returns : goal.returns
returns c = record { same = refl; adds = λ steps s. adds_call _ _ _ steps s refl refl refl refl refl c.max-self.ensures refl refl refl refl refl refl }
