use Rattle.std.proofs.Common.{refl}
use Rattle.tower_meter.proofs.Tallies.{adds_unready}
use Rattle.tower_meter.proofs.reading.Reading.unready.Goals as goal

pub returns : goal.returns
returns c = record { same = refl; adds = λ steps s. adds_unready _ _ _ steps s c.args.nanos refl refl refl refl refl refl refl refl refl refl refl refl }
