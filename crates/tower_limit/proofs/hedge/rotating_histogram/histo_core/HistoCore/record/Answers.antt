use Rattle.tower_limit.proofs.HistoCoreLemmas.{takes_next}
use Rattle.tower_limit.proofs.hedge.rotating_histogram.histo_core.HistoCore.record.Goals as goal

pub returns : goal.returns
returns c = λ plain s. takes_next _ _ _ _ _ _ (c.rotate.ensures plain s) c.args.millis c.add.result c.add.new.self c.add.ensures
