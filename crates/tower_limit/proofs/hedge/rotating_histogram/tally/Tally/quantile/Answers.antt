use Rattle.tower_limit.proofs.HistoCoreLemmas.{none_flat}
use Rattle.tower_limit.proofs.hedge.rotating_histogram.tally.Tally.quantile.Goals as goal

pub returns-then-self-eq0 : goal.returns-then-self-eq0
returns-then-self-eq0 c = none_flat c.args.self.now c.if-self-eq0.true _
