use Rattle.std.proofs.Common.{refl, sym, ◌∙◌}
use Rattle.tower_limit.specs.Histogram.{rotated, present_of}
use Rattle.tower_limit.proofs.HistoCoreLemmas.{is_quantile, present_same}
use Rattle.tower_limit.proofs.hedge.rotating_histogram.histo_core.HistoCore.quantile.Goals as goal

pub returns : goal.returns
returns c = λ plain s.
    let mid = c.rotate.ensures plain s in
    let h = rotated plain c.args.moment in
    let now = c.rotate.new.self.read in
    (h, (c.quantile.ensures ∙ sym (is_quantile now (present_of h) c.args.part (present_same _ _ _ _ _ h mid)), refl), mid)
