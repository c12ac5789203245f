use Rattle.std.proofs.Common.{◌≡◌, ◌-◌, ◌/◌}
use Rattle.std.specs.Prelude.{max}
use Rattle.tower_limit.proofs.HistoCoreLemmas.{max_right}
use Rattle.tower_limit.proofs.hedge.rotating_histogram.histo_core.HistoCore.rotate.Goals as goal

pub returns-then-period-self : goal.returns-then-period-self
returns-then-period-self c = λ h s.
    let is : max h.present ((c.args.moment - h.made) / h.period) ≡ c.saturating_sub.result / c.args.self.now.period =
    rw (s.made, s.period, s.present, ← c.saturating_sub.ensures) (max_right _ _ c.if-period-self.true) in
    rw is (c.move_to.ensures h s)
