use Rattle.std.proofs.Common.{sym, ◌∙◌}
use Rattle.tower_retry.proofs.HedgeLemmas.{if_ok}
use Rattle.tower_retry.proofs.hedge.make.Hedge+S+P+Guarded+HistoCore+R+C.new_with_mock_latencies.Goals as goal

pub returns : goal.returns
returns g c = if_ok c.with_latch_and_mock_latencies.result _ _ c.with_latch_and_mock_latencies.ensures (λ hedge made. record { latch = c.in_ok-latch.latch; lasts = c.in_ok-latch.ensures.terms ∙ sym c.new-core.ensures.made.period; left = c.now.new.self; read = c.now.ensures.read; from = made })
