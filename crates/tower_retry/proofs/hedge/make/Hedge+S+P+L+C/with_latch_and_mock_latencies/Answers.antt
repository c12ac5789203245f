use Rattle.std.proofs.Common.{refl}
use Rattle.tower_retry.proofs.HedgeLemmas.{if_ok}
use Rattle.tower_retry.proofs.hedge.make.Hedge+S+P+L+C.with_latch_and_mock_latencies.Goals as goal

pub returns : goal.returns
returns g c = if_ok c.with_histogram.result _ _ c.with_histogram.ensures (λ hedge made. record {
  empty = c.with_latch-histogram.result;
  has_latch = rw c.with_latch-histogram.ensures refl;
  shares = rw c.with_latch-histogram.ensures c.share.ensures;
  histogram = c.seed_all.new.self;
  seeded = c.seed_all.ensures;
  parts = made;
})
