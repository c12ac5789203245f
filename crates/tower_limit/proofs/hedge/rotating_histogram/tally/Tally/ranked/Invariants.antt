use Rattle.std.proofs.Common.{◌≡◌, ◌-◌, ◌≤◌, slice_index_or}
use Rattle.tower_limit.specs.HistoCore.{flat}
use Rattle.tower_limit.proofs.hedge.rotating_histogram.tally.Tally.ranked.Given as goal

abbrev pub invariant-loop-millis : goal.invariant-loop-millis
invariant-loop-millis l = record {
  next : (goal.iterator-loop-millis).can_next l.millis-iterator;
  finite : (goal.iterator-loop-millis).is_finite l.millis-iterator;
  some : 1 ≤ l.left;
  place : slice_index_or (flat l.fn.self.counts.entries) (l.fn.rank - 1) 0 ≡ slice_index_or (flat l.millis-iterator) (l.left - 1) 0;
}
