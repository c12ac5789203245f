use Rattle.tower_latch.proofs.Settling.{settled_alone}
use Rattle.tower_latch.proofs.guarded.Kept.new.Goals as goal

pub invariant_of-result-clause-settled : goal.invariant_of-result-clause-settled
invariant_of-result-clause-settled g c = settled_alone g.C.Core.stalls _ _ c.new.ensures
