use Rattle.tower_limit.proofs.RateBound
use Rattle.tower_limit.proofs.limit.rate.laws.law.Goals as goal

pub returns : goal.returns
returns c = record { bounded = RateBound.bounded }
