use Rattle.tower.proofs.util.runs.block_on_each_within_rate.Goals as goal

pub returns-clause-rate : goal.returns-clause-rate
returns-clause-rate g c =
    let told = c.in_ok-block_on_each.ensures.told in
    c.within_rate.ensures _ _ _ (c.loops.ensures _ _ _ _ _ told.1)

pub returns-clause-bound : goal.returns-clause-bound
returns-clause-bound g c num per stands =
    let told = c.in_ok-block_on_each.ensures.told in
    let kept = c.within_rate.ensures _ _ _ (c.loops.ensures _ _ _ _ _ told.1) in
    record { kept = kept; bound = kept.bound num per stands }
