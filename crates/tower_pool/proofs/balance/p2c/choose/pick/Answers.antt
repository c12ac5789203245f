use Rattle.std.proofs.Common.{◌≤◌, true, false, arith}
use Rattle.tower_pool.proofs.BalanceLemmas.{picked_two}
use Rattle.tower_pool.proofs.balance.p2c.choose.pick.Goals as goal

pub returns-then-is_lighter-clause-picked : goal.returns-then-is_lighter-clause-picked
returns-then-is_lighter-clause-picked g c =
    let two : 2 ≤ c.ready_len-count.result = omega arith in
    picked_two g.S.Load.loaded g.S.Metric.PartialOrd.partial_cmp g.R.Rng.drew c.args.services.now.lists.ready c.ready_len-count.result c.sample_floyd2.result _ _ true
    c.ready_len-count.ensures.len two c.sample_floyd2.ensures.apart c.sample_floyd2.ensures.drawn (rw c.if-is_lighter.true at c.is_lighter.ensures)

pub returns-else-is_lighter-clause-picked : goal.returns-else-is_lighter-clause-picked
returns-else-is_lighter-clause-picked g c =
    let two : 2 ≤ c.ready_len-count.result = omega arith in
    picked_two g.S.Load.loaded g.S.Metric.PartialOrd.partial_cmp g.R.Rng.drew c.args.services.now.lists.ready c.ready_len-count.result c.sample_floyd2.result _ _ false
    c.ready_len-count.ensures.len two c.sample_floyd2.ensures.apart c.sample_floyd2.ensures.drawn (rw c.if-is_lighter.false at c.is_lighter.ensures)
