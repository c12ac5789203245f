use Rattle.tower_pool.specs.Balance.{view_of}
use Rattle.tower.proofs.BalanceRuns.{balance}
use Rattle.tower.proofs.projection.balance.Goals as goal

pub returns : goal.returns
returns g c = balance g.K.PartialEq.eq g.S.Service g.D.Discover.discovered view_of g.S.Load.loaded g.S.Metric.PartialOrd.partial_cmp g.R.Rng.drew
