use Rattle.tower_pool.specs.Balance.{view_of}
use Rattle.tower_pool.proofs.BalanceStirs.{stirs_changed, stirs_failed, stirs_served}
use Rattle.tower_pool.proofs.StirsLemmas.{quiet_by, quiet_then}
use Rattle.tower_pool.proofs.balance.p2c.service.BalanceService.poll_ready.Goals as goal

pub returns-in-Err-clause-quiet : goal.returns-in-Err-clause-quiet
returns-in-Err-clause-quiet g c =
    quiet_by (stirs_failed g.K.PartialEq.eq g.S.Service g.S.Load.loaded g.S.Metric.PartialOrd.partial_cmp g.R.Rng.drew g.D.Discover.discovered g.D.Discover.stirs (view_of c.args.self.now) (view_of c.update.new.self) c.in-Err.error)
    (rw c.in-Err.is at c.update.ensures.quiet)

pub returns-in-Ok-clause-quiet : goal.returns-in-Ok-clause-quiet
returns-in-Ok-clause-quiet g c =
    quiet_then (stirs_changed g.K.PartialEq.eq g.S.Service g.S.Load.loaded g.S.Metric.PartialOrd.partial_cmp g.R.Rng.drew g.D.Discover.discovered g.D.Discover.stirs (view_of c.args.self.now) (view_of c.update.new.self) _ _ (view_of c.serve.new.self) c.serve.ensures.served)
    (stirs_served g.K.PartialEq.eq g.S.Service g.S.Load.loaded g.S.Metric.PartialOrd.partial_cmp g.R.Rng.drew g.D.Discover.discovered g.D.Discover.stirs _ _) c.update.ensures.quiet c.serve.ensures.quiet
