use Rattle.tower_laws.proofs.BalanceLemmas.{calls_reach, keeps_chosen, endpoints_came}
use Rattle.tower_laws.proofs.balance.law.Goals as goal
use Rattle.tower_pool.specs.Balance.{view_of}

pub returns : goal.returns
returns g c =
    let eq = g.K.PartialEq.eq in
    let loaded = g.S.Load.loaded in
    let cmp = g.S.Metric.PartialOrd.partial_cmp in
    record {
      calls = calls_reach view_of eq g.met.K.Eq.laws g.S.Service loaded cmp g.R.Rng.drew g.D.Discover.discovered;
      chosen = keeps_chosen view_of eq g.met.K.Eq.laws g.S.Service loaded cmp g.R.Rng.drew g.D.Discover.discovered;
      endpoints = endpoints_came view_of eq g.met.K.Eq.laws g.S.Service loaded cmp g.R.Rng.drew g.D.Discover.discovered;
    }
