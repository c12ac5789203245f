use Rattle.tower_limit.proofs.RateRuns.{runs_bounded, runs_forward, rate_limit}
use Rattle.tower_limit.proofs.limit.rate.run.law.Goals as goal

pub returns : goal.returns
returns g c = record {
  bounded = runs_bounded g.S.Service g.C.Clock;
  forward = runs_forward g.S.Service g.C.Clock;
  inside = rate_limit g.S.Service g.C.Clock;
}
