use Rattle.tower_limit.proofs.RateRuns.{keeps_rate}
use Rattle.tower_limit.proofs.limit.rate.run.drive_within_rate.Goals as goal

pub returns-clause-rate : goal.returns-clause-rate
returns-clause-rate g c =
    let ran = c.in_ok-transcript.ensures.run in
    (ran.0, ran.1, keeps_rate g.S.Service g.C.Clock g.W.Contains.goes _ _ _ g.met.C.Monotonic.forward (c.inside.ensures _ ran.0 _ _ ran.1))
