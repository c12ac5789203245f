use Rattle.tower_laws.proofs.LimitedRuns.{runs_hold}
use Rattle.tower_laws.proofs.limited.law.Goals as goal

pub returns : goal.returns
returns g c = runs_hold g.L.Latch g.S.Service g.S.Future.Steps.stepped _ g.S.Limited.over g.S.Limited.inside g.met.S.Limited.keeps
