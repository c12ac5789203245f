use Rattle.tower.proofs.WaitRates.{runs_within}
use Rattle.tower.proofs.util.runs.within_rate.Goals as goal

pub returns : goal.returns
returns g c = runs_within g.W.Service g.S.Service g.C.Clock g.W.Contains.inside g.W.Contains.goes g.met.C.Monotonic.forward g.met.W.Contains.projects
