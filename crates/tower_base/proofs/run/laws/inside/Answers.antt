use Rattle.tower_base.specs.ServiceRun.{relations}
use Rattle.tower_base.proofs.DriveRuns.{drives_project}
use Rattle.tower_base.proofs.run.laws.inside.Goals as goal

pub returns : goal.returns
returns g c = drives_project g.W.Service g.W.Future.Steps.stepped _ (relations g.L.Service) g.W.Contains.inside g.W.Contains.goes g.met.W.Contains.projects
