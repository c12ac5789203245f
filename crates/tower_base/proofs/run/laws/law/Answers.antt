use Rattle.tower_base.proofs.DriveRuns.{runs_make}
use Rattle.tower_base.proofs.run.laws.law.Goals as goal

pub returns : goal.returns
returns g c = runs_make g.S.Service g.S.Future.Steps.stepped _
