use Rattle.tower.specs.WaitRunsLemmas.{waits_run}
use Rattle.tower.proofs.util.runs.law.Goals as goal

pub returns : goal.returns
returns g c = waits_run g.S.Service g.S.Future.Steps.stepped
