use Rattle.tower.specs.WaitRunsLemmas.{loops_run}
use Rattle.tower.proofs.util.runs.loops.Goals as goal

pub returns : goal.returns
returns g c = loops_run g.S.Service g.S.Future.Steps.stepped (goal.F-step g)
