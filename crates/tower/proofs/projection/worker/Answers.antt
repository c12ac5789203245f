use Rattle.tower.proofs.WorkerRuns.{worker}
use Rattle.tower.proofs.projection.worker.Goals as goal

pub returns : goal.returns
returns g c = λ old new answer. worker g.L.Latch.gave g.S.Service old answer new
