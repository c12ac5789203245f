use Rattle.tower_pool.specs.SpawnReady.{view_of}
use Rattle.tower.proofs.SpawnReadyRuns.{spawn_ready, task}
use Rattle.tower.proofs.projection.spawn_ready.Goals as goal

pub returns : goal.returns
returns g c = record {
  inside = spawn_ready g.S.Service g.L.Latch g.X.Executor view_of _;
  task = λ old new answer. task g.S.Service g.L.Latch old answer new;
}
