use Rattle.tower_pool.proofs.StirsLemmas.{quiet_ever}
use Rattle.tower_pool.proofs.spawn_ready.service.SpawnReady.poll_service.Goals as goal

pub returns-clause-quiet : goal.returns-clause-quiet
returns-clause-quiet g c = quiet_ever g.S.Service.stirs _ _ c.poll_ready.ensures.quiet
