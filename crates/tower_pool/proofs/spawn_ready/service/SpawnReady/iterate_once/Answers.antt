use Rattle.std.proofs.Common.{inl}
use Rattle.tower_pool.proofs.SpawnReadyLemmas.{begun_and_ended}
use Rattle.tower_pool.proofs.StirsLemmas.{quiet_then}
use Rattle.tower_pool.proofs.spawn_ready.service.SpawnReady.iterate_once.Goals as goal

pub returns-clause-iteration : goal.returns-clause-iteration
returns-clause-iteration g c =
    begun_and_ended g.S.Service g.L.Latch g.X.Executor _ _ _ _ _ c.poll_service-polled.ensures.begins c.end_iteration.ensures.ends

pub returns-clause-quiet : goal.returns-clause-quiet
returns-clause-quiet g c = quiet_then inl (λ h. h) c.poll_service-polled.ensures.quiet c.end_iteration.ensures.quiet
