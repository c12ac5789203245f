use Rattle.tower_laws.proofs.BufferLemmas.{order, outcomes, errors, worker_settles}
use Rattle.tower_laws.proofs.buffer.law.Goals as goal

pub returns : goal.returns
returns g c = record { order = order; outcomes = outcomes; errors = errors; worker = worker_settles g.L.Latch.gave g.S.Service }
