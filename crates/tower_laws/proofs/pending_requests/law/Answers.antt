use Rattle.tower_laws.proofs.PendingRequestsLemmas.{load_is_pending, loads_are_pending, loads_in_history}
use Rattle.tower_laws.proofs.pending_requests.law.Goals as goal

pub returns : goal.returns
returns g c = record { runs = load_is_pending; loads = λ pending. loads_are_pending g.L.Latch pending (g.met.L.Latch.honest pending.latch); history = loads_in_history }
