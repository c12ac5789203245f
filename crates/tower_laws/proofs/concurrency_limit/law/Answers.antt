use Rattle.tower_laws.proofs.ConcurrencyLimitLemmas.{responses_hold, polls_keep}
use Rattle.tower_laws.proofs.concurrency_limit.law.Goals as goal

pub returns : goal.returns
returns g c = record { runs = responses_hold g.L.Latch g.S.Service; polls = polls_keep g.L.Latch g.S.Future.Steps }
