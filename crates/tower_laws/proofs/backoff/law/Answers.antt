use Rattle.tower_laws.proofs.BackoffLemmas.{waits_double, makers_fit}
use Rattle.tower_laws.proofs.backoff.law.Goals as goal

pub returns : goal.returns
returns g c = record { waits = waits_double g.R.Rng g.C.Clock; makers = makers_fit _ _ }
