use Rattle.tower_laws.proofs.TimeoutLemmas.{answers_in_time}
use Rattle.tower_laws.proofs.timeout.law.Goals as goal

pub returns : goal.returns
returns g c = answers_in_time g.S.Service g.S.Future.Steps g.C.Clock
