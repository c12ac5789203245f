use Rattle.tower_laws.proofs.RetryCalls.{answers_count_calls}
use Rattle.tower_laws.proofs.retry.law.Goals as goal

pub returns : goal.returns
returns g c = answers_count_calls g.S.Service g.S.Future.Steps.stepped g.P.Policy g.P.Future.Steps.stepped g.P.Clone g.S.Clone
