use Rattle.tower_retry.proofs.RetryLemmas.{gives_answers}
use Rattle.tower_retry.proofs.retry.laws.law.Goals as goal

pub returns : goal.returns
returns g c = record { attempts = gives_answers g.S.Service g.S.Future.Steps.stepped g.P.Policy g.P.Future.Steps.stepped g.P.Clone g.S.Clone }
