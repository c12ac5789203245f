use Rattle.tower_retry.proofs.RetryRuns.{retry, future_runs}
use Rattle.tower_retry.proofs.retry.laws.projection.Goals as goal

pub returns : goal.returns
returns g c = record {
  inside = retry g.S.Service g.S.Future.Steps.stepped g.P.Policy g.P.Future.Steps.stepped g.P.Clone g.S.Clone;
  future = λ old new answer. future_runs g.S.Service g.S.Future.Steps.stepped g.P.Policy g.P.Future.Steps.stepped old new answer;
}
