use Rattle.tower_laws.proofs.DelayLemmas.{calls_after_delay}
use Rattle.tower_laws.proofs.delay.law.Goals as goal

pub returns : goal.returns
returns g c = calls_after_delay g.S.Service g.S.Future.Steps.stepped g.C.Clock g.P.Policy g.S.Clone
