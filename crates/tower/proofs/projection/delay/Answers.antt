use Rattle.tower.specs.Projections.{delay, delayed}
use Rattle.tower.proofs.projection.delay.Goals as goal

pub returns : goal.returns
returns g c = record {
  inside = delay g.S.Service g.P.Policy g.S.Clone g.C.Clock;
  future = λ old new answer. delayed g.S.Service g.S.Future.Steps.stepped g.C.Clock old answer new;
}
