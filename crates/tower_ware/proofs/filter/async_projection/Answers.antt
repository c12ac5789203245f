use Rattle.tower_ware.specs.Projections.{async_filter, async_future}
use Rattle.tower_ware.proofs.filter.async_projection.Goals as goal

pub returns : goal.returns
returns g c = record {
  inside = async_filter g.S.Service g.S.Clone g.U.AsyncPredicate;
  future = λ old new answer. async_future g.S.Service g.U.Future.Steps g.S.Future.Steps old answer new;
}
