use Rattle.tower_ware.specs.Projections.{filter}
use Rattle.tower_ware.proofs.filter.projection.Goals as goal

pub returns : goal.returns
returns g c = filter g.S.Service g.U.Predicate
