use Rattle.tower_laws.proofs.FilterLemmas.{runs_let_through}
use Rattle.tower_laws.proofs.filter.law.Goals as goal

pub returns : goal.returns
returns g c = runs_let_through g.S.Service g.S.Future.Steps g.U.Predicate
