use Rattle.tower_laws.proofs.AsyncFilterLemmas.{checks_first}
use Rattle.tower_laws.proofs.async_filter.law.Goals as goal

pub returns : goal.returns
returns g c = checks_first g.S.Service g.S.Future.Steps g.U.Future.Steps g.S.Clone g.U.AsyncPredicate
