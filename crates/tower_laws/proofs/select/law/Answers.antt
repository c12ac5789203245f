use Rattle.tower_laws.proofs.SelectLemmas.{first_else_second}
use Rattle.tower_laws.proofs.select.law.Goals as goal

pub returns : goal.returns
returns g c = first_else_second g.A.Future.Steps g.B.Future.Steps
