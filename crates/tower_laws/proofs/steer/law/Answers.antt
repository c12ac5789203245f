use Rattle.tower_laws.proofs.SteerLemmas.{each_gets}
use Rattle.tower_laws.proofs.steer.law.Goals as goal

pub returns : goal.returns
returns g c = each_gets g.S.Service g.F.Picker
