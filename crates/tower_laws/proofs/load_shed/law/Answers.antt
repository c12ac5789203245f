use Rattle.tower_laws.proofs.LoadShedLemmas.{calls_reach, answers_or_sheds}
use Rattle.tower_laws.proofs.load_shed.law.Goals as goal

pub returns : goal.returns
returns g c = record { calls = calls_reach g.S.Service; answers = answers_or_sheds g.S.Future.Steps }
