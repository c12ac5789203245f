use Rattle.tower_ware.specs.LoadShedReady.{ready_after}
use Rattle.tower_ware.proofs.load_shed.law.Goals as goal

pub returns-clause-polled : goal.returns-clause-polled
returns-clause-polled g c = ready_after g.met.S.Service.readies
