use Rattle.tower_ware.proofs.SteerRuns.{steer}
use Rattle.tower_ware.proofs.steer.projection.Goals as goal

pub returns : goal.returns
returns g c = λ index other. steer g.S.Service g.F.Picker index other
