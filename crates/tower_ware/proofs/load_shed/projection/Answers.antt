use Rattle.tower_ware.specs.Projections.{load_shed}
use Rattle.tower_ware.proofs.load_shed.projection.Goals as goal

pub returns : goal.returns
returns g c = load_shed g.S.Service
