use Rattle.tower_ware.specs.Reconnect.{view_of}
use Rattle.tower_ware.proofs.ReconnectRuns.{reconnect}
use Rattle.tower_ware.proofs.reconnect.projection.Goals as goal

pub returns : goal.returns
returns g c = reconnect g.M.Service g.M.Future.Steps g.S.Service g.Target.Clone view_of
