use Rattle.tower_laws.proofs.ReconnectLemmas.{next_call_fails, only_last_fails, replies_give}
use Rattle.tower_laws.proofs.reconnect.law.Goals as goal
use Rattle.tower_ware.specs.Reconnect.{view_of}

pub returns : goal.returns
returns g c = record {
  calls = next_call_fails g.M.Service g.M.Future.Steps g.S.Service g.Target.Clone view_of;
  polls = only_last_fails g.M.Service g.M.Future.Steps g.S.Service g.Target.Clone;
  answers = replies_give g.S.Future.Steps;
}
