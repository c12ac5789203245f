use Rattle.tower_laws.proofs.ReadyCacheLemmas.{no_key_is_lost, pushed_is_there}
use Rattle.tower_laws.proofs.ready_cache.law.Goals as goal

pub returns : goal.returns
returns g c = record {
  lost = no_key_is_lost g.K.PartialEq.eq g.met.K.Eq.laws g.S.Service;
  pushed = pushed_is_there g.K.PartialEq.eq g.met.K.Eq.laws g.S.Service;
}
