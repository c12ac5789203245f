use Rattle.tower_pool.specs.Pending.{knows}
use Rattle.tower_pool.proofs.KeptLemmas.{kept_lent}
use Rattle.tower_pool.proofs.ready_cache.cache.ReadyCache.get_ready_mut.Goals as goal

pub invariant_of-self-lent : goal.invariant_of-self-lent
invariant_of-self-lent g c = λ _. (λ w. kept_lent g.K.PartialEq.eq g.met.K.Eq.laws g.K.Clone.is_clone c.self.inside.ready.entries c.self.inside.pending.items (knows g.K.PartialEq.eq c.self.inside.pending) c.self.inside.pending.room c.self.invariant c.in_ok-index.index w, c.self.invariant)
