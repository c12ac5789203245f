use Rattle.std.proofs.Common.{◌∙◌, ap, slice_get}
use Rattle.std.specs.Option.{option_map}
use Rattle.tower_pool.specs.Pending.{knows}
use Rattle.tower_pool.proofs.KeptLemmas.{kept_lent}
use Rattle.tower_pool.proofs.PlaceLemmas.{value_there}
use Rattle.tower_pool.proofs.ready_cache.cache.ReadyCache.get_ready_index_mut.Goals as goal

pub invariant_of-self-lent : goal.invariant_of-self-lent
invariant_of-self-lent g c = λ _. (λ w. kept_lent g.K.PartialEq.eq g.met.K.Eq.laws g.K.Clone.is_clone c.self.inside.ready.entries c.self.inside.pending.items (knows g.K.PartialEq.eq c.self.inside.pending) c.self.inside.pending.room c.self.invariant c.args.index w, c.self.invariant)

pub returns : goal.returns
returns g c = (
  rw (← c.self.view_is),
  record {
    writes_back = tt;
    value = c.get_index_mut.ensures.value ∙ value_there c.self.inside.ready.entries c.args.index ∙ ap (λ v. option_map (λ e. e.1) (slice_get v.lists.ready c.args.index)) c.self.view_is;
  },
)
