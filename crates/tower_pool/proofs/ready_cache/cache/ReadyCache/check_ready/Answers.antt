use Rattle.std.proofs.Common.{◌∙◌, Ok, ap, sym, position}
use Rattle.std.specs.Map.{keys_of}
use Rattle.tower_pool.proofs.CacheLemmas.{checked_keys, when_answered}
use Rattle.tower_pool.proofs.ready_cache.cache.ReadyCache.check_ready.Goals as goal

pub returns-in-Some-clause-ready : goal.returns-in-Some-clause-ready
returns-in-Some-clause-ready g c = when_answered c.check_ready_index.result _ _
    (λ is_ready answer ready now.
    let eq = g.K.PartialEq.eq in
    let stay = checked_keys eq g.S.Service c.args.self.now.lists c.in-Some.index _ c.check_ready_index.new.self.lists c.check_ready_index.ensures.checked (answer ∙ ap Ok now) in (
      c.in-Some.index,
      ap (position (eq c.args.key.now)) (stay ∙ ap (λ v. keys_of v.lists.ready) (sym c.self.view_is)) ∙ sym c.get_index_of.ensures.index ∙ c.in-Some.is,
      ready now,
    ))
    c.check_ready_index.ensures.ready
