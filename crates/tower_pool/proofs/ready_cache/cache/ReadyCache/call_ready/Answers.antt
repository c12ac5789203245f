use Rattle.std.proofs.Common.{◌∙◌, ap, sym, subst}
use Rattle.tower_pool.specs.ReadyCache.{At, place}
use Rattle.tower_pool.proofs.AskLemmas.{when_some}
use Rattle.tower_pool.proofs.ready_cache.cache.ReadyCache.call_ready.Goals as goal

pub call_ready_index-requires-clause-ready : goal.call_ready_index-requires-clause-ready
call_ready_index-requires-clause-ready g c =
    let at = c.requires.ready in
    let same = ap (λ v. place g.K.PartialEq.eq c.args.key.now v.lists.ready) c.self.view_is in
    let is = when_some at.0 c.unwrap-index.result (sym at.1 ∙ sym same ∙ sym c.get_index_of.ensures.index ∙ c.unwrap-index.ensures) in
    subst (λ i. At c.args.self.now.lists.ready i (λ e. g.S.Service.ready e.1)) is at.2
