use Rattle.std.proofs.Common.{All, ◌||◌, ap, sym, subst, ◌∙◌}
use Rattle.tower_pool.specs.ReadyCache.{Askable, At, Sound, is_pending}
use Rattle.tower_pool.specs.Pending.{knows}
use Rattle.tower_pool.proofs.CacheLemmas.{called_of, same_view}
use Rattle.tower_pool.proofs.KeptLemmas.{kept_back, known_at}
use Rattle.tower_pool.proofs.PlaceLemmas.{All-swap_remove, for_some, inside, one_less, taken}
use Rattle.tower_pool.proofs.PendingLemmas.{All-put_back}
use Rattle.tower_pool.proofs.ready_cache.cache.ReadyCache.call_ready_index.Goals as goal

pub put_back-requires-clause-known : goal.put_back-requires-clause-known
put_back-requires-clause-known g c =
    let u = c.unwrap-key.result in
    c.self.invariant.known u.0 ∙ (λ j. known_at g.K.PartialEq.eq g.met.K.Eq.laws c.self.inside.ready.entries c.args.index u.0 u.1 (sym c.swap_remove_index.ensures.entry ∙ c.unwrap-key.ensures) j || is_pending g.K.PartialEq.eq u.0 c.self.inside.pending.items)

pub invariant_of-self : goal.invariant_of-self
invariant_of-self g c =
    let u = c.unwrap-key.result in
    kept_back g.K.PartialEq.eq g.met.K.Eq.laws g.K.Clone.is_clone c.self.inside.ready.entries c.self.inside.pending.items (knows g.K.PartialEq.eq c.self.inside.pending) c.self.inside.pending.room c.self.invariant u.0
    c.swap_remove_index.new.self.entries (for_some _ u _ c.unwrap-key.ensures c.swap_remove_index.ensures.updates).0 c.put_back.new.self.items (knows g.K.PartialEq.eq c.put_back.new.self) c.put_back.new.self.room c.put_back.ensures.room
    c.call-future.new.self (one_less _ _ _ _ c.unwrap-key.ensures c.swap_remove_index.ensures.len)
    (known_at g.K.PartialEq.eq g.met.K.Eq.laws c.self.inside.ready.entries c.args.index u.0 u.1 (sym c.swap_remove_index.ensures.entry ∙ c.unwrap-key.ensures))
    c.put_back.ensures.items c.put_back.ensures.knows

pub returns-clause-called : goal.returns-clause-called
returns-clause-called g c =
    let u = c.unwrap-key.result in
    let es = c.self.inside.ready.entries in
    let there = sym c.swap_remove_index.ensures.entry ∙ c.unwrap-key.ensures in
    let at = subst (λ v. At v.lists.ready c.args.index (λ e. g.S.Service.ready e.1)) (sym c.self.view_is) c.requires.ready in
    called_of g.K.PartialEq.eq g.S.Service _ _ (ap (λ v. v.lists) c.self.view_is) c.args.index c.args.request _ _ u c.call-future.new.self there
    (subst (λ p. g.S.Service.ready p.1) (sym (taken es c.args.index at.0 u at.1 there)) at.2) c.call-future.ensures.called
    (same_view _ _ _ _ (for_some _ u _ c.unwrap-key.ensures c.swap_remove_index.ensures.entries) c.put_back.ensures.items)

pub returns-clause-sound : goal.returns-clause-sound
returns-clause-sound g c =
    let u = c.unwrap-key.result in
    let there = sym c.swap_remove_index.ensures.entry ∙ c.unwrap-key.ensures in
    let s = subst (λ v. Sound g.S.Service.sound v.lists) (sym c.self.view_is) c.requires.sound in
    record {
      ready = subst (All (λ e. g.S.Service.sound e.1)) (sym (for_some _ u _ c.unwrap-key.ensures c.swap_remove_index.ensures.entries))
          (All-swap_remove (λ e. g.S.Service.sound e.1) _ _ _ (inside _ _ _ there) s.ready);
      pending = subst (All (Askable g.S.Service.sound)) (sym c.put_back.ensures.items)
          (All-put_back _ g.met.K.Eq.laws g.S.Service.sound _ _ _ c.call-future.ensures.sound s.pending);
    }
