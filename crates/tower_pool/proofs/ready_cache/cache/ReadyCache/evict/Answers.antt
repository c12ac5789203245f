use Rattle.std.proofs.Common.{All, sym, subst, arith}
use Rattle.tower_pool.specs.ReadyCache.{Askable, Sound}
use Rattle.tower_pool.proofs.PlaceLemmas.{All-swap_remove_entry}
use Rattle.tower_pool.specs.Pending.{knows}
use Rattle.tower_pool.proofs.KeptLemmas.{kept_evicted}
use Rattle.tower_pool.proofs.PendingLemmas.{All-cancel}
use Rattle.tower_pool.proofs.ready_cache.cache.ReadyCache.evict.Goals as goal

pub invariant_of-self : goal.invariant_of-self
invariant_of-self g c =
    kept_evicted g.K.PartialEq.eq g.met.K.Eq.laws g.K.Clone.is_clone c.self.inside.ready.entries c.self.inside.pending.items (knows g.K.PartialEq.eq c.self.inside.pending) c.self.inside.pending.room c.self.invariant c.args.key.now
    c.swap_remove.new.self.entries c.swap_remove.ensures.updates.0 c.evict-was_pending.new.self.items (knows g.K.PartialEq.eq c.evict-was_pending.new.self) c.evict-was_pending.new.self.room c.evict-was_pending.ensures.room
    (omega (arith, c.swap_remove.ensures.len)) c.evict-was_pending.ensures.items c.evict-was_pending.ensures.knows

pub returns-clause-sound : goal.returns-clause-sound
returns-clause-sound g c = λ h.
    let s = subst (λ v. Sound g.S.Service.sound v.lists) (sym c.self.view_is) h in
    record {
      ready = subst (All (λ e. g.S.Service.sound e.1)) (sym c.swap_remove.ensures.entries) (All-swap_remove_entry (λ e. g.S.Service.sound e.1) _ _ s.ready);
      pending = subst (All (Askable g.S.Service.sound)) (sym c.evict-was_pending.ensures.items) (All-cancel g.K.PartialEq.eq c.args.key.now g.S.Service.sound c.self.inside.pending.items s.pending);
    }
