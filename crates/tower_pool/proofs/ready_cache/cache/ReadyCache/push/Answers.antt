use Rattle.std.proofs.Common.{ap, arith, inl, inr, sym, subst, ◌+◌, ◌∙◌}
use Rattle.tower_pool.specs.ReadyCache.{Sound}
use Rattle.tower_pool.specs.Pending.{knows}
use Rattle.tower_pool.proofs.CacheLemmas.{sound_push}
use Rattle.tower_pool.proofs.KeptLemmas.{by_err, kept_push}
use Rattle.tower_pool.proofs.ready_cache.cache.ReadyCache.push.Goals as goal

pub invariant_of-self : goal.invariant_of-self
invariant_of-self g c =
    kept_push g.K.PartialEq.eq g.met.K.Eq.laws g.K.Clone.is_clone c.self.inside.ready.entries c.self.inside.pending.items (knows g.K.PartialEq.eq c.self.inside.pending) c.self.inside.pending.room c.self.invariant
    c.push.result c.args.key c.args.service c.push.new.self.items (knows g.K.PartialEq.eq c.push.new.self) c.push.new.self.room _ c.push.ensures.items c.push.ensures.knows c.push.ensures.fits
    (ap (λ n. n + 1) c.len.ensures.len) c.push.ensures.room c.push.ensures.same c.push.ensures.as_known

pub returns-clause-sound : goal.returns-clause-sound
returns-clause-sound g c = λ h now.
    let s = subst (λ v. Sound g.S.Service.sound v.lists) (sym c.self.view_is) h in
    record {
      ready = s.ready;
      pending = sound_push g.K.PartialEq.eq g.S.Service.sound c.push.result c.args.key c.args.service c.self.inside.ready.entries c.self.inside.pending.items c.push.new.self.items c.push.ensures.items c.push.ensures.same now s.pending;
    }

pub returns-clause-excused : goal.returns-clause-excused
returns-clause-excused g c =
    let known = c.self.invariant.known c.args.key in
    rw (← c.self.view_is) (by_err c.push.result (λ h. elim h [
      | inl clone ↦ inl clone
      | inr full ↦ inr (elim full [
        | inl keys ↦ inl (keys.0, sym known ∙ keys.1)
        | inr room ↦ inr (omega (arith, c.len.ensures.len, room))
      ])
    ]) c.push.ensures.excused)
