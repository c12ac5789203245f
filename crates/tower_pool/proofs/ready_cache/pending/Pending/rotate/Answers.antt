use Rattle.std.proofs.Common.{rules, suc, ◌≡◌, ◌∙◌, ◌+◌, ◌-◌, ◌<◌, [], ◌∷◌, Some, None, IfNone, length, length-append, ap, sym, subst, arith}
use Rattle.std.specs.Option.{option_map_or}
use Rattle.tower_pool.specs.ReadyCache.{Apart}
use Rattle.tower_pool.specs.ReadyCachePoll.{rotated}
use Rattle.tower_pool.specs.Pending.{entry_of, knows}
use Rattle.tower_pool.proofs.KeptLemmas.{apart_last}
use Rattle.tower_pool.proofs.ready_cache.pending.Pending.rotate.Goals as goal
use Rattle.tower_pool.proofs.ready_cache.pending.Pending.rotate.Goals.{in-Some, in_default}

pub loop-preserved : goal.loop-preserved
loop-preserved g c =
    let eq = g.K.PartialEq.eq in
    let more : c.loop.counter < c.args.count = search rules in
    let n = c.args.count - (c.loop.counter + 1) in
    let e : suc n ≡ c.args.count - c.loop.counter = omega (arith, more) in
    let mid = c.take_first.new.self.items in
    elim c.match-take_first.branch [
      | in-Some w ↦
          let q = entry_of w.in-Some.first in
          let first : c.take_first.result ≡ Some w.in-Some.first = search rules in
          let take = c.take_first.ensures.items ∙ ap (λ r. option_map_or (λ e. entry_of e ∷ mid) r []) first in
          record {
            items = ap (λ v. rotated n v.items) w.self-is ∙ ap (rotated n) w.append.ensures.items ∙ ap (rotated (suc n)) (sym take) ∙ (λ j. rotated (e j) c.loop.self.items) ∙ c.loop.invariant.items;
            apart = subst (λ v. Apart eq v.items) (sym w.self-is) (subst (Apart eq) (sym w.append.ensures.items) (apart_last eq g.met.K.Eq.laws q mid (subst (Apart eq) take c.loop.invariant.apart)));
            fits = omega (arith, ap (λ v. length v.items) w.self-is, ap (λ v. v.room) w.self-is, ap length w.append.ensures.items, length-append mid (q ∷ []), ap length take, c.loop.invariant.fits, w.append.ensures.room, c.take_first.ensures.room);
            knows = λ k. ap (λ v. knows eq v k) w.self-is ∙ w.append.ensures.knows k ∙ c.take_first.ensures.knows k ∙ c.loop.invariant.knows k;
            room = ap (λ v. v.room) w.self-is ∙ w.append.ensures.room ∙ c.take_first.ensures.room ∙ c.loop.invariant.room;
            touches = omega (arith, ap (λ v. v.touches) w.self-is, w.append.ensures.touches, c.take_first.ensures.touches, c.loop.invariant.touches);
          }
      | in_default w ↦
          let none : c.take_first.result ≡ None = search rules in
          let was = c.take_first.ensures.items ∙ ap (λ r. option_map_or (λ e. entry_of e ∷ mid) r []) none in
          let same = subst (λ r. IfNone r (mid ≡ c.loop.self.items)) none c.take_first.ensures.same in
          record {
            items = ap (λ v. rotated n v.items) w.self-is ∙ ap (rotated n) (same ∙ was) ∙ ap (rotated (suc n)) (sym was) ∙ (λ j. rotated (e j) c.loop.self.items) ∙ c.loop.invariant.items;
            apart = subst (λ v. Apart eq v.items) (sym w.self-is) (subst (Apart eq) (sym same) c.loop.invariant.apart);
            fits = omega (arith, ap (λ v. length v.items) w.self-is, ap (λ v. v.room) w.self-is, ap length same, c.loop.invariant.fits, c.take_first.ensures.room);
            knows = λ k. ap (λ v. knows eq v k) w.self-is ∙ c.take_first.ensures.knows k ∙ c.loop.invariant.knows k;
            room = ap (λ v. v.room) w.self-is ∙ c.take_first.ensures.room ∙ c.loop.invariant.room;
            touches = omega (arith, ap (λ v. v.touches) w.self-is, c.take_first.ensures.touches, c.loop.invariant.touches);
          }
    ]
