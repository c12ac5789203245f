use Rattle.std.proofs.Common.{rules, ◌≡◌, ◌∙◌, ◌+◌, ◌++◌, sym, ap, refl, Some, None, arith}
use Rattle.slab.specs.Slab.{get, slab_len}
use Rattle.tower_base.specs.Order.{first_or}
use Rattle.tower_pool.specs.Pending.{last_of}
use Rattle.tower_pool.proofs.PendingPlaces.{beside_left, front_of, items_left, placed_left}
use Rattle.tower_pool.proofs.ready_cache.pending.Pending.take_first.Goals as goal

pub invariant_of-self-2 : goal.invariant_of-self-2
invariant_of-self-2 g c =
    let first : first_or c.self.inside.entries.order None ≡ Some c.in-Some.first = search rules in
    let f = front_of c.self.inside.entries.order c.in-Some.first first in
    let at : get c.self.inside.entries.entries c.in-Some.first ≡ Some (c.in_ok-key.key, c.in_ok-key.service) = search rules in
    let len : slab_len c.remove.new.self.entries + 1 ≡ slab_len c.self.inside.entries.entries = search rules in
    let placed = placed_left g.K.PartialEq.eq g.met.K.Eq.laws c.self.inside.places.entries c.self.inside.entries c.self.invariant.placed c.remove.new.self c.in-Some.first f.0 (c.in_ok-key.key, c.in_ok-key.service) f.1 at
    c.remove.ensures.order c.remove.ensures.entries c.release-is_cancelled.result c.release-is_cancelled.ensures.named _ c.release-is_cancelled.ensures.released c.release-is_cancelled.ensures.same len in
    record {
      placed = placed;
      beside = beside_left g.K.PartialEq.eq c.self.inside.places.entries _ c.self.inside.last c.in_ok-key.key c.release-is_cancelled.result c.release-is_cancelled.ensures.released c.release-is_cancelled.ensures.same c.self.invariant.beside;
      small = omega (arith, len, placed.count, c.self.invariant.placed.count, c.self.invariant.small);
    }

pub returns-clause-items : goal.returns-clause-items
returns-clause-items g c =
    let first : first_or c.self.inside.entries.order None ≡ Some c.in-Some.first = search rules in
    let f = front_of c.self.inside.entries.order c.in-Some.first first in
    let at : get c.self.inside.entries.entries c.in-Some.first ≡ Some (c.in_ok-key.key, c.in_ok-key.service) = search rules in
    ap (λ v. v.items) (sym c.self.view_is) ∙
    ap (λ ps. ps ++ last_of c.self.inside.last) (items_left g.K.PartialEq.eq g.met.K.Eq.laws c.self.inside.places.entries c.self.inside.entries c.self.invariant.placed c.remove.new.self c.in-Some.first f.0 (c.in_ok-key.key, c.in_ok-key.service) f.1 at
    c.remove.ensures.order c.remove.ensures.entries c.release-is_cancelled.result c.release-is_cancelled.ensures.named _ c.release-is_cancelled.ensures.released c.release-is_cancelled.ensures.same _ refl)
