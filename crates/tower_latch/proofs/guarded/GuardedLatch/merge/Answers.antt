use Rattle.std.proofs.Common.{◌≡◌, ◌<◌, arith, ap, sym, ◌∙◌}
use Rattle.tower_latch.specs.BadgeViews.{out_by}
use Rattle.tower_latch.proofs.CoreTableMoves.{badge_core, gathers, after_none}
use Rattle.tower_latch.proofs.guarded.GuardedLatch.merge.Goals as goal

pub join_seat-requires : goal.join_seat-requires
join_seat-requires g c =
    let table = c.deref.result.now.table.shared in
    let room : 0 < table.table_id.words = omega (arith, c.deref.result.now.one.0) in
    let back = ap (λ v. v.table) (sym c.self.view_is) ∙ sym (ap (λ t. t.table.shared.table_id) c.deref.ensures) in
    (c.lock_with-seat.ensures.its ∙ back, c.into_seat.ensures.its ∙ c.requires.others ∙ back, c.into_seat.ensures.away.0, room, gathers (λ k. g.C.Core.terms k.core ≡ table.key) (λ k. g.C.Core.out k.core) _ _ _ _ c.into_seat.ensures.away.1)

pub free-requires : goal.free-requires
free-requires g c =
    let b = badge_core (λ k. g.C.Core.terms k.core ≡ c.args.self.now.terms) (λ k. g.C.Core.out k.core) c.args.token.badge.views c.lock_with-seat.result.me c.lock_with-seat.ensures.has in
    let h = b.0 in
    let me = c.join_seat.ensures.2 in
    record {
      its = c.join_seat.ensures.0 ∙ c.lock_with-seat.ensures.its;
      has = ap (λ m. m.0.has) me ∙ ap (λ m. m.0.has) c.lock_with-seat.ensures.has.2.1;
      core = (h.0, ap (λ m. m.1) me ∙ h.1, h.2, omega (arith, ap (λ m. m.0.held) me, h.3));
    }

pub returns-clause-places : goal.returns-clause-places
returns-clause-places g c =
    let b = badge_core (λ k. g.C.Core.terms k.core ≡ c.args.self.now.terms) (λ k. g.C.Core.out k.core) c.args.token.badge.views c.lock_with-seat.result.me c.lock_with-seat.ensures.has in
    let h = b.0 in
    let me = c.join_seat.ensures.2 in
    let after = after_none (λ k. g.C.Core.terms k.core ≡ c.args.self.now.terms) (λ k. g.C.Core.out k.core) c.join_seat.new.seat.me _ (h.0, ap (λ m. m.1) me ∙ h.1, h.2, ap (λ m. m.0.held) me ∙ h.3) c.free.ensures.left in
    omega (arith, after, ap (λ m. m.0.out) me, b.1, ap out_by c.into_seat.ensures.views)

pub returns-clause-bound : goal.returns-clause-bound
returns-clause-bound g c =
    let b = badge_core (λ k. g.C.Core.terms k.core ≡ c.args.self.now.terms) (λ k. g.C.Core.out k.core) c.args.token.badge.views c.lock_with-seat.result.me c.lock_with-seat.ensures.has in
    let h = b.0 in
    let me = c.join_seat.ensures.2 in
    let after = after_none (λ k. g.C.Core.terms k.core ≡ c.args.self.now.terms) (λ k. g.C.Core.out k.core) c.join_seat.new.seat.me _ (h.0, ap (λ m. m.1) me ∙ h.1, h.2, ap (λ m. m.0.held) me ∙ h.3) c.free.ensures.left in
    omega (arith, after, c.free.ensures.left.3, ap (λ m. m.0.held) me, ap g.C.Core.size h.2, h.3, h.0.within)
