use Rattle.std.proofs.Common.{◌≡◌, ◌∷◌, arith, ap, subst, sym, ◌∙◌}
use Rattle.atomic_table.specs.Table.{rest}
use Rattle.tower_latch.specs.CoreTable.{HasCore}
use Rattle.tower_latch.proofs.CoreTableMoves.{has_slot, badge_core, held_before, still, may_free, after_step}
use Rattle.tower_latch.proofs.guarded.GuardedLatch.give.Goals as goal

pub slot_mut-kept-requires : goal.slot_mut-kept-requires
slot_mut-kept-requires g c =
    let b = badge_core (λ k. g.C.Core.terms k.core ≡ c.args.self.now.terms) (λ k. g.C.Core.out k.core) c.args.token.badge.views c.lock_with-seat.result.me c.lock_with-seat.ensures.has in
    let h = b.0 in
    (c.lock_with-seat.ensures.its ∙ ap (λ v. v.table) (sym c.self.view_is) ∙ sym (ap (λ t. t.table.shared.table_id) c.deref.ensures), (h.0, has_slot (λ k. g.C.Core.terms k.core ≡ c.args.self.now.terms) (λ k. g.C.Core.out k.core) _ _ h.1))

pub free-requires : goal.free-requires
free-requires g c =
    let b = badge_core (λ k. g.C.Core.terms k.core ≡ c.args.self.now.terms) (λ k. g.C.Core.out k.core) c.args.token.badge.views c.lock_with-seat.result.me c.lock_with-seat.ensures.has in
    record {
      its = c.lock_with-seat.ensures.its;
      has = ap (λ m. m.0.has) c.lock_with-seat.ensures.has.2.1;
      core = may_free (λ k. g.C.Core.terms k.core ≡ c.args.self.now.terms) (λ k. g.C.Core.out k.core) c.lock_with-seat.result.me c.slot_mut-kept.result.now c.step_alone-reply.new.self _ _ b.0 c.slot_mut-kept.ensures.value (λ it. c.step_alone-reply.ensures.made.terms ∙ it) c.step_alone-reply.ensures.made.counted (omega (arith, c.requires.paid c.step_alone-reply.result, b.1));
    }

pub give_and_wake-requires : goal.give_and_wake-requires
give_and_wake-requires g c =
    let b = badge_core (λ k. g.C.Core.terms k.core ≡ c.args.self.now.terms) (λ k. g.C.Core.out k.core) c.args.token.badge.views c.lock_with-seat.result.me c.lock_with-seat.ensures.has in
    record {
      admitted = c.requires.admitted;
      paid = λ reply. omega (arith, c.requires.paid reply, b.1);
      its = c.lock_with-seat.ensures.its ∙ sym (ap (λ t. t.table.shared.table_id) c.deref-2.ensures ∙ ap (λ v. v.table) c.self.view_is);
      has = ap (λ m. m.0.has) c.lock_with-seat.ensures.has.2.1;
      core = subst (λ n. HasCore (λ k. g.C.Core.terms k.core ≡ n) (λ k. g.C.Core.out k.core) (c.lock_with-seat.result.me.0, (0, c.slot_mut-kept.result.now) ∷ rest c.lock_with-seat.result.me.1)) (sym (ap (λ t. t.table.shared.key) c.deref-2.ensures ∙ ap (λ v. v.terms) c.self.view_is))
          (still (λ k. g.C.Core.terms k.core ≡ c.args.self.now.terms) (λ k. g.C.Core.out k.core) c.lock_with-seat.result.me c.slot_mut-kept.result.now b.0 c.slot_mut-kept.ensures.value);
    }

pub returns-then-is_alone-clause-places : goal.returns-then-is_alone-clause-places
returns-then-is_alone-clause-places g c =
    let b = badge_core (λ k. g.C.Core.terms k.core ≡ c.args.self.now.terms) (λ k. g.C.Core.out k.core) c.args.token.badge.views c.lock_with-seat.result.me c.lock_with-seat.ensures.has in
    let h = b.0 in
    let out = b.1 in
    let after =
    after_step (λ k. g.C.Core.terms k.core ≡ c.args.self.now.terms) (λ k. g.C.Core.out k.core) c.lock_with-seat.result.me c.slot_mut-kept.result.now c.step_alone-reply.new.self _ _ _ h c.slot_mut-kept.ensures.value c.step_alone-reply.ensures.made.counted (omega (arith, c.requires.paid c.step_alone-reply.result, out)) c.free.ensures.left in
    omega (arith, after, out)

pub returns-clause-places : goal.returns-clause-places
returns-clause-places g c =
    let b = badge_core (λ k. g.C.Core.terms k.core ≡ c.args.self.now.terms) (λ k. g.C.Core.out k.core) c.args.token.badge.views c.lock_with-seat.result.me c.lock_with-seat.ensures.has in
    omega (arith, c.give_and_wake.ensures.places, b.1)

pub returns-then-is_alone-clause-held : goal.returns-then-is_alone-clause-held
returns-then-is_alone-clause-held g c =
    let b = badge_core (λ k. g.C.Core.terms k.core ≡ c.args.self.now.terms) (λ k. g.C.Core.out k.core) c.args.token.badge.views c.lock_with-seat.result.me c.lock_with-seat.ensures.has in
    let held = held_before (λ k. g.C.Core.terms k.core ≡ c.args.self.now.terms) (λ k. g.C.Core.out k.core) c.lock_with-seat.result.me c.slot_mut-kept.result.now c.step_alone-reply.new.self _ b.0 c.slot_mut-kept.ensures.value c.free.ensures.left in
    (c.slot_mut-kept.result.now.core, c.step_alone-reply.new.self.core, c.step_alone-reply.ensures.machine.steps, omega (arith, held, b.1))

pub returns-clause-held : goal.returns-clause-held
returns-clause-held g c =
    let b = badge_core (λ k. g.C.Core.terms k.core ≡ c.args.self.now.terms) (λ k. g.C.Core.out k.core) c.args.token.badge.views c.lock_with-seat.result.me c.lock_with-seat.ensures.has in
    let held = c.give_and_wake.ensures.held in
    (held.0, held.1, held.2, omega (arith, held.3, b.1))
