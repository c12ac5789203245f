use Rattle.std.proofs.Common.{◌≡◌, arith, ap, sym, ◌∙◌}
use Rattle.tower_latch.specs.CoreTable.{initial}
use Rattle.tower_latch.proofs.CoreTableMoves.{has_slot, has_core, it_is, still, may_free, after_step}
use Rattle.tower_latch.proofs.guarded.GuardedLatch.wait.Goals as goal

pub slot_mut-kept-requires : goal.slot_mut-kept-requires
slot_mut-kept-requires g c =
    let h = has_core (λ k. g.C.Core.terms k.core ≡ c.args.self.now.terms) (λ k. g.C.Core.out k.core) initial c.lock-seat.result.me c.lock-seat.ensures.has in
    (c.lock-seat.ensures.its ∙ ap (λ v. v.table) (sym c.self.view_is) ∙ sym (ap (λ t. t.table.shared.table_id) c.deref.ensures), (h.0, has_slot (λ k. g.C.Core.terms k.core ≡ c.args.self.now.terms) (λ k. g.C.Core.out k.core) _ _ h.1))

pub free-requires : goal.free-requires
free-requires g c =
    let h = has_core (λ k. g.C.Core.terms k.core ≡ c.args.self.now.terms) (λ k. g.C.Core.out k.core) initial c.lock-seat.result.me c.lock-seat.ensures.has in
    record {
      its = c.lock-seat.ensures.its;
      has = ap (λ m. m.0.has) c.lock-seat.ensures.has.1;
      core = may_free (λ k. g.C.Core.terms k.core ≡ c.args.self.now.terms) (λ k. g.C.Core.out k.core) c.lock-seat.result.me c.slot_mut-kept.result.now c.wait_alone-reply.new.self _ _ h c.slot_mut-kept.ensures.value (λ it. c.wait_alone-reply.ensures.made.terms ∙ it) c.wait_alone-reply.ensures.made.counted (omega (arith, c.requires.unpaid c.wait_alone-reply.result));
    }

pub wait_or_wake-requires : goal.wait_or_wake-requires
wait_or_wake-requires g c =
    let h = has_core (λ k. g.C.Core.terms k.core ≡ c.args.self.now.terms) (λ k. g.C.Core.out k.core) initial c.lock-seat.result.me c.lock-seat.ensures.has in
    record {
      admitted = c.requires.admitted;
      paid = λ reply. omega (arith, c.requires.unpaid reply);
      its = c.lock-seat.ensures.its;
      has = ap (λ m. m.0.has) c.lock-seat.ensures.has.1;
      core = still (λ k. g.C.Core.terms k.core ≡ c.args.self.now.terms) (λ k. g.C.Core.out k.core) c.lock-seat.result.me c.slot_mut-kept.result.now h c.slot_mut-kept.ensures.value;
    }

pub returns-then-is_alone-clause-gave : goal.returns-then-is_alone-clause-gave
returns-then-is_alone-clause-gave g c =
    let h = has_core (λ k. g.C.Core.terms k.core ≡ c.args.self.now.terms) (λ k. g.C.Core.out k.core) initial c.lock-seat.result.me c.lock-seat.ensures.has in
    let came = c.wait_alone-reply.ensures.made.came in
    (came.0, came.1, came.2, came.3, came.4 ∙ it_is (λ k. g.C.Core.terms k.core ≡ c.args.self.now.terms) (λ k. g.C.Core.out k.core) c.lock-seat.result.me c.slot_mut-kept.result.now h c.slot_mut-kept.ensures.value)

pub returns-then-is_alone-clause-places : goal.returns-then-is_alone-clause-places
returns-then-is_alone-clause-places g c =
    let h = has_core (λ k. g.C.Core.terms k.core ≡ c.args.self.now.terms) (λ k. g.C.Core.out k.core) initial c.lock-seat.result.me c.lock-seat.ensures.has in
    let out = ap (λ m. m.0.out) c.lock-seat.ensures.has.1 in
    let none = c.requires.unpaid c.wait_alone-reply.result in
    let after = after_step (λ k. g.C.Core.terms k.core ≡ c.args.self.now.terms) (λ k. g.C.Core.out k.core) c.lock-seat.result.me c.slot_mut-kept.result.now c.wait_alone-reply.new.self _ _ _ h c.slot_mut-kept.ensures.value c.wait_alone-reply.ensures.made.counted (omega (arith, none)) c.free.ensures.left in
    omega (arith, after, out, none)

pub returns-clause-places : goal.returns-clause-places
returns-clause-places g c =
    let out = ap (λ m. m.0.out) c.lock-seat.ensures.has.1 in
    omega (arith, c.wait_or_wake.ensures.stepped.places, out, c.requires.unpaid c.wait_or_wake.result.0)
