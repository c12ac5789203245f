use Rattle.std.proofs.Common.{◌≡◌, arith, ap, sym, ◌∙◌}
use Rattle.tower_latch.specs.CoreTable.{initial}
use Rattle.tower_latch.proofs.CoreTableMoves.{has_slot, has_core, still, may_free}
use Rattle.tower_latch.proofs.guarded.GuardedLatch.step.Goals as goal

pub slot_mut-kept-requires : goal.slot_mut-kept-requires
slot_mut-kept-requires g c =
    let h = has_core (λ k. g.C.Core.terms k.core ≡ c.args.self.now.terms) (λ k. g.C.Core.out k.core) initial c.lock-seat.result.me c.lock-seat.ensures.has in
    (c.lock-seat.ensures.its ∙ ap (λ v. v.table) (sym c.self.view_is) ∙ sym (ap (λ t. t.table.shared.table_id) c.deref.ensures), (h.0, has_slot (λ k. g.C.Core.terms k.core ≡ c.args.self.now.terms) (λ k. g.C.Core.out k.core) _ _ h.1))

pub free-requires : goal.free-requires
free-requires g c =
    let h = has_core (λ k. g.C.Core.terms k.core ≡ c.args.self.now.terms) (λ k. g.C.Core.out k.core) initial c.lock-seat.result.me c.lock-seat.ensures.has in
    record {
      its = c.lock-seat.ensures.its;
      has = ap (λ m. m.0.has) c.lock-seat.ensures.has.1;
      core = may_free (λ k. g.C.Core.terms k.core ≡ c.args.self.now.terms) (λ k. g.C.Core.out k.core) c.lock-seat.result.me c.slot_mut-kept.result.now c.step_alone-reply.new.self _ _ h c.slot_mut-kept.ensures.value (λ it. c.step_alone-reply.ensures.made.terms ∙ it) c.step_alone-reply.ensures.made.counted (omega (arith, c.requires.unpaid c.step_alone-reply.result));
    }

pub step_and_wake-reply-requires : goal.step_and_wake-reply-requires
step_and_wake-reply-requires g c =
    let h = has_core (λ k. g.C.Core.terms k.core ≡ c.args.self.now.terms) (λ k. g.C.Core.out k.core) initial c.lock-seat.result.me c.lock-seat.ensures.has in
    record {
      admitted = c.requires.admitted;
      paid = λ reply. omega (arith, c.requires.unpaid reply);
      its = c.lock-seat.ensures.its;
      has = ap (λ m. m.0.has) c.lock-seat.ensures.has.1;
      core = still (λ k. g.C.Core.terms k.core ≡ c.args.self.now.terms) (λ k. g.C.Core.out k.core) c.lock-seat.result.me c.slot_mut-kept.result.now h c.slot_mut-kept.ensures.value;
    }
