use Rattle.std.proofs.Common.{◌≡◌, ◌∙◌}
use Rattle.tower_latch.proofs.CoreTableMoves.{has_slot, held_before, it_is, may_free, after_step}
use Rattle.tower_latch.proofs.guarded.Shared.give_and_wake.Goals as goal

pub slot_mut-requires : goal.slot_mut-requires
slot_mut-requires g c =
    let h = c.requires.core in
    (c.requires.its, (h.0, has_slot (λ k. g.C.Core.terms k.core ≡ c.args.self.now.table.shared.key) (λ k. g.C.Core.out k.core) _ _ h.1))

pub free-token-requires : goal.free-token-requires
free-token-requires g c = record {
  its = c.requires.its;
  has = c.requires.has;
  core = may_free (λ k. g.C.Core.terms k.core ≡ c.args.self.now.table.shared.key) (λ k. g.C.Core.out k.core) c.args.seat.me c.slot_mut.result.now c.step-reply.new.self _ _ c.requires.core c.slot_mut.ensures.value (λ it. c.step-reply.ensures.made.terms ∙ it) c.step-reply.ensures.made.counted (c.requires.paid c.step-reply.result);
}

pub returns : goal.returns
returns g c =
    let came = c.step-reply.ensures.made.came in
    record {
      came = (came.0, came.1, came.2, came.3, came.4 ∙ it_is (λ k. g.C.Core.terms k.core ≡ c.args.self.now.table.shared.key) (λ k. g.C.Core.out k.core) c.args.seat.me c.slot_mut.result.now c.requires.core c.slot_mut.ensures.value);
      its = c.free-token.ensures.its;
      places = after_step (λ k. g.C.Core.terms k.core ≡ c.args.self.now.table.shared.key) (λ k. g.C.Core.out k.core) c.args.seat.me c.slot_mut.result.now c.step-reply.new.self _ _ _ c.requires.core c.slot_mut.ensures.value c.step-reply.ensures.made.counted (c.requires.paid c.step-reply.result) c.free-token.ensures.left;
      held = (
        c.slot_mut.result.now.core,
        c.step-reply.new.self.core,
        c.step-reply.ensures.machine.steps,
        held_before (λ k. g.C.Core.terms k.core ≡ c.args.self.now.table.shared.key) (λ k. g.C.Core.out k.core) c.args.seat.me c.slot_mut.result.now c.step-reply.new.self _ c.requires.core c.slot_mut.ensures.value c.free-token.ensures.left,
      );
    }
