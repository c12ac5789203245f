use Rattle.std.proofs.Common.{◌≡◌, ℕ, None, inl, inr, refl, subst}
use Rattle.tower_latch.specs.Guarded.{IsKept, at}
use Rattle.tower_latch.specs.declared.Wakes.TheVariants.{Wait}
use Rattle.tower_latch.proofs.Reaching.{made_on, reached_on}
use Rattle.tower_latch.proofs.Settling.{settled_alone, settled_by_wait, takes_alone, waiting_at}
use Rattle.tower_latch.proofs.guarded.Kept.wait_alone.Goals as goal

pub invariant_of-self : goal.invariant_of-self
invariant_of-self g c = record {
  reached = reached_on _ _ _ _ _ _ c.step-reply.ensures.steps c.args.self.now.reached;
  settled = settled_alone g.C.Core.stalls _ _ c.requires.alone;
  within = (g.met.C.Core.counts _ _ _ _ c.step-reply.ensures.steps).2;
}

pub returns-in_default-clause-machine : goal.returns-in_default-clause-machine
returns-in_default-clause-machine g c = record {
  mid = c.args.self.now.waiters;
  stepped = record { wakes = c.step-reply.result.1; steps = c.step-reply.ensures.steps; waits = c.step-reply.ensures.waits; names = c.step-reply.ensures.names; takes = takes_alone (g.C.Core.stalls c.step-reply.new.self) _ c.step-reply.result.1 c.requires.alone };
  kept = λ waits. absurd (c.in_default.not-Wait _ (c.step-reply.ensures.waits waits));
  others = λ key. inl refl;
}

pub returns-in_default-clause-made : goal.returns-in_default-clause-made
returns-in_default-clause-made g c = made_on g.C.Core _ _ _ _ (λ s. g.met.C.Core.counts _ _ _ _ s) c.args.self.now.reached c.step-reply.ensures.steps

pub returns-in_default-clause-awaits : goal.returns-in_default-clause-awaits
returns-in_default-clause-awaits g c = record {
  armed = λ waits. absurd (c.in_default.not-Wait _ (c.step-reply.ensures.waits waits));
  heard = λ waits. absurd (c.in_default.not-Wait _ (c.step-reply.ensures.waits waits));
  keeps = λ _ held. held;
}

pub invariant_of-self-2 : goal.invariant_of-self-2
invariant_of-self-2 g c = record {
  reached = reached_on _ _ _ _ _ _ c.step-reply.ensures.steps c.args.self.now.reached;
  settled = settled_by_wait g.C.Core c.args.share c.args.cx.now c.keep.new.cx _ _ _ _ c.args.step c.step-reply.result.0 None c.args.self.now.settled (record {
    mid = c.args.self.now.waiters;
    stepped = record { wakes = c.step-reply.result.1; steps = c.step-reply.ensures.steps; waits = c.step-reply.ensures.waits; names = c.step-reply.ensures.names; takes = takes_alone (g.C.Core.stalls c.step-reply.new.self) _ c.step-reply.result.1 c.requires.alone };
    kept = λ waits. subst (λ (k : ℕ). IsKept c.args.share c.args.cx.now c.keep.new.cx (at c.keep.new.self k)) (waiting_at _ _ _ c.in-Wait.is (c.step-reply.ensures.waits waits)) c.keep.ensures.kept;
    others = λ key. elim (c.keep.ensures.others key) [ inl same ↦ inl same | inr it ↦ inr (subst (λ (k : ℕ). c.step-reply.result.1 ≡ Wait k) it c.in-Wait.is) ];
  });
  within = (g.met.C.Core.counts _ _ _ _ c.step-reply.ensures.steps).2;
}

pub returns-clause-machine : goal.returns-clause-machine
returns-clause-machine g c = record {
  mid = c.args.self.now.waiters;
  stepped = record { wakes = c.step-reply.result.1; steps = c.step-reply.ensures.steps; waits = c.step-reply.ensures.waits; names = c.step-reply.ensures.names; takes = takes_alone (g.C.Core.stalls c.step-reply.new.self) _ c.step-reply.result.1 c.requires.alone };
  kept = λ waits. subst (λ (k : ℕ). IsKept c.args.share c.args.cx.now c.keep.new.cx (at c.keep.new.self k)) (waiting_at _ _ _ c.in-Wait.is (c.step-reply.ensures.waits waits)) c.keep.ensures.kept;
  others = λ key. elim (c.keep.ensures.others key) [ inl same ↦ inl same | inr it ↦ inr (subst (λ (k : ℕ). c.step-reply.result.1 ≡ Wait k) it c.in-Wait.is) ];
}

pub returns-clause-made : goal.returns-clause-made
returns-clause-made g c = made_on g.C.Core _ _ _ _ (λ s. g.met.C.Core.counts _ _ _ _ s) c.args.self.now.reached c.step-reply.ensures.steps

pub returns-clause-awaits : goal.returns-clause-awaits
returns-clause-awaits g c = record { armed = λ _. c.keep.ensures.armed; heard = λ _. c.keep.ensures.heard; keeps = c.keep.ensures.keeps }
