use Rattle.tower_latch.proofs.Reaching.{made_on, reached_on}
use Rattle.tower_latch.proofs.Settling.{settled_alone, takes_alone}
use Rattle.tower_latch.proofs.guarded.Kept.step_alone.Goals as goal

pub invariant_of-self : goal.invariant_of-self
invariant_of-self g c = record {
  reached = reached_on _ _ _ _ _ _ c.step-reply.ensures.steps c.args.self.now.reached;
  settled = settled_alone g.C.Core.stalls _ _ c.requires.alone;
  within = (g.met.C.Core.counts _ _ _ _ c.step-reply.ensures.steps).2;
}

pub returns-clause-machine : goal.returns-clause-machine
returns-clause-machine g c =
    record { wakes = c.step-reply.result.1; steps = c.step-reply.ensures.steps; waits = c.step-reply.ensures.waits; names = c.step-reply.ensures.names; takes = takes_alone (g.C.Core.stalls c.step-reply.new.self) _ c.step-reply.result.1 c.requires.alone }

pub returns-clause-made : goal.returns-clause-made
returns-clause-made g c = made_on g.C.Core _ _ _ _ (λ s. g.met.C.Core.counts _ _ _ _ s) c.args.self.now.reached c.step-reply.ensures.steps
