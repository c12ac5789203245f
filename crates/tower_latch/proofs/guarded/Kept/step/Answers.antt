use Rattle.tower_latch.proofs.Reaching.{made_on, reached_on}
use Rattle.tower_latch.proofs.Settling.{settled_by_turn}
use Rattle.tower_latch.proofs.guarded.Kept.step.Goals as goal

pub invariant_of-self : goal.invariant_of-self
invariant_of-self g c = record {
  reached = reached_on _ _ _ _ _ _ c.step-reply.ensures.steps c.args.self.now.reached;
  settled = settled_by_turn g.C.Core _ _ _ _ c.args.step c.step-reply.result.0 c.take.new.woken c.args.self.now.settled
      (record { wakes = c.step-reply.result.1; steps = c.step-reply.ensures.steps; waits = c.step-reply.ensures.waits; names = c.step-reply.ensures.names; takes = c.take.ensures });
  within = (g.met.C.Core.counts _ _ _ _ c.step-reply.ensures.steps).2;
}

pub returns-clause-machine : goal.returns-clause-machine
returns-clause-machine g c =
    record { wakes = c.step-reply.result.1; steps = c.step-reply.ensures.steps; waits = c.step-reply.ensures.waits; names = c.step-reply.ensures.names; takes = c.take.ensures }

pub returns-clause-made : goal.returns-clause-made
returns-clause-made g c = made_on g.C.Core _ _ _ _ (λ s. g.met.C.Core.counts _ _ _ _ s) c.args.self.now.reached c.step-reply.ensures.steps
