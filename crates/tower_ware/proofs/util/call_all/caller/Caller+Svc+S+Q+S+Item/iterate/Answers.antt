use Rattle.std.proofs.Common.{inl, inr, rules, arith}
use Rattle.tower_base.specs.IterationsLemmas.{iterates_more, iterates_start, iterations_answer, iterations_tired}
use Rattle.tower_ware.specs.CallAll.{Iteration, StirsOnce, view_of}
use Rattle.tower_ware.proofs.IterationsQuietLemmas.{quiet_answer, quiet_more, quiet_start, quiet_tired}
use Rattle.tower_ware.proofs.util.call_all.caller.Caller+Svc+S+Q+S+Item.iterate.Goals as goal

pub loop-iteration-init : goal.loop-iteration-init
loop-iteration-init g c = record {
  there = search rules;
  queue = search rules;
  flow = search rules;
  went = iterates_start _ _;
  quiet = quiet_start _ _ _ c.args.cx.now;
  kept = search rules;
}

pub returns-in-Some-clause-flowed : goal.returns-in-Some-clause-flowed
returns-in-Some-clause-flowed g c = record {
  iterations = iterations_answer _ c.loop-iteration._iteration _ _ _ _ _ c.loop-iteration.invariant.went (omega arith) (rw c.in-Some.is at c.iterate_once.ensures.iteration);
}

pub returns-in-Some-clause-woken : goal.returns-in-Some-clause-woken
returns-in-Some-clause-woken g c = inl (record {
  count = c.loop-iteration._iteration;
  last = view_of c.loop-iteration.self;
  went = c.loop-iteration.invariant.went;
  below = omega arith;
  ends = rw c.in-Some.is at c.iterate_once.ensures.iteration;
})

pub loop-iteration-preserved : goal.loop-iteration-preserved
loop-iteration-preserved g c = record {
  there = search rules;
  queue = search rules;
  flow = search rules;
  went = iterates_more (Iteration g.Svc.Service g.S.Flow g.Q.CallQueue)
      c.loop-iteration._iteration _ _ _ c.loop-iteration.invariant.went (rw c.in_default.is at c.iterate_once.ensures.iteration);
  quiet = quiet_more (Iteration g.Svc.Service g.S.Flow g.Q.CallQueue)
      (StirsOnce g.Svc.Service g.S.Flow g.Q.CallQueue) c.loop-iteration._iteration _ _
      c.args.cx.now c.loop-iteration.cx c.iterate_once.new.cx c.loop-iteration.invariant.went c.loop-iteration.invariant.quiet c.iterate_once.ensures.quiet;
  kept = search rules;
}

pub returns-clause-flowed : goal.returns-clause-flowed
returns-clause-flowed g c = record {
  iterations = iterations_tired _ c.loop-iteration._iteration _ _ _ _ c.loop-iteration.invariant.went (omega arith) (search rules);
}

pub returns-clause-woken : goal.returns-clause-woken
returns-clause-woken g c = inr (search rules)

pub returns-in-Some-clause-quiet : goal.returns-in-Some-clause-quiet
returns-in-Some-clause-quiet g c = quiet_answer (Iteration g.Svc.Service g.S.Flow g.Q.CallQueue)
    (StirsOnce g.Svc.Service g.S.Flow g.Q.CallQueue) c.loop-iteration._iteration _ _ _ c.args.cx.now c.loop-iteration.cx
    c.iterate_once.new.cx c.loop-iteration.invariant.went c.loop-iteration.invariant.quiet c.iterate_once.ensures.quiet

pub returns-clause-quiet : goal.returns-clause-quiet
returns-clause-quiet g c = quiet_tired (Iteration g.Svc.Service g.S.Flow g.Q.CallQueue)
    (StirsOnce g.Svc.Service g.S.Flow g.Q.CallQueue) c.loop-iteration._iteration _ _ c.args.cx.now
    c.yield_now.new.self (omega arith) c.loop-iteration.invariant.went
