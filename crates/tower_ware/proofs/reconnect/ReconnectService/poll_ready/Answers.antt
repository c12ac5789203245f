use Rattle.std.proofs.Common.{inl, inr, rules, arith}
use Rattle.tower_base.specs.IterationsLemmas.{iterates_more, iterates_start, iterations_answer, iterations_tired}
use Rattle.tower_ware.specs.Reconnect.{Iteration, StirsOnce, view_of}
use Rattle.tower_ware.proofs.IterationsQuietLemmas.{quiet_answer, quiet_more, quiet_start, quiet_tired}
use Rattle.tower_ware.proofs.reconnect.ReconnectService.poll_ready.Goals as goal

pub loop-iteration-init : goal.loop-iteration-init
loop-iteration-init g c = record {
  went = iterates_start _ _;
  sound = search rules;
  quiet = quiet_start _ _ _ c.args.cx.now;
  kept = search rules;
}

pub returns-in-Some-clause-polled : goal.returns-in-Some-clause-polled
returns-in-Some-clause-polled g c = record {
  iterations = iterations_answer _ c.loop-iteration._iteration _ _ _ _ _ c.loop-iteration.invariant.went (omega arith) (rw c.in-Some.is at c.iterate_once.ensures.iteration);
}

pub returns-in-Some-clause-woken : goal.returns-in-Some-clause-woken
returns-in-Some-clause-woken g c = inl (record {
  count = c.loop-iteration._iteration;
  last = view_of c.loop-iteration.self;
  went = c.loop-iteration.invariant.went;
  below = omega arith;
  ends = rw c.in-Some.is at c.iterate_once.ensures.iteration;
})

pub loop-iteration-preserved : goal.loop-iteration-preserved
loop-iteration-preserved g c = record {
  went = iterates_more (Iteration g.M.Service g.M.Future.Steps g.S.Service g.Target.Clone) c.loop-iteration._iteration _ _ _ c.loop-iteration.invariant.went
      (rw c.in_default.is at c.iterate_once.ensures.iteration);
  sound = search rules;
  quiet = quiet_more (Iteration g.M.Service g.M.Future.Steps g.S.Service g.Target.Clone)
      (StirsOnce g.M.Service g.M.Future.Steps g.S.Service g.Target.Clone) c.loop-iteration._iteration _ _
      c.args.cx.now c.loop-iteration.cx c.iterate_once.new.cx c.loop-iteration.invariant.went c.loop-iteration.invariant.quiet c.iterate_once.ensures.quiet;
  kept = search rules;
}

pub returns-clause-polled : goal.returns-clause-polled
returns-clause-polled g c = record {
  iterations = iterations_tired _ c.loop-iteration._iteration _ _ _ _ c.loop-iteration.invariant.went (omega arith) (search rules);
}

pub returns-clause-woken : goal.returns-clause-woken
returns-clause-woken g c = inr (search rules)

pub returns-in-Some-clause-quiet : goal.returns-in-Some-clause-quiet
returns-in-Some-clause-quiet g c = quiet_answer (Iteration g.M.Service g.M.Future.Steps g.S.Service g.Target.Clone)
    (StirsOnce g.M.Service g.M.Future.Steps g.S.Service g.Target.Clone) c.loop-iteration._iteration _ _ _ c.args.cx.now c.loop-iteration.cx
    c.iterate_once.new.cx c.loop-iteration.invariant.went c.loop-iteration.invariant.quiet c.iterate_once.ensures.quiet

pub returns-clause-quiet : goal.returns-clause-quiet
returns-clause-quiet g c = quiet_tired (Iteration g.M.Service g.M.Future.Steps g.S.Service g.Target.Clone)
    (StirsOnce g.M.Service g.M.Future.Steps g.S.Service g.Target.Clone) c.loop-iteration._iteration _ _ c.args.cx.now
    c.yield_now.new.self (omega arith) c.loop-iteration.invariant.went
