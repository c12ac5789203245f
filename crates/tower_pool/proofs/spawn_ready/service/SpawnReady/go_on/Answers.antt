use Rattle.std.proofs.Common.{rules, arith, None, inl, inr, sym, subst, ◌∙◌}
use Rattle.tower_base.specs.IterationsLemmas.{iterates_more, iterates_start, iterations_answer, iterations_tired}
use Rattle.tower_pool.specs.SpawnReady.{Iteration, IterationStirs, view_of}
use Rattle.tower_pool.proofs.SpawnReadyLemmas.{begun_and_ended}
use Rattle.tower_pool.proofs.StirsLemmas.{at_limit, quiet_by, quiet_then}
use Rattle.tower_pool.proofs.spawn_ready.service.SpawnReady.go_on.Goals as goal

pub returns-in-Some-clause-polled : goal.returns-in-Some-clause-polled
returns-in-Some-clause-polled g c = λ start begins. record {
  iterations = iterations_answer (Iteration g.S.Service g.L.Latch g.X.Executor) 0 _ _ start start _ (iterates_start _ start) (omega arith)
      (begun_and_ended g.S.Service g.L.Latch g.X.Executor start _ _ _ _ begins c.in-Some.ensures.ends);
}

pub returns-in-Some-clause-woken : goal.returns-in-Some-clause-woken
returns-in-Some-clause-woken g c = λ start begins. inl (record {
  count = 0;
  last = start;
  went = iterates_start _ start;
  below = omega arith;
  ends = begun_and_ended g.S.Service g.L.Latch g.X.Executor start _ _ _ _ begins c.in-Some.ensures.ends;
})

pub loop-iteration-init : goal.loop-iteration-init
loop-iteration-init g c = record {
  went = λ start begins. iterates_more (Iteration g.S.Service g.L.Latch g.X.Executor) 0 start start _ (iterates_start _ start)
      (begun_and_ended g.S.Service g.L.Latch g.X.Executor start _ _ _ None begins (rw c.in_default.is at c.end_iteration.ensures.ends));
  sound = search rules;
  latch = c.end_iteration.ensures.latch;
  quiet = c.end_iteration.ensures.quiet;
  kept = search rules;
}

pub returns-in-Some-iterate_once-clause-polled : goal.returns-in-Some-iterate_once-clause-polled
returns-in-Some-iterate_once-clause-polled g c = λ start begins. record {
  iterations = iterations_answer _ c.loop-iteration._iteration _ _ _ _ _ (c.loop-iteration.invariant.went start begins) (omega arith)
      (rw c.in-Some-iterate_once.is at c.iterate_once.ensures.iteration);
}

pub returns-in-Some-iterate_once-clause-woken : goal.returns-in-Some-iterate_once-clause-woken
returns-in-Some-iterate_once-clause-woken g c = λ start begins. inl (record {
  count = c.loop-iteration._iteration;
  last = view_of c.loop-iteration.self;
  went = c.loop-iteration.invariant.went start begins;
  below = omega arith;
  ends = rw c.in-Some-iterate_once.is at c.iterate_once.ensures.iteration;
})

pub loop-iteration-preserved : goal.loop-iteration-preserved
loop-iteration-preserved g c = record {
  went = λ start begins. iterates_more (Iteration g.S.Service g.L.Latch g.X.Executor) c.loop-iteration._iteration start _ _
      (c.loop-iteration.invariant.went start begins) (rw c.in_default-iterate_once.is at c.iterate_once.ensures.iteration);
  sound = search rules;
  latch = c.iterate_once.ensures.latch ∙ c.loop-iteration.invariant.latch;
  quiet = quiet_then (subst (IterationStirs g.S.Service g.L.Latch g.X.Executor g.L.Latch.stirs) (sym c.iterate_once.ensures.latch)) (λ h. h)
      c.loop-iteration.invariant.quiet c.iterate_once.ensures.quiet;
  kept = search rules;
}

pub returns-clause-polled : goal.returns-clause-polled
returns-clause-polled g c = λ start begins. record {
  iterations = iterations_tired _ c.loop-iteration._iteration _ _ _ _ (c.loop-iteration.invariant.went start begins) (omega arith) c.yield_now.ensures.pending;
}

pub returns-in-Some-clause-quiet : goal.returns-in-Some-clause-quiet
returns-in-Some-clause-quiet g c = λ start begins. quiet_by inl c.end_iteration.ensures.quiet

pub returns-in-Some-iterate_once-clause-quiet : goal.returns-in-Some-iterate_once-clause-quiet
returns-in-Some-iterate_once-clause-quiet g c = λ start begins.
    quiet_then (λ h. inl (subst (IterationStirs g.S.Service g.L.Latch g.X.Executor g.L.Latch.stirs) (sym c.iterate_once.ensures.latch) h)) inl
    c.loop-iteration.invariant.quiet c.iterate_once.ensures.quiet

pub returns-clause-quiet : goal.returns-clause-quiet
returns-clause-quiet g c = λ start begins woken.
    inr (inr (at_limit (Iteration g.S.Service g.L.Latch g.X.Executor) c.loop-iteration._iteration start _ (omega arith) (c.loop-iteration.invariant.went start begins)))
