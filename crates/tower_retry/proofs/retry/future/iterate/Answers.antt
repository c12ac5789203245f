use Rattle.std.proofs.Common.{◌≡◌, ℕ, inl, inr, subst, arith, rules}
use Rattle.tower_base.specs.Iterations.{Iterates}
use Rattle.tower_base.specs.IterationsLemmas.{iterates_start, iterates_more, iterations_answer, iterations_tired}
use Rattle.tower_retry.specs.Retry.{Iteration}
use Rattle.tower_retry.proofs.retry.future.iterate.Goals as goal

pub loop-iteration-init : goal.loop-iteration-init
loop-iteration-init g c = record { went = iterates_start _ _; sound = c.requires; quiet = λ woken. inl woken; kept = λ fact h. h }

pub returns-in-Some-clause-iterations : goal.returns-in-Some-clause-iterations
returns-in-Some-clause-iterations g c =
    let answer = rw c.in-Some.is at c.iterate_once.ensures.iteration in
    iterations_answer _ c.loop-iteration._iteration _ _ _ _ _ c.loop-iteration.invariant.went (omega arith) answer

pub returns-in-Some-clause-woken : goal.returns-in-Some-clause-woken
returns-in-Some-clause-woken g c = inl (record {
  count = c.loop-iteration._iteration;
  last = c.loop-iteration.attempts;
  went = c.loop-iteration.invariant.went;
  below = omega arith;
  ends = rw c.in-Some.is at c.iterate_once.ensures.iteration;
})

pub loop-iteration-preserved : goal.loop-iteration-preserved
loop-iteration-preserved g c = record {
  went = iterates_more (Iteration g.S.Service g.S.Future.Steps.stepped g.P.Policy g.P.Future.Steps.stepped) c.loop-iteration._iteration _ _ _
      c.loop-iteration.invariant.went (rw c.in_default.is at c.iterate_once.ensures.iteration);
  sound = rw c.in_default.is at c.iterate_once.ensures.again;
  quiet = λ woken. elim (c.iterate_once.ensures.quiet woken) [
    | inl was ↦ c.loop-iteration.invariant.quiet was
    | inr stirs ↦ inr (c.loop-iteration._iteration, c.loop-iteration.attempts, c.loop-iteration.invariant.went, stirs)
  ];
  kept = λ fact h. c.iterate_once.ensures.kept fact (c.loop-iteration.invariant.kept fact h);
}

pub returns-clause-iterations : goal.returns-clause-iterations
returns-clause-iterations g c = iterations_tired _ c.loop-iteration._iteration _ _ _ _ c.loop-iteration.invariant.went (omega arith) (search rules)

pub returns-clause-woken : goal.returns-clause-woken
returns-clause-woken g c = inr (search rules)

pub returns-in-Some-clause-quiet : goal.returns-in-Some-clause-quiet
returns-in-Some-clause-quiet g c = λ woken. elim (c.iterate_once.ensures.quiet woken) [
  | inl was ↦ elim (c.loop-iteration.invariant.quiet was) [ inl first ↦ inl first | inr stirred ↦ inr (inr stirred) ]
  | inr stirs ↦ inr (inr (c.loop-iteration._iteration, c.loop-iteration.attempts, c.loop-iteration.invariant.went, stirs))
]

pub returns-clause-quiet : goal.returns-clause-quiet
returns-clause-quiet g c = λ woken. inr (inl (let all : c.loop-iteration._iteration ≡ 64 = omega arith in
    subst (λ (n : ℕ). Iterates (Iteration g.S.Service g.S.Future.Steps.stepped g.P.Policy g.P.Future.Steps.stepped) n c.args.attempts.now c.loop-iteration.attempts) all
    c.loop-iteration.invariant.went))
