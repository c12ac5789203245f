use Rattle.std.proofs.Common.{◌≡◌, ◌⊎◌, Bool, true, inl, inr, refl, subst, ◌∙◌, rules, arith}
use Rattle.tower_base.specs.Iterations.{Iterates}
use Rattle.tower_base.specs.IterationsLemmas.{iterates_start, iterates_more, iterations_answer, iterations_tired}
use Rattle.tower_buffer.specs.Worker.{Iteration}
use Rattle.tower_buffer.proofs.Orders.{iteration_orderly}
use Rattle.tower_buffer.proofs.buffer.worker.Worker.iterate.Goals as goal

-- one iteration more
quiet_then : {L : Type 0} (first mid last : Bool) (was now : L) (service : Type 0) (latch : L → Type 0) → now ≡ was
    → (mid ≡ true → (first ≡ true) ⊎ latch was ⊎ service) → (last ≡ true → (mid ≡ true) ⊎ latch now ⊎ service) → last ≡ true → (first ≡ true) ⊎ latch was ⊎ service
quiet_then first mid last was now service latch same before after woken = elim (after woken) [
  | inl still ↦ before still
  | inr (inl stirs) ↦ inr (inl (subst latch same stirs))
  | inr (inr stirs) ↦ inr (inr stirs)
]

pub loop-iteration-init : goal.loop-iteration-init
loop-iteration-init g c = record { went = iterates_start _ _; sound = c.requires; same = refl; quiet = λ woken. inl woken; kept = λ fact h. h }

pub returns-in-Some-clause-stepped : goal.returns-in-Some-clause-stepped
returns-in-Some-clause-stepped g c =
    let answer = rw c.in-Some.is at c.iterate_once.ensures.iteration in
    iterations_answer _ c.loop-iteration._iteration _ _ _ _ _ c.loop-iteration.invariant.went (omega arith) answer

pub returns-in-Some-clause-woken : goal.returns-in-Some-clause-woken
returns-in-Some-clause-woken g c = inl (record {
  count = c.loop-iteration._iteration;
  last = c.loop-iteration.self;
  went = c.loop-iteration.invariant.went;
  below = omega arith;
  ends = rw c.in-Some.is at c.iterate_once.ensures.iteration;
})

pub loop-iteration-preserved : goal.loop-iteration-preserved
loop-iteration-preserved g c = record {
  went = iterates_more (Iteration g.L.Latch.gave g.S.Service) c.loop-iteration._iteration _ _ _ c.loop-iteration.invariant.went (rw c.in_default.is at c.iterate_once.ensures.iteration);
  sound = c.iterate_once.ensures.sound;
  same = (iteration_orderly g.L.Latch.gave g.S.Service _ _ _ c.iterate_once.ensures.iteration).same ∙ c.loop-iteration.invariant.same;
  quiet = quiet_then _ _ _ _ _ _ g.L.Latch.stirs c.loop-iteration.invariant.same c.loop-iteration.invariant.quiet c.iterate_once.ensures.quiet;
  kept = λ fact h. c.iterate_once.ensures.kept fact (c.loop-iteration.invariant.kept fact h);
}

pub returns-clause-stepped : goal.returns-clause-stepped
returns-clause-stepped g c = iterations_tired _ c.loop-iteration._iteration _ _ _ _ c.loop-iteration.invariant.went (omega arith) c.yield_now.ensures.pending

pub returns-clause-woken : goal.returns-clause-woken
returns-clause-woken g c = inr (search rules)

pub returns-in-Some-clause-quiet : goal.returns-in-Some-clause-quiet
returns-in-Some-clause-quiet g c = λ woken.
    elim (quiet_then _ _ _ _ _ _ g.L.Latch.stirs c.loop-iteration.invariant.same c.loop-iteration.invariant.quiet c.iterate_once.ensures.quiet woken) [
      | inl was ↦ inl was
      | inr (inl stirs) ↦ inr (inl stirs)
      | inr (inr stirs) ↦ inr (inr (inl stirs))
    ]

pub returns-clause-quiet : goal.returns-clause-quiet
returns-clause-quiet g c = λ woken.
    inr (inr (inr (subst (λ n. Iterates (Iteration g.L.Latch.gave g.S.Service) n c.args.self.now c.loop-iteration.self) (omega arith) c.loop-iteration.invariant.went)))
