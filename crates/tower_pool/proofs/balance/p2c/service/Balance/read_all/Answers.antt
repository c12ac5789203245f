use Rattle.std.proofs.Common.{inl, inr, rules, refl, arith}
use Rattle.tower_base.specs.IterationsLemmas.{iterates_more, iterates_start, iterations_answer, iterations_tired}
use Rattle.tower_base.specs.QuietLemmas.{ever}
use Rattle.tower_pool.specs.Balance.{Reads, view_of}
use Rattle.tower_pool.proofs.BalanceLemmas.{reads_on}
use Rattle.tower_pool.proofs.StirsLemmas.{at_limit, quiet_then}
use Rattle.tower_pool.proofs.balance.p2c.service.Balance.read_all.Goals as goal

pub loop-iteration-init : goal.loop-iteration-init
loop-iteration-init g c = record { went = iterates_start _ _; sound = search rules; quiet = inl; kept = search rules }

pub returns-in-Some-clause-read : goal.returns-in-Some-clause-read
returns-in-Some-clause-read g c =
    reads_on g.D.Discover.discovered g.K.PartialEq.eq (view_of c.args.self.now) c.in-Some.answer (view_of c.read.new.self) c.if-self.false
    (iterations_answer (Reads g.D.Discover.discovered g.K.PartialEq.eq) c.loop-iteration._iteration _ _ _ _ _ c.loop-iteration.invariant.went (omega arith) (rw c.in-Some.is at c.read.ensures.read))

pub returns-in-Some-clause-woken : goal.returns-in-Some-clause-woken
returns-in-Some-clause-woken g c = λ going. inl (record {
  count = c.loop-iteration._iteration;
  last = view_of c.loop-iteration.self;
  went = c.loop-iteration.invariant.went;
  below = omega arith;
  ends = rw c.in-Some.is at c.read.ensures.read;
})

pub loop-iteration-preserved : goal.loop-iteration-preserved
loop-iteration-preserved g c = record {
  went = iterates_more (Reads g.D.Discover.discovered g.K.PartialEq.eq) c.loop-iteration._iteration _ _ _ c.loop-iteration.invariant.went (rw c.in_default.is at c.read.ensures.read);
  sound = search rules;
  quiet = quiet_then (λ h. h) (ever g.D.Discover.stirs _ _) c.loop-iteration.invariant.quiet c.read.ensures.quiet;
  kept = search rules;
}

pub returns-clause-read : goal.returns-clause-read
returns-clause-read g c =
    reads_on g.D.Discover.discovered g.K.PartialEq.eq (view_of c.args.self.now) _ _ c.if-self.false
    (iterations_tired (Reads g.D.Discover.discovered g.K.PartialEq.eq) c.loop-iteration._iteration _ _ _ _ c.loop-iteration.invariant.went (omega arith) refl)

pub returns-clause-woken : goal.returns-clause-woken
returns-clause-woken g c = λ going. inr (search rules)

pub returns-in-Some-clause-quiet : goal.returns-in-Some-clause-quiet
returns-in-Some-clause-quiet g c =
    quiet_then (λ h. inl (c.if-self.false, h)) (λ h. inl (c.if-self.false, ever g.D.Discover.stirs _ _ h)) c.loop-iteration.invariant.quiet c.read.ensures.quiet

pub returns-clause-quiet : goal.returns-clause-quiet
returns-clause-quiet g c = λ woken.
    inr (inr (refl, (c.if-self.false, at_limit (Reads g.D.Discover.discovered g.K.PartialEq.eq) c.loop-iteration._iteration _ _ (omega arith) c.loop-iteration.invariant.went)))
