use Rattle.std.proofs.Common.{rules, arith, subst, sym}
use Rattle.tower_limit.specs.declared.limit.concurrency.line_core.LineStep.TheVariants.{Release}
use Rattle.tower_limit.proofs.Replies.{pays_one, release_gains_none, release_pays}
use Rattle.tower_limit.proofs.limit.concurrency.semaphore.Semaphore.release_all.Goals as goal

pub loop-init : goal.loop-init
loop-init g c = record { its = c.loop-permit.invariant.its; rest = search rules; released = λ some. absurd (omega (arith, some)) }

pub give-requires-clause-paid : goal.give-requires-clause-paid
give-requires-clause-paid g c = λ reply. omega (arith, pays_one reply, c.loop.invariant.rest, c.loop-test.true)

pub give-requires-clause-its : goal.give-requires-clause-its
give-requires-clause-its g c = subst (λ semaphore. g.L.Latch.its semaphore.latch c.loop.token) (sym c.self.view_is) c.loop.invariant.its

pub loop-preserved : goal.loop-preserved
loop-preserved g c = record {
  its = subst (λ semaphore. g.L.Latch.its semaphore.latch c.give.result.1) c.self.view_is c.give.ensures.its;
  rest =
      let held = c.give.ensures.held in
      let one = release_pays held.0 c.give.result.0 held.1 held.2 (omega (arith, held.3, c.loop.invariant.rest, c.loop-test.true)) in
      omega (arith, one.0, one.1, c.loop.invariant.rest, c.give.ensures.places);
  released = λ some. (c.give.result.0, subst (λ semaphore. g.L.Latch.gave semaphore.latch Release c.give.result.0) c.self.view_is c.give.ensures.gave);
}

pub give-requires-clause-ungained : goal.give-requires-clause-ungained
give-requires-clause-ungained g c = release_gains_none

pub end-requires : goal.end-requires
end-requires g c = omega (arith, c.loop.invariant.rest, c.loop-test.false)
