use Rattle.std.proofs.Common.{rules, ◌≡◌, arith, subst}
use Rattle.tower_latch.specs.CoreTable.{places}
use Rattle.tower_limit.proofs.Replies.{release_gains_none, release_pays}
use Rattle.tower_limit.specs.declared.limit.concurrency.line_core.LineStep.TheVariants.{Release}
use Rattle.tower_limit.proofs.limit.concurrency.semaphore.Permit.release.Goals as goal

pub returns : goal.returns
returns g c = (
  c.give.result.0,
  subst (λ permit. g.L.Latch.gave permit.latch Release c.give.result.0) c.self.view_is
      (subst (λ place. g.L.Latch.gave place.latch Release c.give.result.0) c.open-latch.ensures.same c.give.ensures.gave),
)

pub give-requires-clause-ungained : goal.give-requires-clause-ungained
give-requires-clause-ungained g c = release_gains_none

pub end-requires : goal.end-requires
end-requires g c =
    let one : places c.open-latch.result.token ≡ 1 = search rules in
    let held = c.give.ensures.held in
    let pays = release_pays held.0 c.give.result.0 held.1 held.2 (omega (arith, held.3, one)) in
    omega (arith, c.give.ensures.places, pays.0, pays.1, one)
