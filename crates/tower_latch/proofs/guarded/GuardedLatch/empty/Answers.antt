use Rattle.std.proofs.Common.{◌≡◌, arith, ap, ◌∙◌}
use Rattle.tower_latch.specs.CoreTable.{initial}
use Rattle.tower_latch.proofs.CoreTableMoves.{has_core, after_none}
use Rattle.tower_latch.proofs.guarded.GuardedLatch.empty.Goals as goal

pub free-requires : goal.free-requires
free-requires g c =
    let h = has_core (λ k. g.C.Core.terms k.core ≡ c.args.self.now.terms) (λ k. g.C.Core.out k.core) initial c.lock.result.me c.lock.ensures.has in
    record { its = c.lock.ensures.its; has = ap (λ m. m.0.has) c.lock.ensures.has.1; core = (h.0, h.1, h.2, omega (arith, h.3)) }

pub returns-clause-places : goal.returns-clause-places
returns-clause-places g c =
    let h = has_core (λ k. g.C.Core.terms k.core ≡ c.args.self.now.terms) (λ k. g.C.Core.out k.core) initial c.lock.result.me c.lock.ensures.has in
    after_none (λ k. g.C.Core.terms k.core ≡ c.args.self.now.terms) (λ k. g.C.Core.out k.core) c.lock.result.me _ h c.free.ensures.left ∙ ap (λ m. m.0.out) c.lock.ensures.has.1
