use Rattle.std.proofs.Common.{Some, None, refl}
use Rattle.tower_retry.proofs.retry.future.decide.Goals as goal

pub returns-in-None-clause-after : goal.returns-in-None-clause-after
returns-in-None-clause-after g c =
    let asked = rw c.in-None.is at c.retry.ensures.decided in
    rw c.in-Some.is (None, c.retry.new.self, c.retry.new.request, c.retry.new.outcome, asked, (cc c.outer-in-None.ensures, refl))

pub returns-in-Some-retry-clause-after : goal.returns-in-Some-retry-clause-after
returns-in-Some-retry-clause-after g c =
    let asked = rw c.in-Some-retry.is at c.retry.ensures.decided in
    rw c.in-Some.is (Some c.in-Some-retry.wait, c.retry.new.self, c.retry.new.request, c.retry.new.outcome, asked, (refl, refl))
