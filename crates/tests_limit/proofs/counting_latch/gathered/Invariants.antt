use Rattle.std.proofs.Common.{◌≡◌, All}
use Rattle.tower_limit.specs.Concurrency.{IsOf}
use Rattle.tests_limit.proofs.counting_latch.gathered.Given as goal

abbrev pub invariant-loop : goal.invariant-loop
invariant-loop g l = All (IsOf g.L.Latch l.fn.semaphore) l.permits.items
