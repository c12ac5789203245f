use Rattle.std.specs.Prelude.{⊤}
use Rattle.futures.specs.Queued.{AllPollable, set_places}
use Rattle.tests_time.proofs.flights.in_unordered.Given as goal

abbrev pub invariant-loop-place : goal.invariant-loop-place
invariant-loop-place g l = AllPollable (λ _. ⊤) (set_places l.set)
