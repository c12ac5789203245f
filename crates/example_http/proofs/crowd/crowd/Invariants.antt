use Rattle.futures.specs.Queued.{AllPollable, set_places}
use Rattle.example_http.proofs.crowd.crowd.Given as goal

abbrev pub invariant-loop : goal.invariant-loop
invariant-loop g l = AllPollable g.F.Future.can_poll (set_places l.talks)
