use Rattle.tower_bench.proofs.rounds.flights.Given as goal

abbrev pub invariant-loop-number : goal.invariant-loop-number
invariant-loop-number g l = g.S.Service.sound l.service
