use Rattle.tests_pool.proofs.apart.one_call.Given as goal

abbrev pub invariant-loop : goal.invariant-loop
invariant-loop g l = g.H.Service.sound l.handle
