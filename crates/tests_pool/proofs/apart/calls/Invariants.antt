use Rattle.tests_pool.proofs.apart.calls.Given as goal

abbrev pub invariant-loop-request : goal.invariant-loop-request
invariant-loop-request g l = g.H.Service.sound l.handle
