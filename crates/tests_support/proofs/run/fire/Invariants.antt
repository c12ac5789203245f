use Rattle.tests_support.proofs.run.fire.Given as goal

abbrev pub invariant-loop : goal.invariant-loop
invariant-loop g l = g.S.Service.sound l.service
