use Rattle.tests_support.proofs.run.awaited.Given as goal

abbrev pub invariant-loop : goal.invariant-loop
invariant-loop g l = g.F.Steps.can_poll l.future
