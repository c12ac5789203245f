use Rattle.example_paced_lines.proofs.paced.copy.Given as goal

abbrev pub invariant-loop-count : goal.invariant-loop-count
invariant-loop-count g l = g.S.Service.sound l.service
