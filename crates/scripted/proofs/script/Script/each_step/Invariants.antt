use Rattle.scripted.proofs.script.Script.each_step.Given as goal

abbrev pub invariant-loop-step : goal.invariant-loop-step
invariant-loop-step g l = g.A.Plays.sound l.answers
