use Rattle.std.proofs.Common.{◌≡◌}
use Rattle.tower_run.proofs.storm.rounds.Given as goal

abbrev pub invariant-loop-round : goal.invariant-loop-round
invariant-loop-round g l = l.made ≡ l.round
