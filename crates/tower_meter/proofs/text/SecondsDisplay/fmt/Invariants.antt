use Rattle.std.proofs.Common.{◌<◌}
use Rattle.tower_meter.proofs.text.SecondsDisplay.fmt.Given as goal

abbrev pub invariant-loop : goal.invariant-loop
invariant-loop g l = l.rest < 1000000000
