use Rattle.std.proofs.Common.{◌≡◌, ◌≤◌, take}
use Rattle.tower_limit.specs.LineLaws.{grants, returns}
use Rattle.example_audited_limit.proofs.Counts.{IsMostBy}
use Rattle.example_audited_limit.proofs.audit.audited.Given as goal

abbrev pub invariant-loop-entry : goal.invariant-loop-entry
invariant-loop-entry l =
    (l.granted ≡ grants (take l.entry-index l.entries))
    × (l.returned ≡ returns (take l.entry-index l.entries))
    × (l.granted ≤ l.entry-index)
    × (l.returned ≤ l.entry-index)
    × (IsMostBy l.entries l.entry-index l.most)
