use Rattle.std.proofs.Common.{◌≡◌, ℕ, ◌+◌, ◌-◌, ◌*◌, ◌<◌, ◌≤◌, length}
use denote.Text.{Utf8}
use denote.Shadow.{shadow}
use Rattle.scripted.proofs.report.notes_of.Given as goal

abbrev pub invariant-loop-note : goal.invariant-loop-note
invariant-loop-note l =
    (goal.iterator-loop-note).can_next l.note-iterator ×
    (goal.iterator-loop-note).is_finite l.note-iterator ×
    shadow (Utf8 l.last)
