use Rattle.std.specs.Prelude.{Some}
use Rattle.tests_latch.proofs.line.four_steps_of_two_passes.Given as goal

abbrev pub ghosts-two_passes_run-K-Log : goal.ghosts-two_passes_run-K-Log
ghosts-two_passes_run-K-Log g a = record { opening = Some a.core; table = a.table }

abbrev pub ghosts-two_passes_run-K-Ledger : goal.ghosts-two_passes_run-K-Ledger
ghosts-two_passes_run-K-Ledger g a = record { name = a.blank.name; parts = a.blank.parts }
