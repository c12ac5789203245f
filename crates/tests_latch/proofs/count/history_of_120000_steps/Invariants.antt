use Rattle.std.specs.Prelude.{Some}
use Rattle.tests_latch.proofs.count.history_of_120000_steps.Given as goal

abbrev pub ghosts-many_passes-K-Log : goal.ghosts-many_passes-K-Log
ghosts-many_passes-K-Log g a = record { opening = Some a.count; table = a.table }

abbrev pub ghosts-many_passes-K-Ledger : goal.ghosts-many_passes-K-Ledger
ghosts-many_passes-K-Ledger g a = record { name = a.blank.name; parts = a.blank.parts }
