use Rattle.std.specs.Prelude.{Some}
use Rattle.tests_latch.proofs.count.eight_threads_one_count.Given as goal

abbrev pub ghosts-one_count-K-Log : goal.ghosts-one_count-K-Log
ghosts-one_count-K-Log g a = record { opening = Some a.count; table = a.table }

abbrev pub ghosts-one_count-K-Ledger : goal.ghosts-one_count-K-Ledger
ghosts-one_count-K-Ledger g a = record { name = a.blank.name; parts = a.blank.parts }
