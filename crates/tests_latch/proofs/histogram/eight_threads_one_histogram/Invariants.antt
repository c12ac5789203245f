use Rattle.std.specs.Prelude.{Some}
use Rattle.tests_latch.proofs.histogram.eight_threads_one_histogram.Given as goal

abbrev pub ghosts-one_histogram-K-Log : goal.ghosts-one_histogram-K-Log
ghosts-one_histogram-K-Log g a = record { opening = Some a.histogram; table = a.table }

abbrev pub ghosts-one_histogram-K-Ledger : goal.ghosts-one_histogram-K-Ledger
ghosts-one_histogram-K-Ledger g a = record { name = a.blank.name; parts = a.blank.parts }
