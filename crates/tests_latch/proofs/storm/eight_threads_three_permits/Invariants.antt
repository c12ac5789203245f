use Rattle.std.specs.Prelude.{Some}
use Rattle.tests_latch.proofs.storm.eight_threads_three_permits.Given as goal

abbrev pub ghosts-three_permits-K-Log : goal.ghosts-three_permits-K-Log
ghosts-three_permits-K-Log g a = record { opening = Some a.line; table = a.table }

abbrev pub ghosts-three_permits-K-Ledger : goal.ghosts-three_permits-K-Ledger
ghosts-three_permits-K-Ledger g a = record { name = a.blank.name; parts = a.blank.parts }
