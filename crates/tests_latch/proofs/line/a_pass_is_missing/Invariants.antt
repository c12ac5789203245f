use Rattle.std.specs.Prelude.{Some}
use Rattle.tests_latch.proofs.line.a_pass_is_missing.Given as goal

abbrev pub ghosts-one_pass_is_missing-K-Log : goal.ghosts-one_pass_is_missing-K-Log
ghosts-one_pass_is_missing-K-Log g a = record { opening = Some a.core; table = a.table }

abbrev pub ghosts-one_pass_is_missing-K-Ledger : goal.ghosts-one_pass_is_missing-K-Ledger
ghosts-one_pass_is_missing-K-Ledger g a = record { name = a.blank.name; parts = a.blank.parts }
