use Rattle.std.specs.Prelude.{Some}
use Rattle.tests_latch.proofs.refused.ample_growths.Given as goal

abbrev pub ghosts-six_steps-K-Log : goal.ghosts-six_steps-K-Log
ghosts-six_steps-K-Log g a = record { opening = Some a.line; table = a.table }

abbrev pub ghosts-six_steps-K-Ledger : goal.ghosts-six_steps-K-Ledger
ghosts-six_steps-K-Ledger g a = record { name = a.blank.name; parts = a.blank.parts }
