use Rattle.std.specs.Prelude.{Some}
use Rattle.example_audited_limit.proofs.main.Given as goal

abbrev pub ghosts-shared-K-Log : goal.ghosts-shared-K-Log
ghosts-shared-K-Log g a = record { opening = Some a.line; table = a.table }

abbrev pub ghosts-shared-K-Ledger : goal.ghosts-shared-K-Ledger
ghosts-shared-K-Ledger g a = record { name = a.new_log.name; parts = a.new_log.parts }
