use Rattle.std.specs.Prelude.{Some}
use Rattle.tests_latch.proofs.budget.eight_threads_one_budget.Given as goal

abbrev pub ghosts-one_budget-K-Log : goal.ghosts-one_budget-K-Log
ghosts-one_budget-K-Log g a = record { opening = Some a.budget; table = a.table }

abbrev pub ghosts-one_budget-K-Ledger : goal.ghosts-one_budget-K-Ledger
ghosts-one_budget-K-Ledger g a = record { name = a.blank.name; parts = a.blank.parts }
