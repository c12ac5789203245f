use Rattle.std.specs.Prelude.{Some}
use Rattle.tests_latch.proofs.mail.four_senders_and_one_that_answers.Given as goal

abbrev pub ghosts-four_senders-K-Log : goal.ghosts-four_senders-K-Log
ghosts-four_senders-K-Log g a = record { opening = Some a.mail; table = a.table }

abbrev pub ghosts-four_senders-K-Ledger : goal.ghosts-four_senders-K-Ledger
ghosts-four_senders-K-Ledger g a = record { name = a.blank.name; parts = a.blank.parts }
