use Rattle.std.specs.Prelude.{Some}
use Rattle.tests_latch.proofs.slot.eight_threads_one_slot.Given as goal

abbrev pub ghosts-one_slot-K-Log : goal.ghosts-one_slot-K-Log
ghosts-one_slot-K-Log g a = record { opening = Some a.slot; table = a.table }

abbrev pub ghosts-one_slot-K-Ledger : goal.ghosts-one_slot-K-Ledger
ghosts-one_slot-K-Ledger g a = record { name = a.blank.name; parts = a.blank.parts }
