use Rattle.std.specs.Prelude.{Some}
use Rattle.tower_latch.proofs.logged.tokens.append.Given as goal

abbrev pub ghosts-append_entry : goal.ghosts-append_entry
ghosts-append_entry g a = record { entry = Some (a.step, a.reply) }
