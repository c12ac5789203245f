use Rattle.std.proofs.Common.{[], ◌∷◌, rules}
use Rattle.tower_latch.proofs.Moves.{begins}
use Rattle.tower_latch.proofs.logged.log.LogTable.new.Goals as goal

pub ruled-requires : goal.ruled-requires
ruled-requires g c = (search rules, (search rules, begins (0 ∷ [])))
