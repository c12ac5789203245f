use Rattle.std.proofs.Common.{rules}
use Rattle.tower_latch.proofs.Moves.{compares}
use Rattle.tower_latch.proofs.logged.tokens.compare.Goals as goal

pub load_as-requires : goal.load_as-requires
load_as-requires g c = (search rules, (search rules, (c.requires.cell, compares _ _ c.requires.keeps)))
