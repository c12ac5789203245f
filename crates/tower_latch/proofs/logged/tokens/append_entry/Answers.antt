use Rattle.std.proofs.Common.{rules}
use Rattle.tower_latch.proofs.Moves.{appends}
use Rattle.tower_latch.proofs.logged.tokens.append_entry.Goals as goal

pub load_as-requires : goal.load_as-requires
load_as-requires g c = (search rules, (search rules, (c.requires.cell, appends _ _ _ c.args.step c.args.reply c.requires.keeps c.requires.entry)))
