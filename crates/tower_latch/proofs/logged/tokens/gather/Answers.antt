use Rattle.std.proofs.Common.{rules, sym, ◌∙◌}
use Rattle.tower_latch.proofs.Moves.{hands_over, gathers}
use Rattle.tower_latch.proofs.logged.tokens.gather.Goals as goal

pub split_pass-claims-requires : goal.split_pass-claims-requires
split_pass-claims-requires g c = (search rules, (search rules, (c.requires.cell.1, hands_over _ _)))

pub join_pass-requires : goal.join_pass-requires
join_pass-requires g c =
    let given = c.split_pass-claims.ensures.given in
    (search rules, (search rules, ((c.requires.cell.0, given.0 ∙ c.requires.cell.1 ∙ sym c.requires.cell.0, given.2), gathers _ _ _ _)))
