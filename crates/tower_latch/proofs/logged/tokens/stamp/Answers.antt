use Rattle.std.proofs.Common.{rules, sym, ap, ◌∙◌}
use Rattle.tower_latch.specs.declared.logged.rule.View.{View}
use Rattle.tower_latch.proofs.Moves.{hands_over, takes_in}
use Rattle.tower_latch.proofs.logged.tokens.stamp.Goals as goal

pub split_pass-claims-requires : goal.split_pass-claims-requires
split_pass-claims-requires g c = (search rules, (search rules, (c.requires.cell.1, hands_over _ _)))

pub join_pass-requires : goal.join_pass-requires
join_pass-requires g c =
    let given = c.split_pass-claims.ensures.given in
    (search rules, (search rules, ((c.requires.cell.0, given.0 ∙ c.requires.cell.1 ∙ sym c.requires.cell.0, given.2), takes_in _ _ _ _ (ap (λ (v : View g.row.S.Denot g.row.R.Denot). v.claims) c.requires.keeper))))

pub split_pass-requires : goal.split_pass-requires
split_pass-requires g c =
    (search rules, (search rules, (c.append.ensures.same.0 ∙ c.join_pass.ensures.0.0 ∙ c.requires.cell.0, hands_over _ _)))
