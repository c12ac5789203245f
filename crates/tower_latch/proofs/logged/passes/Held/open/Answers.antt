use Rattle.std.proofs.Common.{length, rules, refl, sym, ap, ◌∙◌, subst, arith}
use Rattle.tower_latch.specs.History.{LeadsTo, Rises}
use Rattle.tower_latch.specs.Tokens.{knower, claims_part, claimer}
use Rattle.tower_latch.proofs.Moves.{hands_over}
use Rattle.tower_latch.proofs.Histories.{rises_none}
use Rattle.tower_latch.proofs.logged.passes.Held.open.Goals as goal

pub split_pass-token-requires : goal.split_pass-token-requires
split_pass-token-requires g c = (search rules, (search rules, (c.loop.invariant.4 ∙ sym c.requires.table, hands_over _ _)))

pub invariant_of-push : goal.invariant_of-push
invariant_of-push g c =
    let i = c.loop.invariant in
    let t = c.split_pass-token.ensures.given in
    let e = c.new.ensures.items in (
      c.split_off-share.ensures.parts,
      c.split_off-share.ensures.amount ∙ ap length (sym e),
      t.0 ∙ i.4,
      t.1 ∙ ap claims_part i.5 ∙ ap claimer (sym e),
      subst Rises (sym e) rises_none,
    )

pub invariant_of-held : goal.invariant_of-held
invariant_of-held g c =
    let i = c.loop.invariant in
    let e = c.new-2.ensures.items in (
      subst (λ h. LeadsTo g.C.Core.opens g.C.Core.steps g.K.Log.opening h c.args.core) (sym e) (c.args.core, c.requires.opening, c.requires.opens, refl),
      c.open-book.ensures.total ∙ ap length (sym e),
      i.4,
      i.5 ∙ ap knower (sym e),
      omega arith,
      i.1,
    )
