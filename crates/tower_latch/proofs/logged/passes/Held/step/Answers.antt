use Rattle.std.proofs.Common.{◌≡◌, ℕ, [], ◌∷◌, ◌++◌, length, sym, ap, ◌∙◌, subst}
use Rattle.crossbeam_utils.specs.Seq.{cell_view}
use Rattle.tower_latch.specs.declared.logged.rule.View.{View}
use Rattle.tower_latch.specs.History.{LeadsTo, Stand, Rises}
use Rattle.tower_latch.specs.Tokens.{knower, claimer}
use Rattle.tower_latch.proofs.Histories.{legal_on, length_on, rises_on}
use Rattle.tower_latch.proofs.logged.passes.Held.step.Goals as goal

pub invariant_of-self-2 : goal.invariant_of-self-2
invariant_of-self-2 g c =
    let i = c.self.invariant in
    let t = c.stamp.ensures in
    let old = c.self.inside.history.items in
    let now : c.push_reserved.new.self.items ≡ old ++ (c.args.step, c.step-reply.result.0) ∷ [] = c.push_reserved.ensures.items ∙ ap (λ l. l ++ (c.args.step, c.step-reply.result.0) ∷ []) c.in_ok-reserve.ensures.items in (
      subst (λ h. LeadsTo g.C.Core.opens g.C.Core.steps g.K.Log.opening h c.step-reply.new.self) (sym now) (legal_on _ _ _ _ _ _ _ _ i.0 c.step-reply.ensures.steps),
      c.add.ensures.total ∙ length_on old (c.args.step, c.step-reply.result.0) _ i.1 ∙ ap length (sym now),
      t.same.0 ∙ i.2,
      t.keeper ∙ ap (λ (v : View g.row.C-Step.Denot g.row.C-Reply.Denot). knower (v.all ++ (c.args.step, c.step-reply.result.0) ∷ [])) i.3 ∙ ap knower (sym now),
      i.4,
      i.5,
    )

pub invariant_of-pass-2 : goal.invariant_of-pass-2
invariant_of-pass-2 g c =
    let i = c.self.invariant in
    let j = c.pass.invariant in
    let t = c.stamp.ensures in
    let old = c.pass.inside.receipts.items in
    let place : c.len-place.result ≡ length c.self.inside.history.items = c.len-place.ensures ∙ c.in_ok-reserve.ensures.len ∙ c.self.inside.history.ok.0 in
    let entry : ℕ × g.row.C-Step.Denot × g.row.C-Reply.Denot = (c.len-place.result, c.args.step, c.step-reply.result.0) in
    let now : c.push_reserved-2.new.self.items ≡ old ++ entry ∷ [] = c.push_reserved-2.ensures.items ∙ ap (λ l. l ++ entry ∷ []) c.in_ok-reserve-2.ensures.items in
    let all = ap (λ (v : View g.row.C-Step.Denot g.row.C-Reply.Denot). v.all) i.3 in
    let claims = ap (λ (v : View g.row.C-Step.Denot g.row.C-Reply.Denot). v.claims) j.3 in
    let stand : Stand c.self.inside.history.items old = subst (λ l. Stand l old) all (subst (Stand (cell_view c.self.inside.keeper).all) claims t.stand) in (
      c.add.ensures.parts ∙ j.0,
      c.add.ensures.amount ∙ length_on old entry _ j.1 ∙ ap length (sym now),
      t.same.1 ∙ j.2,
      t.token
          ∙ ap (λ l. claimer (l ++ (length (cell_view c.self.inside.keeper).all, c.args.step, c.step-reply.result.0) ∷ [])) claims
          ∙ ap (λ n. claimer (old ++ (n, c.args.step, c.step-reply.result.0) ∷ [])) (ap length all ∙ sym place)
          ∙ ap claimer (sym now),
      subst Rises (sym now) (rises_on c.self.inside.history.items old _ _ _ place stand j.4),
    )

pub returns-clause-place : goal.returns-clause-place
returns-clause-place g c = c.len-place.ensures ∙ c.in_ok-reserve.ensures.len ∙ c.self.inside.history.ok.0 ∙ ap length c.self.view_is
