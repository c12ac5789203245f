use Rattle.std.proofs.Common.{◌≡◌, arith, refl, sym, ◌∙◌, ap, subst, to_z, of_z}
use Rattle.std.specs.Int.{w128}
use Rattle.std.proofs.lemmas.Int.{ints}
use Rattle.std.specs.Prelude.{ℤ, pos, neg_ℤ, ◌-ℤ◌}
use Rattle.tower_retry.proofs.BudgetCoreLemmas.{affords}
use Rattle.tower_retry.specs.Budget.{advanced, added}
use Rattle.tower_retry.specs.BudgetCore.{StandsFor}
use Rattle.tower_retry.specs.declared.retry.budget.steps.Terms.{Terms}
use Rattle.tower_retry.proofs.retry.budget.budget_core.BudgetCore.withdraw.Goals as goal

pub returns-then-not-affords-clause-withdraws : goal.returns-then-not-affords-clause-withdraws
returns-then-not-affords-clause-withdraws c = λ l s.
    let a = c.advance.ensures.changes l s in
    (_, record { made = affords _ _ a _ (sym c.if-not-affords.true ∙ c.affords.ensures); after = refl }, a)

pub returns-clause-withdraws : goal.returns-clause-withdraws
returns-clause-withdraws c = λ l s.
    let a = c.advance.ensures.changes l s in
    let terms = a.terms in
    let amount : to_z w128 (of_z w128 (pos 0 -ℤ to_z w128 c.advance.new.self.terms.withdrawal)) ≡ neg_ℤ (pos c.advance.new.self.terms.withdrawal) = omega (arith, ints) in (
      _,
      record { made = affords _ _ a _ (sym c.if-not-affords.false ∙ c.affords.ensures); after = refl },
      subst (λ (z : ℤ). StandsFor c.add.new.self (added (advanced l c.args.moment) z)) (amount ∙ ap (λ (t : Terms). neg_ℤ (pos t.withdrawal)) (sym terms)) (c.add.ensures.changes _ a),
    )
