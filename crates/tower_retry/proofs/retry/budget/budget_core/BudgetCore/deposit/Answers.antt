use Rattle.std.proofs.Common.{◌≡◌, arith, ap, sym, subst, ◌∙◌, to_z}
use Rattle.std.specs.Int.{w128}
use Rattle.std.proofs.lemmas.Int.{ints}
use Rattle.std.specs.Prelude.{ℤ, pos}
use Rattle.tower_retry.specs.Budget.{advanced, added}
use Rattle.tower_retry.specs.BudgetCore.{StandsFor}
use Rattle.tower_retry.specs.declared.retry.budget.steps.Terms.{Terms}
use Rattle.tower_retry.proofs.retry.budget.budget_core.BudgetCore.deposit.Goals as goal

pub returns-clause-changes : goal.returns-clause-changes
returns-clause-changes c = λ l s.
    let a = c.advance.ensures.changes l s in
    let amount : to_z w128 c.advance.new.self.terms.deposit ≡ pos c.advance.new.self.terms.deposit = omega (arith, ints) in
    let terms = c.advance.ensures.terms ∙ sym s.terms in
    subst (λ (z : ℤ). StandsFor c.add.new.self (added (advanced l c.args.moment) z)) (amount ∙ ap (λ (t : Terms). pos t.deposit) terms) (c.add.ensures.changes _ a)
