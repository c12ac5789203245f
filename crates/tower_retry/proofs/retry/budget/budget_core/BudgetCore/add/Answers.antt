use Rattle.std.proofs.Common.{◌∙◌, ap, refl, rules, to_z, of_z}
use Rattle.std.proofs.lemmas.Int.{to_z-of_z}
use Rattle.std.specs.Prelude.{◌+ℤ◌, ℤ}
use Rattle.std.specs.Int.{w128, saturate_signed}
use Rattle.tower_retry.proofs.BudgetCoreLemmas.{adds}
use Rattle.tower_retry.proofs.retry.budget.budget_core.BudgetCore.add.Goals as goal

pub returns-clause-changes : goal.returns-clause-changes
returns-clause-changes c = λ l s.
    let old = c.args.self.now in
    let there = to_z-of_z w128 old.present (search rules) in
    let more = to_z-of_z w128 c.args.amount c.ranges.amount in
    let sum = to_z-of_z w128 _ (search rules) ∙ c.saturating_add-self.ensures
    ∙ ap (λ (z : ℤ). saturate_signed w128 (z +ℤ to_z w128 (of_z w128 c.args.amount))) there
    ∙ ap (λ (z : ℤ). saturate_signed w128 (old.present +ℤ z)) more in
    adds old _ l c.args.amount sum s refl refl refl refl
