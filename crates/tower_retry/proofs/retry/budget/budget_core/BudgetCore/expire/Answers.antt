use Rattle.std.proofs.Common.{◌<◌, arith, refl, rules}
use Rattle.std.specs.Int.{w128}
use Rattle.std.proofs.lemmas.Int.{to_z-of_z}
use Rattle.tower_retry.proofs.BudgetCoreLemmas.{begun_later, ends_here, is_after, is_later, moved_on}
use Rattle.tower_retry.proofs.retry.budget.budget_core.BudgetCore.expire.Goals as goal

pub overflow_sub-since : goal.overflow_sub-since
overflow_sub-since c =
    let old = c.args.self.now in
    let later = is_later old c.args.moment (search rules) c.requires in
    omega (arith, is_after old.made old.terms.window c.args.moment (omega (arith, later)))

pub invariant_of-self-clause-ends : goal.invariant_of-self-clause-ends
invariant_of-self-clause-ends c =
    let old = c.args.self.now in
    let windows = old.windows in
    let later = is_later old c.args.moment (search rules) c.requires in
    ends_here old.made old.terms.window c.args.moment _ (omega arith)
    (omega (arith, is_after old.made old.terms.window c.args.moment (omega (arith, later)))) c.saturating_add-self.ensures

pub invariant_of-self-clause-begun : goal.invariant_of-self-clause-begun
invariant_of-self-clause-begun c = λ back early few.
    let old = c.args.self.now in
    let later = is_later old c.args.moment (search rules) c.requires in
    begun_later old _ _ _ _ (to_z-of_z w128 old.present (search rules)) c.advance.ensures.moves back (omega (arith, early, later)) few

pub returns-clause-changes : goal.returns-clause-changes
returns-clause-changes c = λ l s.
    let old = c.args.self.now in
    let later = is_later old c.args.moment (search rules) c.requires in
    moved_on old _ l _ c.args.moment _ (omega (arith, later)) (omega (arith, later)) (to_z-of_z w128 old.present (search rules)) refl refl refl refl c.advance.ensures.moves s
