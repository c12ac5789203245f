-- No step of a budget changes its terms.
use Rattle.std.proofs.Common.{◌≡◌, List, [], ◌∷◌, if◌then◌else◌, Bool, true, false, refl, ap, sym, ◌∙◌}
use Rattle.std.specs.Prelude.{ℤ, pos, neg_ℤ}
use Rattle.tower_latch.specs.Latch.{Serves, StepsAs}
use Rattle.tower_retry.specs.Budget.{Ledger, Steps, added, advanced}
use Rattle.tower_retry.specs.BudgetCore.{StandsFor}
use Rattle.tower_retry.specs.declared.retry.budget.budget_core.BudgetCore.{BudgetCore}
use Rattle.tower_retry.specs.declared.retry.budget.steps.BudgetStep.{BudgetStep}
use Rattle.tower_retry.specs.declared.retry.budget.steps.BudgetStep.TheVariants.{Deposit, Withdraw}
use Rattle.tower_retry.specs.declared.retry.budget.steps.BudgetReply.{BudgetReply}
use Rattle.tower_retry.specs.declared.retry.budget.steps.BudgetReply.TheVariants.{Done, Allowed}

added_terms : (ledger : Ledger) (amount : ℤ) (allowed : Bool) → (if allowed then added ledger amount else ledger).terms ≡ ledger.terms
added_terms ledger amount true = refl
added_terms ledger amount false = refl

pub step_terms : (old : Ledger) (step : BudgetStep) (reply : BudgetReply) (new : Ledger) → Steps old step reply new → new.terms ≡ old.terms
step_terms old (Deposit moment) Done new step = ap (λ (l : Ledger). l.terms) step
step_terms old (Deposit moment) (Allowed allowed) new step = absurd step
step_terms old (Withdraw moment) Done new step = absurd step
step_terms old (Withdraw moment) (Allowed allowed) new step =
    let at = advanced old moment in
    ap (λ (l : Ledger). l.terms) step.after ∙ added_terms at (neg_ℤ (pos at.terms.withdrawal)) allowed

pub serves_terms : (old new : Ledger) (served : List (BudgetStep × BudgetReply)) → Serves Steps old served new → new.terms ≡ old.terms
serves_terms old new [] run = ap (λ (l : Ledger). l.terms) run
serves_terms old new (x ∷ rest) run = serves_terms run.0 new rest run.2 ∙ step_terms old x.0 x.1 run.0 run.1

pub keeps_terms : (old : BudgetCore) (step : BudgetStep) (reply : BudgetReply) (new : BudgetCore) → StepsAs StandsFor Steps old step reply new → new.terms ≡ old.terms
keeps_terms old step reply new (stood, follows) =
    let next = follows stood.0 stood.1 in
    sym next.2.terms ∙ step_terms stood.0 step reply next.0 next.1 ∙ stood.1.terms
