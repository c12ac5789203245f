-- What the terms of a budget's latch say.
use Rattle.std.specs.Prelude.{ℕ, List}
use Rattle.tower_latch.specs.Latch.{Serves, StepsAs, Came}
use Rattle.tower_retry.specs.Budget.{Ledger, Steps, initial}
use Rattle.tower_retry.specs.BudgetCore.{StandsFor, Opens}
use Rattle.tower_retry.specs.declared.retry.budget.budget_core.BudgetCore.{BudgetCore}
use Rattle.tower_retry.specs.declared.retry.budget.steps.BudgetStep.{BudgetStep}
use Rattle.tower_retry.specs.declared.retry.budget.steps.BudgetReply.{BudgetReply}
use Rattle.tower_retry.specs.declared.retry.budget.steps.Terms.{Terms}

-- In some run from a new budget with these terms, the step has this reply.
abbrev pub InARun : Terms → BudgetStep → BudgetReply → Type 0
InARun terms step reply = (made : ℕ) × (served : List (BudgetStep × BudgetReply)) × (past : Ledger) × (next : Ledger)
    × Serves Steps (initial terms made) served past × Steps past step reply next

-- So it is at each latch of a budget with these terms.
abbrev pub RunsFromTerms : Type 0
RunsFromTerms =
    (terms : Terms) (step : BudgetStep) (reply : BudgetReply) → Came Opens (StepsAs StandsFor Steps) (λ (core : BudgetCore). core.terms) terms step reply
    → ∥ InARun terms step reply ∥₁
