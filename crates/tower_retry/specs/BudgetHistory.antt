-- What holds of the history of a budget that threads share.
use Rattle.std.specs.Prelude.{◌≡◌, ℕ, Bool, List, take, Option, Some, slice_get, pos, int_le}
use Rattle.tower_latch.specs.Latch.{Serves, StepsAs}
use Rattle.tower_latch.specs.History.{IsLegal}
use Rattle.tower_retry.specs.Budget.{Ledger, Steps, IsExact, advanced, balance, initial}
use Rattle.tower_retry.specs.BudgetCore.{StandsFor, Opens}
use Rattle.tower_retry.specs.declared.retry.budget.budget_core.BudgetCore.{BudgetCore}
use Rattle.tower_retry.specs.declared.retry.budget.steps.BudgetStep.{BudgetStep}
use Rattle.tower_retry.specs.declared.retry.budget.steps.BudgetStep.TheVariants.{Withdraw}
use Rattle.tower_retry.specs.declared.retry.budget.steps.BudgetReply.{BudgetReply}
use Rattle.tower_retry.specs.declared.retry.budget.steps.BudgetReply.TheVariants.{Allowed}
use Rattle.tower_retry.specs.declared.retry.budget.steps.Terms.{Terms}

-- If the log opened with a new budget, the entries before each withdrawal lead to some ledger. If sums are exact there, the withdrawal is allowed exactly
-- if the balance there, which is the reserve and the sum of the amounts that count, reaches its amount.
abbrev pub AnsweredBySums : Type 0
AnsweredBySums =
    (terms : Terms) (made : ℕ) (budget : BudgetCore) (opening : Option BudgetCore) (history : List (BudgetStep × BudgetReply))
    → StandsFor budget (initial terms made) → opening ≡ Some budget → IsLegal Opens (StepsAs StandsFor Steps) opening history
    → (place moment : ℕ) (allowed : Bool) → slice_get history place ≡ Some (Withdraw moment, Allowed allowed)
    → (past : Ledger) × (Serves Steps (initial terms made) (take place history) past)
    × (IsExact (advanced past moment) → allowed ≡ int_le (pos terms.withdrawal) (balance (advanced past moment)))
