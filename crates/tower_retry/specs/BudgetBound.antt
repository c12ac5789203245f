-- Retries are bounded by successes.
use Rattle.std.specs.Prelude.{◌≡◌, ◌<◌, ◌≤◌, ℕ, ◌+◌, ◌*◌, nat_le, nat_lt, if◌then◌else◌, true, false, List, [], ◌∷◌, ◌^◌, length, take, slice_get, Option, Some}
use Rattle.tower_latch.specs.History.{IsLegal}
use Rattle.tower_latch.specs.Latch.{Serves, StepsAs, Came}
use Rattle.tower_retry.specs.Budget.{Ledger, Steps, initial}
use Rattle.tower_retry.specs.BudgetAmounts.{AreSmall}
use Rattle.tower_retry.specs.BudgetCore.{StandsFor, Opens}
use Rattle.tower_retry.specs.BudgetWindows.{NeverBack, moment_of}
use Rattle.tower_retry.specs.declared.retry.budget.budget_core.BudgetCore.{BudgetCore}
use Rattle.tower_retry.specs.declared.retry.budget.steps.BudgetStep.{BudgetStep}
use Rattle.tower_retry.specs.declared.retry.budget.steps.BudgetStep.TheVariants.{Deposit, Withdraw}
use Rattle.tower_retry.specs.declared.retry.budget.steps.BudgetReply.{BudgetReply}
use Rattle.tower_retry.specs.declared.retry.budget.steps.BudgetReply.TheVariants.{Done, Allowed}
use Rattle.tower_retry.specs.declared.retry.budget.steps.Terms.{Terms}

-- what an allowed retry costs, and what a success brings
abbrev pub cost : ℕ → BudgetReply → ℕ
cost withdrawal (Allowed true) = withdrawal
cost withdrawal (Allowed false) = 0
cost withdrawal Done = 0

abbrev pub gain : ℕ → BudgetStep → ℕ
gain deposit (Deposit moment) = deposit
gain deposit (Withdraw moment) = 0

-- what the retries cost that were allowed at most `back` before the moment `now`
abbrev pub spent : ℕ → ℕ → ℕ → List (BudgetStep × BudgetReply) → ℕ
spent withdrawal back now [] = 0
spent withdrawal back now (entry ∷ rest) = (if nat_le now (moment_of entry.0 + back) then cost withdrawal entry.1 else 0) + spent withdrawal back now rest

-- what the successes brought that were less than `back` before the moment `now`
abbrev pub earned : ℕ → ℕ → ℕ → List (BudgetStep × BudgetReply) → ℕ
earned deposit back now [] = 0
earned deposit back now (entry ∷ rest) = (if nat_lt now (moment_of entry.0 + back) then gain deposit entry.0 else 0) + earned deposit back now rest

-- A retry that is allowed at this moment and those of the ten windows before it cost at most the reserve and what the successes of the last eleven
-- windows brought.
abbrev pub IsCovered : Terms → ℕ → List (BudgetStep × BudgetReply) → Type 0
IsCovered terms moment served = terms.withdrawal + spent terms.withdrawal (10 * terms.window) moment served ≤ terms.reserve + earned terms.deposit (11 * terms.window) moment served

-- so few steps that the sums of their amounts are exact
abbrev pub AreFew : Terms → List (BudgetStep × BudgetReply) → Type 0
AreFew terms served = AreSmall terms × (length served < 2 ^ 80)

-- While readings never go back, each retry that is allowed is covered.
abbrev pub RetriesBounded : Type 0
RetriesBounded =
    (terms : Terms) (made moment : ℕ) (served : List (BudgetStep × BudgetReply)) (past next : Ledger) → 0 < terms.window
    → Serves Steps (initial terms made) served past → Steps past (Withdraw moment) (Allowed true) next
    → NeverBack made served moment → AreFew terms served → IsCovered terms moment served

-- So it is of each retry that a latch of a budget with these terms allows, in the run in which it does.
abbrev pub BoundedAtLatch : Type 0
BoundedAtLatch =
    (terms : Terms) (moment : ℕ) → 0 < terms.window → Came Opens (StepsAs StandsFor Steps) (λ (core : BudgetCore). core.terms) terms (Withdraw moment) (Allowed true)
    → ∥ ((made : ℕ) × (served : List (BudgetStep × BudgetReply)) × (past : Ledger) × Serves Steps (initial terms made) served past
    × (NeverBack made served moment → AreFew terms served → IsCovered terms moment served)) ∥₁

-- So it is, too, of each retry in the history of a budget that ran under a log, with the entries before it.
abbrev pub BoundedInHistory : Type 0
BoundedInHistory =
    (terms : Terms) (made : ℕ) (budget : BudgetCore) (opening : Option BudgetCore) (history : List (BudgetStep × BudgetReply)) → 0 < terms.window
    → StandsFor budget (initial terms made) → opening ≡ Some budget → IsLegal Opens (StepsAs StandsFor Steps) opening history
    → (place moment : ℕ) → slice_get history place ≡ Some (Withdraw moment, Allowed true)
    → NeverBack made (take place history) moment → AreFew terms (take place history) → IsCovered terms moment (take place history)
