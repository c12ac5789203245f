-- How long a deposit counts.
use Rattle.std.specs.Prelude.{◌≡◌, ◌<◌, ◌≤◌, ℕ, ◌+◌, ◌*◌, true, false, List, [], ◌∷◌, ◌++◌, pos}
use Rattle.tower_latch.specs.Latch.{Serves}
use Rattle.tower_retry.specs.Budget.{Amount, Ledger, Steps, advanced, initial, counts}
use Rattle.tower_retry.specs.declared.retry.budget.steps.BudgetStep.{BudgetStep}
use Rattle.tower_retry.specs.declared.retry.budget.steps.BudgetStep.TheVariants.{Deposit, Withdraw}
use Rattle.tower_retry.specs.declared.retry.budget.steps.BudgetReply.{BudgetReply}
use Rattle.tower_retry.specs.declared.retry.budget.steps.BudgetReply.TheVariants.{Done}
use Rattle.tower_retry.specs.declared.retry.budget.steps.Terms.{Terms}

abbrev pub moment_of : BudgetStep → ℕ
moment_of (Deposit moment) = moment
moment_of (Withdraw moment) = moment

-- From the first moment, over those of the steps, to the last moment no reading is earlier than the one before it.
abbrev pub NeverBack : ℕ → List (BudgetStep × BudgetReply) → ℕ → Type 0
NeverBack from [] to = from ≤ to
NeverBack from (entry ∷ rest) to = from ≤ moment_of entry.0 × NeverBack (moment_of entry.0) rest to

-- what a deposit at this moment adds
abbrev pub deposit_at : Ledger → ℕ → Amount
deposit_at ledger moment = record { generation = (advanced ledger moment).generation; amount = pos ledger.terms.deposit }

-- While readings never go back, a deposit counts at every moment up to ten windows after it, and at none from eleven windows on.
abbrev pub CountsForTenWindows : Type 0
CountsForTenWindows =
    (terms : Terms) (made deposited moment : ℕ) (before after : List (BudgetStep × BudgetReply)) (past next now : Ledger) → 0 < terms.window
    → Serves Steps (initial terms made) before past → NeverBack made before deposited
    → Steps past (Deposit deposited) Done next
    → Serves Steps next after now → NeverBack deposited after moment
    → (newer : List Amount) × (now.amounts ≡ newer ++ (deposit_at past deposited ∷ past.amounts))
    × (moment ≤ deposited + 10 * terms.window → counts (advanced now moment).generation (deposit_at past deposited) ≡ true)
    × (deposited + 11 * terms.window ≤ moment → counts (advanced now moment).generation (deposit_at past deposited) ≡ false)
