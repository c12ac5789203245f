-- Which plain ledgers a `BudgetCore` stands for.
use Rattle.std.specs.Prelude.{◌≡◌, ℕ, List, ℤ, pos, ◌+ℤ◌}
use Rattle.std.specs.Int.{w128, saturate_signed}
use Rattle.tower_latch.specs.Latch.{Serves, StepsAs}
use Rattle.tower_base.specs.declared.service.Fraction.{Fraction}
use Rattle.tower_retry.specs.Budget.{Ledger, Fits, terms_of, initial, balance, IsExact, Steps}
use Rattle.tower_retry.specs.Slots.{Keeps, Slotted, kept_sum}
use Rattle.tower_retry.specs.declared.retry.budget.budget_core.BudgetCore.{BudgetCore}
use Rattle.tower_retry.specs.declared.retry.budget.steps.BudgetStep.{BudgetStep}
use Rattle.tower_retry.specs.declared.retry.budget.steps.BudgetReply.{BudgetReply}

-- The slots keep the ten generations before the ledger's, and the present amount is that of its own generation.
pub record StandsFor (core : BudgetCore) (ledger : Ledger) : Type 0 where
  pub terms : ledger.terms ≡ core.terms
  pub made : ledger.made ≡ core.made
  pub generation : ledger.generation ≡ core.generation
  pub present : Keeps ledger.generation 0 ledger.amounts core.present
  pub slots : Slotted ledger.generation ledger.amounts core.slots.index core.slots.amounts.items

-- a new core: with some terms that fit, at some moment
abbrev pub Opens : BudgetCore → Type 0
Opens core = (ttl : ℕ) × (min_per_sec : ℕ) × (fraction : Fraction) × (moment : ℕ) × Fits ttl min_per_sec fraction
    × StandsFor core (initial (terms_of ttl min_per_sec fraction) moment)

-- If the old core stands for a ledger, the new one stands for the changed ledger.
abbrev pub Changes : (Ledger → Ledger) → BudgetCore → BudgetCore → Type 0
Changes change old new = (ledger : Ledger) → StandsFor old ledger → StandsFor new (change ledger)

-- how many slots a core has written since it was made
abbrev pub writes : BudgetCore → ℕ
writes core = core.slots.writes.count

-- the sum of the reserve, the slots and the present amount, which saturates at 128 bits (`w128`)
abbrev pub kept_balance : BudgetCore → ℤ
kept_balance core = saturate_signed w128 (kept_sum (pos core.terms.reserve) core.slots.index core.slots.amounts.items 10 +ℤ core.present)

-- Whatever the gaps between its steps, what a core keeps is the sum of the machine's amounts that count, if that is exact.
abbrev pub SumsKept : Type 0
SumsKept = (old new : BudgetCore) (served : List (BudgetStep × BudgetReply)) (plain : Ledger) → Serves (StepsAs StandsFor Steps) old served new
    → StandsFor old plain → (next : Ledger) × Serves Steps plain served next × (IsExact next → kept_balance new ≡ balance next)
