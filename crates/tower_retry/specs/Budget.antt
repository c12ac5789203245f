-- The machine of a budget of retries, over a plain list of amounts. A success makes a `Deposit`, and a retry a `Withdraw`, whose reply allows it
-- or not. Moments and lengths are in nanoseconds. Time is cut into generations, each a tenth of the budget's time `ttl`, rounded down. An
-- amount counts in its own generation and in the next ten: for ten generations at least, and less than eleven.
use Rattle.std.specs.Prelude.{◌≡◌, ◌<◌, ◌≤◌, ℕ, ◌+◌, ◌-◌, ◌*◌, ◌/◌, ◌^◌, max, nat_le, nat_eq, if◌then◌else◌, ◌&&◌, Bool, List, [], ◌∷◌, ℤ, pos, neg_ℤ, nat_abs, ◌+ℤ◌, int_le}
use Rattle.tower_base.specs.declared.service.Fraction.{Fraction}
use Rattle.tower_retry.specs.declared.retry.budget.steps.BudgetStep.{BudgetStep}
use Rattle.tower_retry.specs.declared.retry.budget.steps.BudgetStep.TheVariants.{Deposit, Withdraw}
use Rattle.tower_retry.specs.declared.retry.budget.steps.BudgetReply.{BudgetReply}
use Rattle.tower_retry.specs.declared.retry.budget.steps.BudgetReply.TheVariants.{Done, Allowed}
use Rattle.tower_retry.specs.declared.retry.budget.steps.Terms.{Terms}

-- An amount that was added in one generation, or taken if it is below 0.
pub record Amount : Type 0 where
  pub generation : ℕ
  pub amount : ℤ

-- A budget's value: its terms (the amounts of a deposit and of a withdrawal, the reserve, and the length `window` of a generation), the moment at
-- which it was made, the present generation, counted from 0, and every amount so far, the newest first. A withdrawal adds a negative amount.
pub record Ledger : Type 0 where
  pub terms : Terms
  pub made : ℕ
  pub generation : ℕ
  pub amounts : List Amount

-- What a constructor accepts, as the Rust's budget does: `ttl` is 1 to 60 seconds; `min_per_sec`, the retries that the reserve covers for each whole second of
-- `ttl`, is below 2147483647, the largest `i32`; and `fraction`, the number of retries that a success pays for, is at most 1000.
pub record Fits (ttl min_per_sec : ℕ) (fraction : Fraction) : Type 0 where
  pub long : 1000000000 ≤ ttl
  pub short : ttl ≤ 60000000000
  pub reserve : min_per_sec < 2147483647
  pub part : fraction.numerator ≤ 1000 * fraction.divisor

-- The amounts of a deposit and of a withdrawal, if `requests` successes pay for `retries` retries. Amounts are whole numbers. So up to one retry for
-- each success a deposit is 1 and a withdrawal is as many deposits as a retry costs; above that a deposit is 1000 and a withdrawal a part of
-- it. Both are rounded down. If successes pay for none, a deposit is 0, and withdrawals of 1 are covered by the reserve alone.
abbrev pub deposit_of : ℕ → ℕ → ℕ
deposit_of retries requests = if nat_eq retries 0 then 0 else (if nat_le retries requests then 1 else 1000)

abbrev pub withdrawal_of : ℕ → ℕ → ℕ
withdrawal_of retries requests = if nat_eq retries 0 then 1 else (if nat_le retries requests then requests / retries else 1000 * requests / retries)

-- The reserve covers `min_per_sec` withdrawals for each whole second of `ttl`.
abbrev pub terms_of : ℕ → ℕ → Fraction → Terms
terms_of ttl min_per_sec fraction =
    let withdrawal = withdrawal_of fraction.numerator fraction.divisor in
    record {
      deposit = deposit_of fraction.numerator fraction.divisor;
      withdrawal = withdrawal;
      reserve = min_per_sec * (ttl / 1000000000) * withdrawal;
      window = ttl / 10;
    }

-- a new budget
abbrev pub initial : Terms → ℕ → Ledger
initial terms made = record { terms = terms; made = made; generation = 0; amounts = [] }

-- How many windows have passed from the moment of making to this moment: none if the clock went back.
abbrev pub generation_at : ℕ → ℕ → ℕ → ℕ
generation_at made window moment = (moment - made) / window

-- The generation becomes that of the moment, but never an earlier one.
abbrev pub advanced : Ledger → ℕ → Ledger
advanced ledger moment = record ledger { generation = max ledger.generation (generation_at ledger.made ledger.terms.window moment) }

-- An amount is added, in the present generation.
abbrev pub added : Ledger → ℤ → Ledger
added ledger amount = record ledger { amounts = record { generation = ledger.generation; amount = amount } ∷ ledger.amounts }

-- An amount counts in its own generation and in the next ten.
abbrev pub counts : ℕ → Amount → Bool
counts generation amount = nat_le amount.generation generation && nat_le generation (amount.generation + 10)

-- the sum of the amounts that count, and the sum of their sizes
abbrev pub total : ℕ → List Amount → ℤ
total generation [] = pos 0
total generation (amount ∷ rest) = (if counts generation amount then amount.amount else pos 0) +ℤ total generation rest

abbrev pub size : ℕ → List Amount → ℕ
size generation [] = 0
size generation (amount ∷ rest) = (if counts generation amount then nat_abs amount.amount else 0) + size generation rest

-- what may be withdrawn: the reserve, which never expires, and the amounts that count
abbrev pub balance : Ledger → ℤ
balance ledger = pos ledger.terms.reserve +ℤ total ledger.generation ledger.amounts

-- What counts is so small that the code's sums, of 128 bits, are exact.
abbrev pub IsExact : Ledger → Type 0
IsExact ledger = ledger.terms.reserve + size ledger.generation ledger.amounts < 2 ^ 127

-- `made`: a withdrawal is allowed exactly if the balance reaches its amount, which is then taken. (If sums aren't exact, it may be allowed or not.)
pub record Withdraws (old : Ledger) (allowed : Bool) (new : Ledger) : Type 0 where
  pub made : IsExact old → allowed ≡ int_le (pos old.terms.withdrawal) (balance old)
  pub after : new ≡ (if allowed then added old (neg_ℤ (pos old.terms.withdrawal)) else old)

-- One step with its reply. It first advances to the generation of its moment.
abbrev pub Steps : Ledger → BudgetStep → BudgetReply → Ledger → Type 0
Steps old (Deposit moment) Done new = new ≡ added (advanced old moment) (pos old.terms.deposit)
Steps old (Withdraw moment) (Allowed allowed) new = Withdraws (advanced old moment) allowed new
-- No other reply is returned.
Steps old _ _ new = ⊥
