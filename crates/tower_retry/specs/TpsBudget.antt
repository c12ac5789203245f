-- The machine of a `TpsBudget`: its steps at its latch, which is a share of a core that makes the steps of Budget.antt. `gave latch step reply` says
-- that this step had this reply in some run of such a core with the latch's terms.
use Rattle.std.specs.Prelude.{◌≡◌, Bool, Result, Ok}
use Rattle.std.specs.declared.alloc.AllocError.{AllocError}
use Rattle.tower_base.specs.declared.service.Clock.{Ghosts as ClockOf}
use Rattle.tower_retry.specs.declared.retry.budget.steps.BudgetStep.{BudgetStep}
use Rattle.tower_retry.specs.declared.retry.budget.steps.BudgetStep.TheVariants.{Deposit, Withdraw}
use Rattle.tower_retry.specs.declared.retry.budget.steps.BudgetReply.{BudgetReply}
use Rattle.tower_retry.specs.declared.retry.budget.steps.BudgetReply.TheVariants.{Done, Allowed}

-- a `TpsBudget`
pub record TpsBudgetView (L C : Type 0) : Type 0 where
  pub latch : L
  pub clock : C

module _ {L C : Type 0} (gave : L → BudgetStep → BudgetReply → Type 0) (c : ClockOf C) where
  -- a deposit, for a success: the clock is read once, and one step is made at that moment
  pub record Deposited (old new : TpsBudgetView L C) : Type 0 where
    pub read : c.read old.clock new.clock
    pub gave_done : gave old.latch (Deposit (c.reading new.clock)) Done
    pub same : new.latch ≡ old.latch

  -- a withdrawal, for a retry: one reading and one step, whose reply says whether the retry is allowed
  pub record Withdrew (old : TpsBudgetView L C) (allowed : Bool) (new : TpsBudgetView L C) : Type 0 where
    pub read : c.read old.clock new.clock
    pub gave_answer : gave old.latch (Withdraw (c.reading new.clock)) (Allowed allowed)
    pub same : new.latch ≡ old.latch

-- A clone has shares of the latch and of the clock. A reply that its latch returns is one that the first latch returns.
pub record IsClone {L C : Type 0} (gave : L → BudgetStep → BudgetReply → Type 0) (may_share : L → Result L AllocError → Type 0) (c : ClockOf C)
    (old new : TpsBudgetView L C) : Type 0 where
  pub shared : may_share old.latch (Ok new.latch)
  pub latch : (s : BudgetStep) (r : BudgetReply) → gave new.latch s r → gave old.latch s r
  pub clock : c.shared old.clock new.clock
