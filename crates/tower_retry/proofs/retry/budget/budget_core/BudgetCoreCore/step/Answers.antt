use Rattle.std.proofs.Common.{refl}
use Rattle.tower_retry.proofs.BudgetCoreLemmas.{itself}
use Rattle.tower_retry.proofs.retry.budget.budget_core.BudgetCoreCore.step.Goals as goal

pub returns-in-Deposit-clause-steps : goal.returns-in-Deposit-clause-steps
returns-in-Deposit-clause-steps c = rw c.in-Deposit.is (itself c.args.self.now, λ plain s. (_, refl, c.deposit.ensures.changes plain s))

pub returns-in-Withdraw-clause-steps : goal.returns-in-Withdraw-clause-steps
returns-in-Withdraw-clause-steps c = rw c.in-Withdraw.is (itself c.args.self.now, λ plain s. c.withdraw.ensures.withdraws plain s)
