-- The history of a budget is a run of its machine.
use Rattle.std.proofs.Common.{◌≡◌, take, subst}
use Rattle.std.specs.Prelude.{pos, int_le}
use Rattle.tower_latch.specs.HistoryLemmas.{serves_at, plain_run}
use Rattle.tower_retry.specs.Budget.{Steps, advanced, balance, initial}
use Rattle.tower_retry.specs.BudgetCore.{StandsFor, Opens}
use Rattle.tower_retry.specs.BudgetHistory.{AnsweredBySums}
use Rattle.tower_retry.specs.BudgetTermsLemmas.{serves_terms}
use Rattle.tower_retry.specs.declared.retry.budget.steps.BudgetStep.TheVariants.{Withdraw}
use Rattle.tower_retry.specs.declared.retry.budget.steps.BudgetReply.TheVariants.{Allowed}
use Rattle.tower_retry.specs.declared.retry.budget.steps.Terms.{Terms}

pub answered_by_sums : AnsweredBySums
answered_by_sums terms made budget opening history held is legal place moment allowed at =
    let run = plain_run Opens StandsFor Steps budget (initial terms made) opening history held is legal in
    let here = serves_at Steps (initial terms made) run.0 history place (Withdraw moment) (Allowed allowed) run.1 at in
    let past = here.0 in
    let same : (advanced past moment).terms ≡ terms = serves_terms (initial terms made) past (take place history) here.2 in
    (past, here.2, λ small. subst (λ (t : Terms). allowed ≡ int_le (pos t.withdrawal) (balance (advanced past moment))) same (here.3.made small))
