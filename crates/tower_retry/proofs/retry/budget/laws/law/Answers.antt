use Rattle.tower_latch.specs.LatchLemmas.{is_run}
use Rattle.tower_retry.proofs.BudgetBoundLemmas.{retries_bounded, bounded_at_latch, bounded_in_history}
use Rattle.tower_retry.proofs.BudgetCoreLemmas.{sums_kept}
use Rattle.tower_retry.proofs.BudgetHistoryLemmas.{answered_by_sums}
use Rattle.tower_retry.proofs.BudgetTermsRuns.{runs_from_terms}
use Rattle.tower_retry.proofs.BudgetWindowLemmas.{counts_for_ten_windows}
use Rattle.tower_retry.proofs.retry.budget.laws.law.Goals as goal

pub returns-clause-follows : goal.returns-clause-follows
returns-clause-follows c = is_run _ _

pub returns-clause-sums : goal.returns-clause-sums
returns-clause-sums c = sums_kept

pub returns-clause-history : goal.returns-clause-history
returns-clause-history c = answered_by_sums

pub returns-clause-windows : goal.returns-clause-windows
returns-clause-windows c = counts_for_ten_windows

pub returns-clause-terms : goal.returns-clause-terms
returns-clause-terms c = runs_from_terms

pub returns-clause-bounded : goal.returns-clause-bounded
returns-clause-bounded c = retries_bounded

pub returns-clause-latch : goal.returns-clause-latch
returns-clause-latch c = bounded_at_latch

pub returns-clause-log : goal.returns-clause-log
returns-clause-log c = bounded_in_history
