use Rattle.tower_latch.specs.LatchLemmas.{is_run}
use Rattle.tower_limit.proofs.LineHistoryLemmas.{bounded_history}
use Rattle.tower_limit.proofs.LineRuns
use Rattle.tower_limit.proofs.limit.concurrency.laws.law.Goals as goal

pub returns-clause-follows : goal.returns-clause-follows
returns-clause-follows c = is_run _ _

pub returns-clause-bounded : goal.returns-clause-bounded
returns-clause-bounded c = LineRuns.bounded

pub returns-clause-in_order : goal.returns-clause-in_order
returns-clause-in_order c = LineRuns.in_order

pub returns-clause-lasts : goal.returns-clause-lasts
returns-clause-lasts c = LineRuns.lasts

pub returns-clause-counts : goal.returns-clause-counts
returns-clause-counts c = LineRuns.counts

pub returns-clause-history : goal.returns-clause-history
returns-clause-history c = bounded_history
