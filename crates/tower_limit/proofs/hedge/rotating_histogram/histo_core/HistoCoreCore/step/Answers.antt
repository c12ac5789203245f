use Rattle.tower_limit.proofs.HistoCoreLemmas.{itself}
use Rattle.tower_limit.proofs.hedge.rotating_histogram.histo_core.HistoCoreCore.step.Goals as goal

pub returns-in-Record-clause-steps : goal.returns-in-Record-clause-steps
returns-in-Record-clause-steps c = rw c.in-Record.is (itself c.args.self.now, λ plain s. c.record.ensures plain s)

pub returns-in-Seed-clause-steps : goal.returns-in-Seed-clause-steps
returns-in-Seed-clause-steps c = rw c.in-Seed.is (itself c.args.self.now, λ plain s. c.seed.ensures plain s)

pub returns-in-Points-clause-steps : goal.returns-in-Points-clause-steps
returns-in-Points-clause-steps c = rw c.in-Points.is (itself c.args.self.now, λ plain s. c.points.ensures plain s)

pub returns-in-Quantile-clause-steps : goal.returns-in-Quantile-clause-steps
returns-in-Quantile-clause-steps c = rw c.in-Quantile.is (itself c.args.self.now, λ plain s. c.quantile.ensures plain s)
