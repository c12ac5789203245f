use Rattle.tower_limit.proofs.Lines.{some_plain, follows}
use Rattle.tower_limit.proofs.limit.concurrency.line_core.LineCoreCore.step.Goals as goal

pub returns-in-Join-clause-steps : goal.returns-in-Join-clause-steps
returns-in-Join-clause-steps c = (some_plain c.args.self.now, rw c.in-Join.is (follows _ _ _ _ c.join.ensures.follows))

pub returns-in-Join-clause-touches : goal.returns-in-Join-clause-touches
returns-in-Join-clause-touches c = c.join.ensures.follows.few

pub returns-in-Look-clause-steps : goal.returns-in-Look-clause-steps
returns-in-Look-clause-steps c = (some_plain c.args.self.now, rw c.in-Look.is (follows _ _ _ _ c.look.ensures.follows))

pub returns-in-Look-clause-touches : goal.returns-in-Look-clause-touches
returns-in-Look-clause-touches c = c.look.ensures.follows.few

pub returns-in-Cancel-clause-steps : goal.returns-in-Cancel-clause-steps
returns-in-Cancel-clause-steps c = (some_plain c.args.self.now, rw c.in-Cancel.is (follows _ _ _ _ c.cancel.ensures.follows))

pub returns-in-Cancel-clause-touches : goal.returns-in-Cancel-clause-touches
returns-in-Cancel-clause-touches c = c.cancel.ensures.follows.few

pub returns-in-Release-clause-steps : goal.returns-in-Release-clause-steps
returns-in-Release-clause-steps c = (some_plain c.args.self.now, rw c.in-Release.is (follows _ _ _ _ c.release.ensures.follows))

pub returns-in-Release-clause-touches : goal.returns-in-Release-clause-touches
returns-in-Release-clause-touches c = c.release.ensures.follows.few

pub returns-in-Free-clause-steps : goal.returns-in-Free-clause-steps
returns-in-Free-clause-steps c = (some_plain c.args.self.now, rw c.in-Free.is (follows _ _ _ _ c.free.ensures))
