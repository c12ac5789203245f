use Rattle.std.proofs.Common.{List, replicate, refl, sym}
use Rattle.std.proofs.lemmas.List.{length-replicate}
use Rattle.tower_limit.specs.CountCore.{StandsFor}
use Rattle.tower_limit.specs.Holders.{Holder}
use Rattle.tower_limit.specs.declared.load.pending_requests.count_core.CountCore.{CountCore}
use Rattle.tower_limit.proofs.load.pending_requests.count_core.CountCoreCore.step.Goals as goal

-- a core stands for as many holders as it counts
some_holders : (core : CountCore) → (holders : List Holder) × StandsFor core holders
some_holders core = (replicate core.count Holder.holder, length-replicate core.count Holder.holder)

pub returns-in-Take-clause-steps : goal.returns-in-Take-clause-steps
returns-in-Take-clause-steps c = rw c.in-Take.is (some_holders c.args.self.now, c.take.ensures)

pub returns-in-Give-clause-steps : goal.returns-in-Give-clause-steps
returns-in-Give-clause-steps c = rw c.in-Give.is (some_holders c.args.self.now, c.give.ensures)

pub returns-in-Load-clause-steps : goal.returns-in-Load-clause-steps
returns-in-Load-clause-steps c = rw c.in-Load.is (some_holders c.args.self.now, λ plain stands. (plain, (sym stands, refl), stands))
