use Rattle.tower_laws.proofs.WakesLemmas.{tickets_named}
use Rattle.tower_laws.proofs.concurrency_limit.wakes.Goals as goal

pub returns : goal.returns
returns c = tickets_named
