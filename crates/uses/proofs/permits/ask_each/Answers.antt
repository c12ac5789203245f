use Rattle.uses.proofs.PermitsLemmas.{held}
use Rattle.uses.proofs.permits.ask_each.Goals as goal

pub returns : goal.returns
returns g c =
    let ran = c.loops.ensures _ _ _ _ _ c.in_ok-block_on_each.ensures.told.1 in
    (ran, held g.L.Latch c.law.ensures.runs _ _ c.requires.new ran)
