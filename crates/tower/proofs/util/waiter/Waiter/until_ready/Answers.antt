use Rattle.std.proofs.Common.{rules}
use Rattle.tower.proofs.WaitsLemmas.{pended_start, pended_more, readied}
use Rattle.tower.proofs.util.waiter.Waiter.until_ready.Goals as goal

pub loop-init : goal.loop-init
loop-init g c = record {
  can_next = tt;
  is_finite = tt;
  sound = c.requires;
  pended = pended_start _ _;
}

pub returns-in-Ready-clause-ready : goal.returns-in-Ready-clause-ready
returns-in-Ready-clause-ready g c =
    let ready = readied g.S.Service.ready g.S.Service.polled g.met.S.Service.readies _ _ _ c.poll_ready.ensures.polled in
    search rules

pub loop-preserved : goal.loop-preserved
loop-preserved g c = record {
  can_next = tt;
  is_finite = tt;
  sound = c.poll_ready.ensures.sound;
  pended = pended_more _ _ _ _ c.loop.invariant.pended (search rules);
}
