use Rattle.tower.specs.Waits.{Pended}
use Rattle.tower.proofs.util.waiter.Waiter.until_ready.Given as goal

abbrev pub invariant-loop : goal.invariant-loop
invariant-loop g l = record {
  can_next : (goal.iterator-loop g).can_next l.iterator';
  is_finite : (goal.iterator-loop g).is_finite l.iterator';
  sound : g.S.Service.sound l.service;
  pended : Pended g.S.Service.polled l.fn.service l.service;
}
