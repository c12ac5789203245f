use Rattle.tower.specs.Waits.{Each}
use Rattle.tower.proofs.util.waiter.Waiter.block_on_each.Given as goal

abbrev pub invariant-loop-request : goal.invariant-loop-request
invariant-loop-request g l = record {
  can_next : (goal.iterator-loop-request g).can_next l.request-iterator;
  is_finite : (goal.iterator-loop-request g).is_finite l.request-iterator;
  sound : g.S.Service.sound l.service;
  callable : (goal.F-IsAlwaysCallable g) l.each;
  told : Each g.S.Service g.S.Future.Steps.stepped (goal.F-step g) l.yielded l.fn.service l.fn.each l.service l.each;
}
