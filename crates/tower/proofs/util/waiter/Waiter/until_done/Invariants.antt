use Rattle.tower.proofs.util.waiter.Waiter.until_done.Given as goal

abbrev pub invariant-loop : goal.invariant-loop
invariant-loop g l = record {
  can_next : (goal.iterator-loop g).can_next l.iterator';
  is_finite : (goal.iterator-loop g).is_finite l.iterator';
  can_poll : g.F.Future.can_poll l.future;
  gives : (x : _) → g.F.Future.gives l.future x → g.F.Future.gives l.fn.future x;
}
