use Rattle.tower_base.proofs.Runs.{Going}
use Rattle.tower_base.proofs.drive.drive_with_state.Given as goal

abbrev pub invariant-loop-event : goal.invariant-loop-event
invariant-loop-event g l =
    (goal.iterator-loop-event g).can_next l.event-iterator
    × (goal.iterator-loop-event g).is_finite l.event-iterator
    × Going g.S.Service g.S.Future.Steps.stepped (goal.O-step g) g.S.Future.Steps.can_poll (goal.O-IsAlwaysCallable g)
    l.fn.service l.fn.outside l.fn.cx l.cx l.yielded l.entries.items l.driver
