use Rattle.std.proofs.Common.{◌≡◌, ◌*◌, IfOk, length}
use Rattle.tower_run.proofs.storm.Crew.join.Given as goal

abbrev pub invariant-loop-handle : goal.invariant-loop-handle
invariant-loop-handle g l =
    (goal.iterator-loop-handle g).can_next l.handle-iterator ×
    (goal.iterator-loop-handle g).is_finite l.handle-iterator ×
    IfOk l.all (λ rounds. rounds ≡ length l.yielded * l.fn.self.storm.rounds)
