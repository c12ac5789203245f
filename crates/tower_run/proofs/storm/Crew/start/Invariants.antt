use Rattle.std.proofs.Common.{◌≡◌, vec_len}
use Rattle.tower_run.proofs.storm.Crew.start.Given as goal

abbrev pub invariant-loop-thread : goal.invariant-loop-thread
invariant-loop-thread g l = (vec_len l.self.handles ≡ l.thread) × (l.self.storm ≡ l.fn.self.storm) × (l.thread-end ≡ l.fn.self.storm.threads)
