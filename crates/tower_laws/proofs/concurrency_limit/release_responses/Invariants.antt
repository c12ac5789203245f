use Rattle.std.proofs.Common.{◌≡◌, ◌≤◌, ◌+◌, All, vec_len}
use Rattle.std.specs.Vec.{vec_capacity}
use Rattle.tower_laws.specs.ConcurrencyLimit.{Holds}
use Rattle.tower_limit.specs.Concurrency.{IsOf}
use Rattle.tower_laws.proofs.concurrency_limit.release_responses.Given as goal

abbrev pub invariant-loop-response : goal.invariant-loop-response
invariant-loop-response g l = record {
  counts : vec_len l.permits + vec_len l.responses ≡ vec_len l.fn.responses;
  room : vec_len l.permits + vec_len l.responses ≤ vec_capacity l.permits;
  held : All (Holds g.L.Latch l.fn.semaphore) l.responses.items;
  each : All (IsOf g.L.Latch l.fn.semaphore) l.permits.items;
}

abbrev pub decreases-loop-response : goal.decreases-loop-response
decreases-loop-response g l = vec_len l.responses
