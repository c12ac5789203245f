use Rattle.std.proofs.Common.{◌≡◌, ◌<◌, ◌≤◌, ◌+◌, All, vec_len}
use Rattle.tower_limit.specs.Concurrency.{IsOf}
use Rattle.tower_limit.specs.declared.limit.concurrency.line_core.LineReply.{LineReply}
use Rattle.tower_limit.specs.declared.limit.concurrency.line_core.LineStep.TheVariants.{Release}
use Rattle.tower_latch.specs.CoreTable.{places}
use Rattle.tower_limit.proofs.limit.concurrency.semaphore.Semaphore.release_all.Given as goal

abbrev pub invariant-loop-permit : goal.invariant-loop-permit
invariant-loop-permit g l = record {
  its : g.L.Latch.its l.fn.self.latch l.token;
  counts : places l.token + vec_len l.permits ≡ l.count;
  within : places l.token ≤ g.L.Latch.terms l.fn.self.latch;
  each : All (IsOf g.L.Latch l.fn.self) l.permits.items;
}

abbrev pub decreases-loop-permit : goal.decreases-loop-permit
decreases-loop-permit g l = vec_len l.permits

abbrev pub invariant-loop : goal.invariant-loop
invariant-loop g l = record {
  its : g.L.Latch.its l.fn.self.latch l.token;
  rest : places l.token + l.counter ≡ l.count;
  released : 0 < l.counter → (reply : LineReply) × g.L.Latch.gave l.fn.self.latch Release reply;
}
