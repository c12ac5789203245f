use Rattle.std.proofs.Common.{◌≡◌, ◌≤◌, ◌+◌, All, vec_len, vec_capacity}
use Rattle.tower_base.specs.Driver.{state_of}
use Rattle.tower_laws.specs.ConcurrencyLimit.{Holds}
use Rattle.tower_laws.specs.Limited.{AllHold, living}
use Rattle.tower_laws.proofs.limited.release_living.Given as goal

abbrev pub invariant-loop-slot : goal.invariant-loop-slot
invariant-loop-slot g l = record {
  counts : vec_len l.responses + living g.S.Limited.inside l.slots.items ≡ living g.S.Limited.inside (state_of l.fn.driver).futures;
  room : vec_len l.responses + vec_len l.slots ≤ vec_capacity l.responses;
  kept : AllHold g.L.Latch g.S.Limited.inside l.fn.semaphore l.slots.items;
  held : All (Holds g.L.Latch l.fn.semaphore) l.responses.items;
}

abbrev pub decreases-loop-slot : goal.decreases-loop-slot
decreases-loop-slot g l = vec_len l.slots
