use Rattle.std.proofs.Common.{All, ◌≡◌, ◌<◌, ℕ, List, length}
use Rattle.std.specs.VecDeque.{deque_capacity}
use Rattle.futures.specs.Task.{Keeps}
use Rattle.tower_ware.specs.Steer.{EachPolled, Rested}
use Rattle.tower_ware.proofs.SteerLemmas.{QuietSoFar}
use Rattle.tower_ware.proofs.steer.SteerService.poll_ready.Given as goal

abbrev pub invariant-loop-front : goal.invariant-loop-front
invariant-loop-front g l = record {
  picker : l.self-inside.picker ≡ l.fn.self.picker;
  asked : (a : _) (rest : List ℕ) (ts : List _) → EachPolled g.S.Service.polled l.self-inside.listed.items l.self-inside.services.items a rest ts
      → EachPolled g.S.Service.polled l.fn.self.listed l.fn.self.services a rest ts;
  chooses : g.F.Picker.sound l.self-inside.picker;
  each : All g.S.Service.sound l.self-inside.services.items;
  some : 0 < length l.self-inside.services.items;
  inside : All (λ i. i < length l.self-inside.services.items) l.self-inside.listed.items;
  rested : Rested g.S.Service.ready l.self-inside.services.items l.self-inside.listed.items;
  room : deque_capacity l.self-inside.listed ≡ l.fn.self.room;
  fits : 0 < l.fn.self.room;
  quiet : QuietSoFar g.S.Service.polled g.S.Service.stirs l.fn.self.listed l.fn.self.services l.fn.cx
      l.self-inside.listed.items l.self-inside.services.items l.cx;
  kept : Keeps l.fn.cx l.cx;
}

abbrev pub decreases-loop-front : goal.decreases-loop-front
decreases-loop-front g l = length l.self-inside.listed.items
