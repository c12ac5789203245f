use Rattle.futures.specs.Task.{Keeps}
use Rattle.example_http.proofs.raw_peer.RawPeerFuture.poll.Given as goal

abbrev pub invariant-loop : goal.invariant-loop
invariant-loop g l = Keeps l.fn.cx l.cx
