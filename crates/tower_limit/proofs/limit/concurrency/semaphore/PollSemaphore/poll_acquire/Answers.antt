use Rattle.std.proofs.Common.{rules, ◌≡◌, ℕ, Option, None, Some, inr}
use Rattle.tower_limit.specs.Concurrency.{step_of}
use Rattle.tower_limit.proofs.Replies.{unasked, asks_unpaid}
use Rattle.tower_limit.proofs.limit.concurrency.semaphore.PollSemaphore.poll_acquire.Goals as goal
use Rattle.tower_limit.proofs.limit.concurrency.semaphore.PollSemaphore.poll_acquire.Goals.{in-None, in-Some}

pub unreachable-requires : goal.unreachable-requires
unreachable-requires g c =
    let asked : (key : Option ℕ) × (c.match-self.step ≡ step_of key) = elim c.match-self.branch [ in-None w ↦ (None, w.step-is) | in-Some w ↦ (Some _, w.step-is) ] in
    let came = g.met.L.Latch.honest _ _ _ c.wait-reply.ensures.gave in
    unasked _ _ (came.0, came.1, came.3) asked c.in-Left.is

pub wait-reply-requires-clause-unpaid : goal.wait-reply-requires-clause-unpaid
wait-reply-requires-clause-unpaid g c = λ reply.
    let asked : (key : Option ℕ) × (c.match-self.step ≡ step_of key) = elim c.match-self.branch [ in-None w ↦ (None, w.step-is) | in-Some w ↦ (Some _, w.step-is) ] in
    asks_unpaid _ reply asked

pub returns-in-Waiting-clause-acquired : goal.returns-in-Waiting-clause-acquired
returns-in-Waiting-clause-acquired g c =
    rw (← c.self.view_is) (inr (record {
      share = c.in-Ok.latch;
      shared = search rules;
      shares = search rules;
      reply = c.wait-reply.result.0;
      requested = elim c.match-self.branch [
        | in-None w ↦ search rules
        | in-Some w ↦ search rules
      ];
      replies = search rules;
      same = search rules;
    }))
