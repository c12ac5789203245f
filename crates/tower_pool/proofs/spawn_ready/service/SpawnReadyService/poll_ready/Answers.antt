use Rattle.std.proofs.Common.{rules, arith, ◌≡◌, Some, Ok, inl}
use Rattle.futures.specs.declared.task.Poll.TheVariants.{Ready}
use Rattle.tower_base.specs.IterationsLemmas.{iterates_start, iterations_answer}
use Rattle.tower_pool.specs.SpawnReady.{Iteration, view_of}
use Rattle.tower_pool.proofs.SpawnReadyLemmas.{ready_at_once}
use Rattle.tower_pool.proofs.StirsLemmas.{quiet_by, quiet_then}
use Rattle.tower_pool.proofs.spawn_ready.service.SpawnReadyService.poll_ready.Goals as goal

pub returns-in-Some-Ready-Ok-clause-polled : goal.returns-in-Some-Ready-Ok-clause-polled
returns-in-Some-Ready-Ok-clause-polled g c =
    let is : c.poll_service-polled.result ≡ Some (Ready (Ok tt)) = search rules in
    record {
      iterations = iterations_answer (Iteration g.S.Service g.L.Latch g.X.Executor) 0 _ _ _ _ _ (iterates_start _ (view_of c.args.self.now)) (omega arith)
          (ready_at_once g.S.Service g.L.Latch g.X.Executor _ _ tt (rw is at c.poll_service-polled.ensures.begins));
    }

pub returns-in-Some-Ready-Ok-clause-woken : goal.returns-in-Some-Ready-Ok-clause-woken
returns-in-Some-Ready-Ok-clause-woken g c =
    let is : c.poll_service-polled.result ≡ Some (Ready (Ok tt)) = search rules in
    inl (record {
      count = 0;
      last = view_of c.args.self.now;
      went = iterates_start _ (view_of c.args.self.now);
      below = omega arith;
      ends = ready_at_once g.S.Service g.L.Latch g.X.Executor _ _ tt (rw is at c.poll_service-polled.ensures.begins);
    })

pub returns-in-Some-Ready-Ok-clause-quiet : goal.returns-in-Some-Ready-Ok-clause-quiet
returns-in-Some-Ready-Ok-clause-quiet g c = quiet_by (λ h. inl (inl h)) c.poll_service-polled.ensures.quiet

pub returns-clause-quiet : goal.returns-clause-quiet
returns-clause-quiet g c =
    quiet_then (λ h. inl (inl h)) (λ h. h) c.poll_service-polled.ensures.quiet (c.go_on.ensures.quiet _ c.poll_service-polled.ensures.begins)
