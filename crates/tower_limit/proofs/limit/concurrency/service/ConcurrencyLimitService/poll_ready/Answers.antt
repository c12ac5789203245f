use Rattle.std.proofs.Common.{Ok, refl}
use Rattle.futures.specs.declared.task.Poll.TheVariants.{Ready}
use Rattle.tower_limit.proofs.limit.concurrency.service.ConcurrencyLimitService.poll_ready.Goals as goal

pub returns-in-Some-clause-polled : goal.returns-in-Some-clause-polled
returns-in-Some-clause-polled g c = rw (← c.self.view_is) (record {
  got = Ready (Ok c.in-Some._held);
  gets = rw c.in-Some.is (refl, refl);
  goes = (c.in-Some.is, (c.poll_ready.result, c.poll_ready.ensures.polled, c.outward.ensures));
})
