use Rattle.std.proofs.Common.{rules}
use Rattle.tower_pool.proofs.BalanceLemmas.{fewer, promotes_on}
use Rattle.tower_pool.proofs.StirsLemmas.{quiet_then}
use Rattle.tower_pool.proofs.balance.p2c.choose.promote.Goals as goal

pub loop-smaller-in-Ready-Err-Failed : goal.loop-smaller-in-Ready-Err-Failed
loop-smaller-in-Ready-Err-Failed g c =
    fewer g.K.PartialEq.eq g.S.Service c.loop.services.lists c.poll_pending.new.self.lists c.in-Ready-Err-Failed.field-0-0-0 c.in-Ready-Err-Failed.field-0-0-1
    (rw c.in-Ready-Err-Failed.field-0-0-is at (rw c.in-Ready-Err-Failed.field-0-is at c.in-Ready-Err-Failed.ensures.polled))

pub loop-preserved-in-Ready-Err-Failed : goal.loop-preserved-in-Ready-Err-Failed
loop-preserved-in-Ready-Err-Failed g c = record {
  goes = λ answer new h. c.loop.invariant.goes answer new
      (promotes_on g.K.PartialEq.eq g.S.Service c.loop.services.lists c.poll_pending.new.self.lists c.in-Ready-Err-Failed.field-0-0-0 c.in-Ready-Err-Failed.field-0-0-1
      (rw c.in-Ready-Err-Failed.field-0-0-is at (rw c.in-Ready-Err-Failed.field-0-is at c.in-Ready-Err-Failed.ensures.polled)) answer new h);
  sound = search rules;
  quiet = quiet_then (λ h. h) (λ h. h) c.loop.invariant.quiet c.poll_pending.ensures.quiet;
  kept = search rules;
}
