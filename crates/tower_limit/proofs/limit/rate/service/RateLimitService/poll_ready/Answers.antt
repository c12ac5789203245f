use Rattle.std.proofs.Common.{subst, sym}
use Rattle.tower_limit.specs.Rate.{StandsFor}
use Rattle.tower_limit.proofs.limit.rate.service.RateLimitService.poll_ready.Goals as goal

-- The clock was told the moment from which on a poll admits a call.
pub returns-then-not-poll-clause-timed : goal.returns-then-not-poll-clause-timed
returns-then-not-poll-clause-timed g c = λ plain stands shut.
    let inside = subst (λ v. StandsFor v.core plain) (sym c.self.view_is) stands in
    (c.opens.result, c.opens.ensures _ (c.poll.ensures.admission plain inside), c.wake_at.ensures.timed)
