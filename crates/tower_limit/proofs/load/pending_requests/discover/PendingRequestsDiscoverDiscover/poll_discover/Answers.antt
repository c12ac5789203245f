use Rattle.std.proofs.Common.{inr, refl, rules}
use Rattle.tower_limit.specs.Discover.{inserted}
use Rattle.tower_limit.proofs.load.pending_requests.discover.PendingRequestsDiscoverDiscover.poll_discover.Goals as goal

pub returns-in-Ready-Some-Ok-Insert-clause-discovered :
    goal.returns-in-Ready-Some-Ok-Insert-clause-discovered
returns-in-Ready-Some-Ok-Insert-clause-discovered g c =
    let found = c.in-Ready-Some-Ok-Insert in
    rw (← c.self.view_is)
    (inr (record {
      latch = c.into_latch-latch.result;
      first = c.into_latch-latch.ensures;
      inner = inserted found.key found.service;
      found = rw (found.field-0-is, found.field-0-0-is, found.field-0-0-0-is) at found.ensures.discovered;
      answers = rw c.with_latch-service.ensures;
      same = refl;
    }))

pub returns-clause-discovered : goal.returns-clause-discovered
returns-clause-discovered g c =
    rw (← c.self.view_is)
    (inr (record {
      latch = c.in-Ok.spare.latch;
      first = c.in-Ok.spare.first;
      inner = c.poll_discover.result;
      found = c.poll_discover.ensures.discovered;
      answers = search rules;
      same = refl;
    }))
