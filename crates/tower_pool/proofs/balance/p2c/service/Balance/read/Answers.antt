use Rattle.std.proofs.Common.{rules}
use Rattle.tower_limit.specs.Discover.{inserted}
use Rattle.tower_pool.proofs.BalanceLemmas.{inserted_now, inserts_less}
use Rattle.tower_pool.proofs.balance.p2c.service.Balance.read.Goals as goal

pub insert-requires-clause-sound : goal.insert-requires-clause-sound
insert-requires-clause-sound g c = record {
  discover = c.poll_discover.ensures.sound;
  services = c.requires.services;
  change = c.requires.change;
  inserts = inserts_less g.D.Discover.discovered g.S.Service.sound _ _ _ c.poll_discover.ensures.discovered c.requires.inserts;
}

pub insert-requires-clause-inserted : goal.insert-requires-clause-inserted
insert-requires-clause-inserted g c =
    let h : g.D.Discover.discovered c.args.self.now.discover (inserted c.in-Ready-Some-Ok-Insert.key c.in-Ready-Some-Ok-Insert.service) c.poll_discover.new.self = search rules in
    inserted_now g.D.Discover.discovered g.S.Service.sound _ _ _ _ h c.requires.inserts

pub returns-in-Ready-Some-Ok-Remove-clause-sound : goal.returns-in-Ready-Some-Ok-Remove-clause-sound
returns-in-Ready-Some-Ok-Remove-clause-sound g c = record {
  discover = c.poll_discover.ensures.sound;
  services = c.evict.ensures.sound c.requires.services;
  change = c.requires.change;
  inserts = inserts_less g.D.Discover.discovered g.S.Service.sound _ _ _ c.poll_discover.ensures.discovered c.requires.inserts;
}

pub returns-in-Ready-Some-Err-clause-sound : goal.returns-in-Ready-Some-Err-clause-sound
returns-in-Ready-Some-Err-clause-sound g c = record {
  discover = c.poll_discover.ensures.sound;
  services = c.requires.services;
  change = c.requires.change;
  inserts = inserts_less g.D.Discover.discovered g.S.Service.sound _ _ _ c.poll_discover.ensures.discovered c.requires.inserts;
}

pub returns-in-Ready-None-clause-sound : goal.returns-in-Ready-None-clause-sound
returns-in-Ready-None-clause-sound g c = record {
  discover = c.poll_discover.ensures.sound;
  services = c.requires.services;
  change = c.requires.change;
  inserts = inserts_less g.D.Discover.discovered g.S.Service.sound _ _ _ c.poll_discover.ensures.discovered c.requires.inserts;
}

pub returns-in-Pending-clause-sound : goal.returns-in-Pending-clause-sound
returns-in-Pending-clause-sound g c = record {
  discover = c.poll_discover.ensures.sound;
  services = c.requires.services;
  change = c.requires.change;
  inserts = inserts_less g.D.Discover.discovered g.S.Service.sound _ _ _ c.poll_discover.ensures.discovered c.requires.inserts;
}
