use Rattle.std.proofs.Common.{Ok, Err, inl, refl}
use Rattle.tower_pool.specs.Balance.{view_of}
use Rattle.tower_pool.proofs.StirsLemmas.{quiet_by, quiet_then}
use Rattle.tower_pool.proofs.balance.p2c.service.Balance.serve.Goals as goal

pub returns-in-Err-clause-served : goal.returns-in-Err-clause-served
returns-in-Err-clause-served g c = (Err c.in-Err.error, record (view_of c.args.self.now) { services = c.promote.new.services.lists }, (c.in-Err.ensures.promoted, refl), (refl, refl))

pub returns-in-Ok-clause-served : goal.returns-in-Ok-clause-served
returns-in-Ok-clause-served g c = (Ok c.in-Ok.field-0, record (view_of c.args.self.now) { services = c.promote.new.services.lists }, (c.in-Ok.ensures.promoted, refl), c.settle.ensures.chosen)

pub returns-in-Err-clause-quiet : goal.returns-in-Err-clause-quiet
returns-in-Err-clause-quiet g c = quiet_by inl c.promote.ensures.quiet

pub returns-in-Ok-clause-quiet : goal.returns-in-Ok-clause-quiet
returns-in-Ok-clause-quiet g c = quiet_then inl (λ h. h) c.promote.ensures.quiet c.settle.ensures.quiet
