use Rattle.std.proofs.Common.{refl, ap, length}
use Rattle.slab.specs.Slab.{get, slab_len}
use Rattle.tower_buffer.proofs.Messages.{holds_as, sorted_as, sorted_of}
use Rattle.tower_buffer.proofs.buffer.messages.Messages.reserve.Goals as goal

pub invariant_of-self : goal.invariant_of-self
invariant_of-self g c =
    let old = c.args.self.now in
    let now = sorted_as old.stored old.links c.reserve.new.self (sorted_of old) c.reserve.ensures.order (λ id. ap (λ e. get e id) c.reserve.ensures.rest_kept) in
    record { differ = now.differ; linked = now.linked; sent = now.sent }

pub returns-clause-follows : goal.returns-clause-follows
returns-clause-follows g c = λ plain h.
    (plain, refl, holds_as c.args.self.now.links c.reserve.new.self plain c.reserve.ensures.order (λ id. ap (λ e. get e id) c.reserve.ensures.rest_kept) h)

pub returns-clause-same : goal.returns-clause-same
returns-clause-same g c = (ap length c.reserve.ensures.order, ap slab_len c.reserve.ensures.rest_kept, refl)
