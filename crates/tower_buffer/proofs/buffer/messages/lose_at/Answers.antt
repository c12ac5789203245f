use Rattle.std.proofs.Common.{◌∙◌, ap}
use Rattle.tower_base.specs.Order.{without}
use Rattle.tower_latch.proofs.KeysLemmas.{has_without_same, without_lacks}
use Rattle.tower_buffer.proofs.buffer.messages.lose_at.Goals as goal

pub returns-in-Some-Cancelled-clause-order : goal.returns-in-Some-Cancelled-clause-order
returns-in-Some-Cancelled-clause-order g c =
    let keys = c.args.links.now.order in
    c.remove.ensures.order ∙ ap (λ l. without l c.args.id) (c.in-Some-Cancelled.ensures.order ∙ c.unlink.ensures.order)
    ∙ without_lacks (without keys c.args.id) c.args.id (has_without_same keys c.args.id)
