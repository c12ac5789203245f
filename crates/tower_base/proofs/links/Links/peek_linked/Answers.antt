use Rattle.std.proofs.Common.{ap, ◌∙◌}
use Rattle.tower_base.specs.Order.{has, is_linked}
use Rattle.tower_base.proofs.EndsLemmas.{sound_has}
use Rattle.tower_base.proofs.links.Links.peek_linked.Goals as goal

pub returns : goal.returns
returns g c = c.stands_linked.ensures ∙ ap is_linked c.peek_place.ensures ∙ sound_has c.self.inside.cells.slab c.self.inside.ends c.args.key c.self.invariant ∙ ap (λ v. has v.order c.args.key) c.self.view_is
