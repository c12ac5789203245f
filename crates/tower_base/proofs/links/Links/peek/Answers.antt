use Rattle.std.proofs.Common.{sym, ap, ◌∙◌}
use Rattle.slab.specs.Slab.{get}
use Rattle.tower_base.proofs.CellsLemmas.{value_at_key}
use Rattle.tower_base.proofs.links.Links.peek.Goals as goal

pub returns : goal.returns
returns g c = c.peek.ensures ∙ sym (value_at_key c.self.inside.cells.slab c.args.key) ∙ ap (λ v. get v.entries c.args.key) c.self.view_is
