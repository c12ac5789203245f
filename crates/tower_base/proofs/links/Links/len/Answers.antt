use Rattle.std.proofs.Common.{ap, ◌∙◌, length}
use Rattle.tower_base.proofs.EndsLemmas.{sound_len}
use Rattle.tower_base.proofs.links.Links.len.Goals as goal

pub returns : goal.returns
returns g c = sound_len c.self.inside.cells.slab c.self.inside.ends c.self.invariant ∙ ap (λ v. length v.order) c.self.view_is
