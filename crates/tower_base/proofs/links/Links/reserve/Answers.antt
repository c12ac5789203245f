use Rattle.std.proofs.Common.{sym, ap, ◌∙◌, ◌≡◌}
use Rattle.slab.specs.Slab.{slab_len}
use Rattle.tower_base.proofs.CellsLemmas.{len_of_values}
use Rattle.tower_base.proofs.EndsLemmas.{reserved}
use Rattle.tower_base.proofs.links.Links.reserve.Goals as goal

pub invariant_of-self : goal.invariant_of-self
invariant_of-self g c = (reserved c.self.inside.cells.slab c.reserve.new.self.slab c.self.inside.ends c.self.invariant c.reserve.ensures.rest_kept c.reserve.ensures.capacity).sound

pub returns-clause-succeeds : goal.returns-clause-succeeds
returns-clause-succeeds g c = λ h.
    let len : slab_len c.args.self.now.entries ≡ slab_len c.self.inside.cells.slab = sym (ap (λ v. slab_len v.entries) c.self.view_is) ∙ len_of_values c.self.inside.cells.slab in
    let room : c.args.self.now.entries.capacity ≡ c.self.inside.cells.slab.capacity = sym (ap (λ v. v.entries.capacity) c.self.view_is) in
    c.reserve.ensures.succeeds (rw (← len, ← room) h)

pub returns-clause-order : goal.returns-clause-order
returns-clause-order g c =
    (reserved c.self.inside.cells.slab c.reserve.new.self.slab c.self.inside.ends c.self.invariant c.reserve.ensures.rest_kept c.reserve.ensures.capacity).order ∙ ap (λ v. v.order) c.self.view_is
