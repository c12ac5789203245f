use Rattle.std.proofs.Common.{refl, sym, ap, ◌∙◌, arith}
use Rattle.slab.specs.Slab.{get}
use Rattle.tower_base.specs.Cells.{values_of}
use Rattle.tower_base.specs.Ends.{order_of}
use Rattle.tower_base.proofs.CellsLemmas.{value_at_key}
use Rattle.tower_base.proofs.links.Links.get.Goals as goal

pub returns : goal.returns
returns g c =
    let h = c.get.follows.holds-at-none in (
      (
        refl,
        λ _. tt,
        (
          ap (λ s. order_of s c.self.inside.ends) h.0 ∙ ap (λ v. v.order) c.self.view_is,
          ap values_of h.0 ∙ ap (λ v. v.entries) c.self.view_is,
          omega (arith, h.1, ap (λ v. v.touches) c.self.view_is),
        ),
      ),
      record {
        rests = tt;
        value = c.get.ensures.value ∙ sym (value_at_key c.self.inside.cells.slab c.args.key) ∙ ap (λ v. get v.entries c.args.key) c.self.view_is;
      },
    )
