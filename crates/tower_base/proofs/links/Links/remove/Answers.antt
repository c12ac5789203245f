use Rattle.std.proofs.Common.{◌≡◌, ◌+◌, sym, ap, ◌∙◌, None}
use Rattle.slab.specs.Slab.{get, slab_len}
use Rattle.tower_base.specs.Order.{without, is_linked}
use Rattle.tower_base.specs.Cells.{place_of, value_of, values_of}
use Rattle.tower_base.proofs.CellsLemmas.{value_at_key, Updates-values, len_of_values}
use Rattle.tower_base.proofs.EndsLemmas.{removed_left, sound_not_empty, Updates-along, IfNone-values, OnSome-values}
use Rattle.tower_base.proofs.links.Links.remove.Goals as goal

pub leave-requires : goal.leave-requires
leave-requires g c = λ linked. sound_not_empty c.self.inside.cells.slab c.self.inside.ends c.args.key c.self.invariant (ap is_linked (sym (c.parts-place.ensures.place ∙ ap place_of c.remove.ensures.value)) ∙ linked)

pub invariant_of-self : goal.invariant_of-self
invariant_of-self g c =
    (removed_left c.self.inside.cells.slab c.remove.new.self.slab c.leave.new.cells.slab c.self.inside.ends c.leave.new.ends c.args.key c.parts-place.result.0 c.self.invariant (c.parts-place.ensures.place ∙ ap place_of c.remove.ensures.value) c.remove.ensures.updates c.remove.ensures.capacity c.leave.ensures.slab c.leave.ensures.ends).sound

pub returns-clause-value : goal.returns-clause-value
returns-clause-value g c =
    c.parts-place.ensures.value ∙ ap value_of c.remove.ensures.value ∙ sym (value_at_key c.self.inside.cells.slab c.args.key) ∙ ap (λ v. get v.entries c.args.key) c.self.view_is

pub returns-clause-order : goal.returns-clause-order
returns-clause-order g c =
    (removed_left c.self.inside.cells.slab c.remove.new.self.slab c.leave.new.cells.slab c.self.inside.ends c.leave.new.ends c.args.key c.parts-place.result.0 c.self.invariant (c.parts-place.ensures.place ∙ ap place_of c.remove.ensures.value) c.remove.ensures.updates c.remove.ensures.capacity c.leave.ensures.slab c.leave.ensures.ends).order
    ∙ ap (λ v. without v.order c.args.key) c.self.view_is

pub returns-clause-entries : goal.returns-clause-entries
returns-clause-entries g c =
    let values : values_of c.leave.new.cells.slab ≡ values_of c.remove.new.self.slab = (removed_left c.self.inside.cells.slab c.remove.new.self.slab c.leave.new.cells.slab c.self.inside.ends c.leave.new.ends c.args.key c.parts-place.result.0 c.self.invariant (c.parts-place.ensures.place ∙ ap place_of c.remove.ensures.value) c.remove.ensures.updates c.remove.ensures.capacity c.leave.ensures.slab c.leave.ensures.ends).values in
    Updates-along (values_of c.self.inside.cells.slab) c.args.self.now.entries (values_of c.remove.new.self.slab) (values_of c.leave.new.cells.slab) c.args.key None
    (ap (λ v. v.entries) c.self.view_is) (sym values) (Updates-values c.self.inside.cells.slab c.remove.new.self.slab c.args.key None c.remove.ensures.updates)

pub returns-clause-len : goal.returns-clause-len
returns-clause-len g c =
    let values : values_of c.leave.new.cells.slab ≡ values_of c.remove.new.self.slab = (removed_left c.self.inside.cells.slab c.remove.new.self.slab c.leave.new.cells.slab c.self.inside.ends c.leave.new.ends c.args.key c.parts-place.result.0 c.self.invariant (c.parts-place.ensures.place ∙ ap place_of c.remove.ensures.value) c.remove.ensures.updates c.remove.ensures.capacity c.leave.ensures.slab c.leave.ensures.ends).values in
    OnSome-values c.remove.result c.parts-place.result.1 _ _ c.parts-place.ensures.value
    (λ h. ap (λ n. n + 1) (ap slab_len values ∙ len_of_values c.remove.new.self.slab) ∙ h ∙ sym (len_of_values c.self.inside.cells.slab) ∙ ap (λ v. slab_len v.entries) c.self.view_is)
    c.remove.ensures.len

pub returns-clause-capacity : goal.returns-clause-capacity
returns-clause-capacity g c =
    ap (λ v. v.capacity) (removed_left c.self.inside.cells.slab c.remove.new.self.slab c.leave.new.cells.slab c.self.inside.ends c.leave.new.ends c.args.key c.parts-place.result.0 c.self.invariant (c.parts-place.ensures.place ∙ ap place_of c.remove.ensures.value) c.remove.ensures.updates c.remove.ensures.capacity c.leave.ensures.slab c.leave.ensures.ends).values ∙ c.remove.ensures.capacity ∙ ap (λ v. v.entries.capacity) c.self.view_is

pub returns-clause-absent : goal.returns-clause-absent
returns-clause-absent g c =
    let values : values_of c.leave.new.cells.slab ≡ values_of c.remove.new.self.slab = (removed_left c.self.inside.cells.slab c.remove.new.self.slab c.leave.new.cells.slab c.self.inside.ends c.leave.new.ends c.args.key c.parts-place.result.0 c.self.invariant (c.parts-place.ensures.place ∙ ap place_of c.remove.ensures.value) c.remove.ensures.updates c.remove.ensures.capacity c.leave.ensures.slab c.leave.ensures.ends).values in
    IfNone-values c.remove.result c.parts-place.result.1 _ _ c.parts-place.ensures.value
    (λ h. values ∙ ap values_of h ∙ ap (λ v. v.entries) c.self.view_is)
    c.remove.ensures.absent
