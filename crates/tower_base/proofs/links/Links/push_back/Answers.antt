use Rattle.std.proofs.Common.{◌≡◌, ◌+◌, ◌∷◌, ◌++◌, [], Some, sym, ap, ◌∙◌, arith}
use Rattle.slab.specs.Slab.{slab_len}
use Rattle.tower_base.specs.Cells.{values_of}
use Rattle.tower_base.proofs.CellsLemmas.{Updates-values, len_of_values}
use Rattle.tower_base.proofs.EndsLemmas.{pushed_all, pushed_fits, Updates-along}
use Rattle.tower_base.proofs.links.Links.push_back.Goals as goal

pub prove-unreachable-requires : goal.prove-unreachable-requires
prove-unreachable-requires g c =
    let fits = pushed_fits c.self.inside.cells.slab c.insert-key.new.self.slab c.self.inside.ends c.insert-key.result c.args.value c.self.invariant c.insert-key.ensures.was_vacant c.insert-key.ensures.updates c.insert-key.ensures.capacity c.insert-key.ensures.key_in_range in
    omega (arith, fits, c.capacity.ensures, c.insert-key.ensures.capacity, c.if-prove.true)

pub arrive-requires : goal.arrive-requires
arrive-requires g c = omega (arith, c.if-prove.false, c.capacity.type_inv)

pub invariant_of-self : goal.invariant_of-self
invariant_of-self g c = (pushed_all c.self.inside.cells.slab c.insert-key.new.self.slab c.arrive.new.cells.slab c.self.inside.ends c.arrive.new.ends c.insert-key.result c.args.value c.self.invariant c.insert-key.ensures.was_vacant c.insert-key.ensures.updates c.insert-key.ensures.capacity c.insert-key.ensures.key_in_range c.arrive.ensures.slab c.arrive.ensures.ends).sound

pub returns-clause-order : goal.returns-clause-order
returns-clause-order g c = (pushed_all c.self.inside.cells.slab c.insert-key.new.self.slab c.arrive.new.cells.slab c.self.inside.ends c.arrive.new.ends c.insert-key.result c.args.value c.self.invariant c.insert-key.ensures.was_vacant c.insert-key.ensures.updates c.insert-key.ensures.capacity c.insert-key.ensures.key_in_range c.arrive.ensures.slab c.arrive.ensures.ends).order ∙ ap (λ v. v.order ++ c.insert-key.result ∷ []) c.self.view_is

pub returns-clause-entries : goal.returns-clause-entries
returns-clause-entries g c =
    let values : values_of c.arrive.new.cells.slab ≡ values_of c.insert-key.new.self.slab = (pushed_all c.self.inside.cells.slab c.insert-key.new.self.slab c.arrive.new.cells.slab c.self.inside.ends c.arrive.new.ends c.insert-key.result c.args.value c.self.invariant c.insert-key.ensures.was_vacant c.insert-key.ensures.updates c.insert-key.ensures.capacity c.insert-key.ensures.key_in_range c.arrive.ensures.slab c.arrive.ensures.ends).values in
    Updates-along (values_of c.self.inside.cells.slab) c.args.self.now.entries (values_of c.insert-key.new.self.slab) (values_of c.arrive.new.cells.slab) c.insert-key.result (Some c.args.value)
    (ap (λ v. v.entries) c.self.view_is) (sym values) (Updates-values c.self.inside.cells.slab c.insert-key.new.self.slab c.insert-key.result _ c.insert-key.ensures.updates)

pub returns-clause-len : goal.returns-clause-len
returns-clause-len g c =
    let values : values_of c.arrive.new.cells.slab ≡ values_of c.insert-key.new.self.slab = (pushed_all c.self.inside.cells.slab c.insert-key.new.self.slab c.arrive.new.cells.slab c.self.inside.ends c.arrive.new.ends c.insert-key.result c.args.value c.self.invariant c.insert-key.ensures.was_vacant c.insert-key.ensures.updates c.insert-key.ensures.capacity c.insert-key.ensures.key_in_range c.arrive.ensures.slab c.arrive.ensures.ends).values in
    ap slab_len values ∙ len_of_values c.insert-key.new.self.slab ∙ c.insert-key.ensures.len ∙ ap (λ n. n + 1) (sym (len_of_values c.self.inside.cells.slab) ∙ ap (λ v. slab_len v.entries) c.self.view_is)

pub returns-clause-capacity : goal.returns-clause-capacity
returns-clause-capacity g c =
    ap (λ v. v.capacity) (pushed_all c.self.inside.cells.slab c.insert-key.new.self.slab c.arrive.new.cells.slab c.self.inside.ends c.arrive.new.ends c.insert-key.result c.args.value c.self.invariant c.insert-key.ensures.was_vacant c.insert-key.ensures.updates c.insert-key.ensures.capacity c.insert-key.ensures.key_in_range c.arrive.ensures.slab c.arrive.ensures.ends).values ∙ c.insert-key.ensures.capacity ∙ ap (λ v. v.entries.capacity) c.self.view_is
