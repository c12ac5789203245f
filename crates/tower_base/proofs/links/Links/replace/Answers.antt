use Rattle.std.proofs.Common.{sym, ap, ◌∙◌}
use Rattle.slab.specs.Slab.{get, slab_len}
use Rattle.tower_base.proofs.EndsLemmas.{replaced, has_entry}
use Rattle.tower_base.proofs.links.Links.replace.Goals as goal

pub replace-requires : goal.replace-requires
replace-requires g c = has_entry c.self.inside.cells.slab c.args.key (rw (ap (λ v. get v.entries c.args.key) c.self.view_is) c.requires)

pub invariant_of-self : goal.invariant_of-self
invariant_of-self g c =
    (replaced c.self.inside.cells.slab c.replace.new.self.slab c.self.inside.ends c.args.key c.args.value c.replace.result (has_entry c.self.inside.cells.slab c.args.key (rw (ap (λ v. get v.entries c.args.key) c.self.view_is) c.requires)) c.self.invariant c.replace.ensures.value c.replace.ensures.slab).sound

pub returns-clause-value : goal.returns-clause-value
returns-clause-value g c =
    sym (ap (λ v. get v.entries c.args.key) c.self.view_is) ∙ (replaced c.self.inside.cells.slab c.replace.new.self.slab c.self.inside.ends c.args.key c.args.value c.replace.result (has_entry c.self.inside.cells.slab c.args.key (rw (ap (λ v. get v.entries c.args.key) c.self.view_is) c.requires)) c.self.invariant c.replace.ensures.value c.replace.ensures.slab).value_was

pub returns-clause-order : goal.returns-clause-order
returns-clause-order g c =
    (replaced c.self.inside.cells.slab c.replace.new.self.slab c.self.inside.ends c.args.key c.args.value c.replace.result (has_entry c.self.inside.cells.slab c.args.key (rw (ap (λ v. get v.entries c.args.key) c.self.view_is) c.requires)) c.self.invariant c.replace.ensures.value c.replace.ensures.slab).order ∙ ap (λ v. v.order) c.self.view_is

pub returns-clause-entries : goal.returns-clause-entries
returns-clause-entries g c =
    rw (sym (ap (λ v. v.entries) c.self.view_is)) (replaced c.self.inside.cells.slab c.replace.new.self.slab c.self.inside.ends c.args.key c.args.value c.replace.result (has_entry c.self.inside.cells.slab c.args.key (rw (ap (λ v. get v.entries c.args.key) c.self.view_is) c.requires)) c.self.invariant c.replace.ensures.value c.replace.ensures.slab).updates

pub returns-clause-len : goal.returns-clause-len
returns-clause-len g c =
    (replaced c.self.inside.cells.slab c.replace.new.self.slab c.self.inside.ends c.args.key c.args.value c.replace.result (has_entry c.self.inside.cells.slab c.args.key (rw (ap (λ v. get v.entries c.args.key) c.self.view_is) c.requires)) c.self.invariant c.replace.ensures.value c.replace.ensures.slab).len ∙ ap (λ v. slab_len v.entries) c.self.view_is

pub returns-clause-capacity : goal.returns-clause-capacity
returns-clause-capacity g c =
    (replaced c.self.inside.cells.slab c.replace.new.self.slab c.self.inside.ends c.args.key c.args.value c.replace.result (has_entry c.self.inside.cells.slab c.args.key (rw (ap (λ v. get v.entries c.args.key) c.self.view_is) c.requires)) c.self.invariant c.replace.ensures.value c.replace.ensures.slab).capacity ∙ ap (λ v. v.entries.capacity) c.self.view_is
