use Rattle.std.proofs.Common.{sym, ap, ◌∙◌}
use Rattle.tower_base.specs.Order.{has, without, is_linked}
use Rattle.tower_base.proofs.EndsLemmas.{put_left, sound_has, sound_not_empty}
use Rattle.tower_base.proofs.links.Links.unlink.Goals as goal

pub leave-requires : goal.leave-requires
leave-requires g c = λ linked. sound_not_empty c.self.inside.cells.slab c.self.inside.ends c.args.key c.self.invariant (ap is_linked (sym c.put-place.ensures.place) ∙ linked)

pub invariant_of-self : goal.invariant_of-self
invariant_of-self g c =
    (put_left c.self.inside.cells.slab c.put-place.new.self.slab c.leave.new.cells.slab c.self.inside.ends c.leave.new.ends c.args.key c.put-place.result c.self.invariant c.put-place.ensures.place c.put-place.ensures.slab c.leave.ensures.slab c.leave.ensures.ends).sound

pub returns-clause-linked : goal.returns-clause-linked
returns-clause-linked g c =
    c.leave.ensures.linked ∙ ap is_linked c.put-place.ensures.place ∙ sound_has c.self.inside.cells.slab c.self.inside.ends c.args.key c.self.invariant ∙ ap (λ v. has v.order c.args.key) c.self.view_is

pub returns-clause-order : goal.returns-clause-order
returns-clause-order g c =
    (put_left c.self.inside.cells.slab c.put-place.new.self.slab c.leave.new.cells.slab c.self.inside.ends c.leave.new.ends c.args.key c.put-place.result c.self.invariant c.put-place.ensures.place c.put-place.ensures.slab c.leave.ensures.slab c.leave.ensures.ends).order
    ∙ ap (λ v. without v.order c.args.key) c.self.view_is

pub returns-clause-entries : goal.returns-clause-entries
returns-clause-entries g c =
    (put_left c.self.inside.cells.slab c.put-place.new.self.slab c.leave.new.cells.slab c.self.inside.ends c.leave.new.ends c.args.key c.put-place.result c.self.invariant c.put-place.ensures.place c.put-place.ensures.slab c.leave.ensures.slab c.leave.ensures.ends).values
    ∙ ap (λ v. v.entries) c.self.view_is
