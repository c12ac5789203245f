use Rattle.std.proofs.Common.{rules, ◌≡◌, ◌∙◌, ◌||◌, sym, ap, refl, subst, Some, None}
use Rattle.tower_pool.specs.ReadyCache.{Apart, is_pending, cancel}
use Rattle.tower_pool.specs.Pending.{names_one}
use Rattle.tower_pool.proofs.PendingPlaces.{pending_all, items_all, stands_marked}
use Rattle.tower_pool.proofs.ready_cache.pending.Pending.evict.Goals as goal
use Rattle.tower_pool.proofs.ready_cache.pending.Pending.evict.Goals.{in-Some-Some, in_default, in_default-2}

pub invariant_of-self : goal.invariant_of-self
invariant_of-self g c =
    stands_marked g.K.PartialEq.eq g.met.K.Eq.laws c.self.inside.places.entries c.self.inside.entries c.self.inside.last c.self.invariant c.args.key.now None refl
    c.swap_remove.new.self.entries c.swap_remove.ensures.updates.0 c.cancel.new.last c.cancel.ensures.marked

pub returns-clause-found : goal.returns-clause-found
returns-clause-found g c =
    let eq = g.K.PartialEq.eq in
    (λ j. (told ∙ ap names_one c.swap_remove.ensures.value) j || c.cancel.ensures.found j)
    ∙ sym (pending_all eq g.met.K.Eq.laws c.self.inside.places.entries c.self.inside.entries c.self.inside.last c.self.invariant c.args.key.now) ∙ ap (λ v. is_pending eq c.args.key.now v.items) c.self.view_is
  where
    told : c.match-matches.matches ≡ names_one c.swap_remove.result
    told =
        elim c.match-matches.branch [
          | in-Some-Some w ↦ let is : c.swap_remove.result ≡ Some (Some w.in-Some-Some.field-0-0) = search rules in w.matches-is ∙ sym (ap names_one is)
          | in_default w ↦ let is : c.swap_remove.result ≡ Some None = search rules in w.matches-is ∙ sym (ap names_one is)
          | in_default-2 w ↦ let is : c.swap_remove.result ≡ None = search rules in w.matches-is ∙ sym (ap names_one is)
        ]

pub returns-clause-items : goal.returns-clause-items
returns-clause-items g c =
    let eq = g.K.PartialEq.eq in
    let apart = subst (λ v. Apart eq v.items) (sym c.self.view_is) c.requires.apart in
    items_all eq g.met.K.Eq.laws c.self.inside.places.entries c.self.inside.entries c.self.inside.last c.self.invariant c.args.key.now None refl
    c.swap_remove.new.self.entries c.swap_remove.ensures.updates.0 c.cancel.new.last c.cancel.ensures.marked apart ∙ ap (λ v. cancel eq c.args.key.now v.items) c.self.view_is
