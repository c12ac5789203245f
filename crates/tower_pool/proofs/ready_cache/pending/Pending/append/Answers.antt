use Rattle.std.proofs.Common.{rules, Bool, ◌≡◌, ◌∙◌, ◌++◌, is_some, refl, sym, ap, Some, None, true, false}
use Rattle.std.proofs.lemmas.List.{append-nil}
use Rattle.std.specs.Map.{lookup}
use Rattle.std.specs.Option.{option_copied_mut}
use Rattle.tower_pool.specs.ReadyCache.{is_pending}
use Rattle.tower_pool.specs.Pending.{entry_of, last_of, names_one, stored}
use Rattle.tower_pool.proofs.PendingPlaces.{has_room, items_with_cancelled, items_with_named, none_stored, placed_cancelled, placed_named, small_more, stands_with, still_known, stored_last}
use Rattle.tower_pool.proofs.ready_cache.pending.Pending.append.Goals as goal

pub push_back-requires : goal.push_back-requires
push_back-requires g c =
    let e : g.row.K.Denot × g.row.S.Denot × Bool = (c.in-Some-default-default-true.key, c.in-Some-default-default-true.service, c.in-Some-default-default-true.field-0-2) in
    let some : c.self.inside.last ≡ Some e = search rules in
    has_room g.K.PartialEq.eq g.met.K.Eq.laws c.self.inside.places.entries c.self.inside.entries c.self.inside.last c.self.invariant e some _ _ (ap (λ v. v.items) c.self.view_is) (ap (λ v. v.room) c.self.view_is) c.requires.room

pub invariant_of-self : goal.invariant_of-self
invariant_of-self g c =
    let eq = g.K.PartialEq.eq in
    let es = c.self.inside.places.entries in
    let links = c.self.inside.entries in
    let e : g.row.K.Denot × g.row.S.Denot × Bool = (c.in-Some-default-default-true.key, c.in-Some-default-default-true.service, c.in-Some-default-default-true.field-0-2) in
    let some : c.self.inside.last ≡ Some e = search rules in
    let gone : e.2 ≡ true = search rules in
    let same = stored_last eq g.met.K.Eq.laws es links c.self.inside.last c.self.invariant e some _ _ (ap (λ v. v.items) c.self.view_is) (ap (λ v. v.room) c.self.view_is) c.requires.room _
    (items_with_cancelled eq g.met.K.Eq.laws es links c.self.invariant.placed c.push_back.new.self c.push_back.result (e.0, e.1) c.push_back.ensures.was_vacant c.push_back.ensures.order c.push_back.ensures.entries (entry_of e) gone refl) in
    stands_with eq g.met.K.Eq.laws es c.push_back.new.self
    (placed_cancelled eq g.met.K.Eq.laws es links c.self.invariant.placed c.push_back.new.self c.push_back.result (e.0, e.1) c.push_back.ensures.was_vacant c.push_back.ensures.order c.push_back.ensures.entries c.push_back.ensures.len)
    (small_more eq g.met.K.Eq.laws es links c.self.inside.last c.self.invariant e some _ _ (ap (λ v. v.items) c.self.view_is) (ap (λ v. v.room) c.self.view_is) c.requires.room _ c.push_back.result c.push_back.ensures.order)
    c.replace.new.self c.args.last c.replace.ensures.after (λ alive. (λ j. is_some (lookup (eq c.args.last.0) (c.self.view_is j).places)) ∙ c.requires.known alive) (λ alive. ap (is_pending eq c.args.last.0) same ∙ c.requires.alone alive)

pub returns-in-Some-default-default-true-clause-items : goal.returns-in-Some-default-default-true-clause-items
returns-in-Some-default-default-true-clause-items g c =
    let eq = g.K.PartialEq.eq in
    let es = c.self.inside.places.entries in
    let links = c.self.inside.entries in
    let e : g.row.K.Denot × g.row.S.Denot × Bool = (c.in-Some-default-default-true.key, c.in-Some-default-default-true.service, c.in-Some-default-default-true.field-0-2) in
    let some : c.self.inside.last ≡ Some e = search rules in
    let gone : e.2 ≡ true = search rules in
    let same = stored_last eq g.met.K.Eq.laws es links c.self.inside.last c.self.invariant e some _ _ (ap (λ v. v.items) c.self.view_is) (ap (λ v. v.room) c.self.view_is) c.requires.room _
    (items_with_cancelled eq g.met.K.Eq.laws es links c.self.invariant.placed c.push_back.new.self c.push_back.result (e.0, e.1) c.push_back.ensures.was_vacant c.push_back.ensures.order c.push_back.ensures.entries (entry_of e) gone refl) in
    (λ j. same j ++ last_of (c.replace.ensures.after j))

pub push_back-requires-in-Some-default-default-false : goal.push_back-requires-in-Some-default-default-false
push_back-requires-in-Some-default-default-false g c =
    let e : g.row.K.Denot × g.row.S.Denot × Bool = (c.in-Some-default-default-false.key, c.in-Some-default-default-false.service, c.in-Some-default-default-false.field-0-2) in
    let some : c.self.inside.last ≡ Some e = search rules in
    has_room g.K.PartialEq.eq g.met.K.Eq.laws c.self.inside.places.entries c.self.inside.entries c.self.inside.last c.self.invariant e some _ _ (ap (λ v. v.items) c.self.view_is) (ap (λ v. v.room) c.self.view_is) c.requires.room

pub invariant_of-self-in-Some-default-default-false : goal.invariant_of-self-in-Some-default-default-false
invariant_of-self-in-Some-default-default-false g c =
    let eq = g.K.PartialEq.eq in
    let es = c.self.inside.places.entries in
    let links = c.self.inside.entries in
    let push = c.push_back-in-Some-default-default-false in
    let e : g.row.K.Denot × g.row.S.Denot × Bool = (c.in-Some-default-default-false.key, c.in-Some-default-default-false.service, c.in-Some-default-default-false.field-0-2) in
    let some : c.self.inside.last ≡ Some e = search rules in
    let alive : e.2 ≡ false = search rules in
    let there : is_some (lookup (eq e.0) es) ≡ true = ap is_some (sym c.get_mut.ensures.value ∙ ap option_copied_mut c.unwrap-place.ensures) in
    let none : names_one (lookup (eq e.0) es) ≡ false = none_stored eq es links c.self.inside.last c.self.invariant e some alive in
    let now = ((c.get_mut.follows.holds (Some push.result)).3 there).0 in
    let same = stored_last eq g.met.K.Eq.laws es links c.self.inside.last c.self.invariant e some _ _ (ap (λ v. v.items) c.self.view_is) (ap (λ v. v.room) c.self.view_is) c.requires.room _
    (items_with_named eq g.met.K.Eq.laws es links c.self.invariant.placed push.new.self push.result (e.0, e.1) push.ensures.was_vacant push.ensures.order push.ensures.entries _ none now (entry_of e) alive refl) in
    stands_with eq g.met.K.Eq.laws _ push.new.self
    (placed_named eq g.met.K.Eq.laws es links c.self.invariant.placed push.new.self push.result (e.0, e.1) push.ensures.was_vacant push.ensures.order push.ensures.entries _ none now push.ensures.len)
    (small_more eq g.met.K.Eq.laws es links c.self.inside.last c.self.invariant e some _ _ (ap (λ v. v.items) c.self.view_is) (ap (λ v. v.room) c.self.view_is) c.requires.room _ push.result push.ensures.order)
    c.replace.new.self c.args.last c.replace.ensures.after
    (λ t. ap is_some (now c.args.last.0) ∙ still_known (eq e.0 c.args.last.0) push.result (lookup (eq c.args.last.0) es) ((λ j. is_some (lookup (eq c.args.last.0) (c.self.view_is j).places)) ∙ c.requires.known t))
    (λ t. ap (is_pending eq c.args.last.0) same ∙ c.requires.alone t)

pub returns-in-Some-default-default-false-clause-items : goal.returns-in-Some-default-default-false-clause-items
returns-in-Some-default-default-false-clause-items g c =
    let eq = g.K.PartialEq.eq in
    let es = c.self.inside.places.entries in
    let links = c.self.inside.entries in
    let push = c.push_back-in-Some-default-default-false in
    let e : g.row.K.Denot × g.row.S.Denot × Bool = (c.in-Some-default-default-false.key, c.in-Some-default-default-false.service, c.in-Some-default-default-false.field-0-2) in
    let some : c.self.inside.last ≡ Some e = search rules in
    let alive : e.2 ≡ false = search rules in
    let there : is_some (lookup (eq e.0) es) ≡ true = ap is_some (sym c.get_mut.ensures.value ∙ ap option_copied_mut c.unwrap-place.ensures) in
    let none : names_one (lookup (eq e.0) es) ≡ false = none_stored eq es links c.self.inside.last c.self.invariant e some alive in
    let now = ((c.get_mut.follows.holds (Some push.result)).3 there).0 in
    let same = stored_last eq g.met.K.Eq.laws es links c.self.inside.last c.self.invariant e some _ _ (ap (λ v. v.items) c.self.view_is) (ap (λ v. v.room) c.self.view_is) c.requires.room _
    (items_with_named eq g.met.K.Eq.laws es links c.self.invariant.placed push.new.self push.result (e.0, e.1) push.ensures.was_vacant push.ensures.order push.ensures.entries _ none now (entry_of e) alive refl) in
    (λ j. same j ++ last_of (c.replace.ensures.after j))

pub invariant_of-self-in-None : goal.invariant_of-self-in-None
invariant_of-self-in-None g c =
    let eq = g.K.PartialEq.eq in
    let es = c.self.inside.places.entries in
    let links = c.self.inside.entries in
    let none : c.self.inside.last ≡ None = search rules in
    let same : stored eq es links ≡ c.args.self.now.items = sym (append-nil (stored eq es links)) ∙ (λ j. stored eq es links ++ last_of (sym none j)) ∙ ap (λ v. v.items) c.self.view_is in
    stands_with eq g.met.K.Eq.laws es links c.self.invariant.placed c.self.invariant.small c.replace.new.self c.args.last c.replace.ensures.after
    (λ alive. (λ j. is_some (lookup (eq c.args.last.0) (c.self.view_is j).places)) ∙ c.requires.known alive) (λ alive. ap (is_pending eq c.args.last.0) same ∙ c.requires.alone alive)
