use Rattle.std.proofs.Common.{rules, ◌≡◌, ◌∙◌, ◌++◌, ◌+◌, ◌<◌, sym, ap, length, subst, Option, Some, None, inr, true, false, true≢false, refl, cond, ℕ}
use Rattle.std.specs.Map.{lookup}
use Rattle.std.specs.Result.{is_ok}
use Rattle.tower_pool.specs.ReadyCache.{Apart, cancel}
use Rattle.tower_pool.specs.Pending.{Stands, last_of}
use Rattle.tower_pool.proofs.PendingPlaces.{fits_all, items_all, items_room, put_of, room_missed, stands_marked, stands_room, when_none, when_put, when_refused}
use Rattle.tower_pool.proofs.ready_cache.pending.Pending.make_room.Goals as goal

abbrev free : Option ℕ
free = None

pub invariant_of-self : goal.invariant_of-self
invariant_of-self g c =
    stands_room g.K.PartialEq.eq g.met.K.Eq.laws c.self.inside.places.entries c.self.inside.entries c.self.inside.last c.self.invariant c.reserve.new.self c.reserve.ensures.order (ap (λ s. s.slots) c.reserve.ensures.rest_kept)

pub invariant_of-self-in_err-ok-2 : goal.invariant_of-self-in_err-ok-2
invariant_of-self-in_err-ok-2 g c =
    let room = stands_room g.K.PartialEq.eq g.met.K.Eq.laws c.self.inside.places.entries c.self.inside.entries c.self.inside.last c.self.invariant c.reserve.new.self c.reserve.ensures.order (ap (λ s. s.slots) c.reserve.ensures.rest_kept) in
    let refused : is_ok c.insert.result ≡ false = search rules in
    let same = when_refused c.insert.result _ refused c.insert.ensures.err in
    subst (λ es. Stands g.K.PartialEq.eq es c.reserve.new.self c.self.inside.last) (sym same) room

pub invariant_of-self-2 : goal.invariant_of-self-2
invariant_of-self-2 g c =
    let eq = g.K.PartialEq.eq in
    let room = stands_room eq g.met.K.Eq.laws c.self.inside.places.entries c.self.inside.entries c.self.inside.last c.self.invariant c.reserve.new.self c.reserve.ensures.order (ap (λ s. s.slots) c.reserve.ensures.rest_kept) in
    let copy : c.in_ok-copy.copy ≡ c.args.key.now = search rules in
    let done : is_ok c.insert.result ≡ true = search rules in
    let now : (q : _) → lookup (eq q) c.insert.new.self.entries ≡ cond (eq c.args.key.now q) (Some free) (lookup (eq q) c.self.inside.places.entries) = λ q. when_put c.insert.result _ done (put_of eq c.self.inside.places c.insert.new.self c.in_ok-copy.copy (Some None) c.insert.result c.insert.ensures.updates) q
    ∙ (λ j. cond (eq (copy j) q) (Some None) (lookup (eq q) c.self.inside.places.entries)) in
    stands_marked eq g.met.K.Eq.laws c.self.inside.places.entries c.reserve.new.self c.self.inside.last room c.args.key.now (Some None) refl c.insert.new.self.entries now c.cancel.new.last c.cancel.ensures.marked

pub returns-clause-items : goal.returns-clause-items
returns-clause-items g c =
    let eq = g.K.PartialEq.eq in
    let order = c.reserve.ensures.order in
    let slots = ap (λ s. s.slots) c.reserve.ensures.rest_kept in
    let room = stands_room eq g.met.K.Eq.laws c.self.inside.places.entries c.self.inside.entries c.self.inside.last c.self.invariant c.reserve.new.self order slots in
    let copy : c.in_ok-copy.copy ≡ c.args.key.now = search rules in
    let done : is_ok c.insert.result ≡ true = search rules in
    let now : (q : _) → lookup (eq q) c.insert.new.self.entries ≡ cond (eq c.args.key.now q) (Some free) (lookup (eq q) c.self.inside.places.entries) = λ q. when_put c.insert.result _ done (put_of eq c.self.inside.places c.insert.new.self c.in_ok-copy.copy (Some None) c.insert.result c.insert.ensures.updates) q
    ∙ (λ j. cond (eq (copy j) q) (Some None) (lookup (eq q) c.self.inside.places.entries)) in
    let same = (λ j. items_room eq g.met.K.Eq.laws c.self.inside.places.entries c.self.inside.entries c.self.invariant.placed c.reserve.new.self order slots j ++ last_of c.self.inside.last) ∙ ap (λ v. v.items) c.self.view_is in
    items_all eq g.met.K.Eq.laws c.self.inside.places.entries c.reserve.new.self c.self.inside.last room c.args.key.now (Some None) refl c.insert.new.self.entries now c.cancel.new.last c.cancel.ensures.marked (subst (Apart eq) (sym same) c.requires.apart)
    ∙ ap (cancel eq c.args.key.now) same

pub returns-clause-fits : goal.returns-clause-fits
returns-clause-fits g c =
    let small : length c.args.self.now.items + c.args.more < 18446744073709551616 = search rules in
    let ok : is_ok c.reserve.result ≡ true = search rules in
    fits_all g.K.PartialEq.eq g.met.K.Eq.laws c.self.inside.places.entries c.self.inside.entries c.self.inside.last c.self.invariant c.reserve.new.self c.reserve.ensures.order (ap (λ s. s.slots) c.reserve.ensures.rest_kept)
    c.args.self.now.items c.args.more (ap (λ v. v.items) c.self.view_is) small (when_put c.reserve.result _ ok c.reserve.ensures.room)

pub returns-in_err-ok-clause-excused : goal.returns-in_err-ok-clause-excused
returns-in_err-ok-clause-excused g c =
    let refused : is_ok c.reserve.result ≡ false = search rules in
    when_none c.from_residual-in_err-ok.result (inr (inr (
    room_missed g.K.PartialEq.eq g.met.K.Eq.laws c.self.inside.places.entries c.self.inside.entries c.self.inside.last c.self.invariant c.args.self.now.items c.args.more c.args.self.now.room
    (ap (λ v. v.items) c.self.view_is) (ap (λ v. v.room) c.self.view_is) (λ fits. true≢false (sym (c.reserve.ensures.succeeds fits) ∙ refused))
    )))
