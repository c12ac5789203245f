use Rattle.std.proofs.Common.{rules, ◌≡◌, ◌∙◌, ◌++◌, false, sym, ap, refl, None}
use Rattle.tower_pool.specs.ReadyCache.{is_pending}
use Rattle.tower_pool.specs.Pending.{last_of, names_one}
use Rattle.std.specs.Map.{lookup}
use Rattle.tower_pool.proofs.PendingLemmas.{left_false, right_false}
use Rattle.tower_pool.proofs.PendingPlaces.{pending_all, items_same, stands_marked, unmarked}
use Rattle.tower_pool.proofs.ready_cache.pending.Pending.let_go.Goals as goal

pub invariant_of-self : goal.invariant_of-self
invariant_of-self g c =
    let eq = g.K.PartialEq.eq in
    let k = c.args.key.now in
    let es = c.self.inside.places.entries in
    let is : is_pending eq k c.args.self.now.items ≡ false = search rules in
    let none = sym (pending_all eq g.met.K.Eq.laws es c.self.inside.entries c.self.inside.last c.self.invariant k) ∙ ap (λ v. is_pending eq k v.items) c.self.view_is ∙ is in
    stands_marked eq g.met.K.Eq.laws es c.self.inside.entries c.self.inside.last c.self.invariant k None refl c.swap_remove.new.self.entries c.swap_remove.ensures.updates.0 c.self.inside.last
    (unmarked eq g.met.K.Eq.laws es c.self.inside.entries c.self.inside.last c.self.invariant k (right_false (names_one (lookup (eq k) es)) (is_pending eq k (last_of c.self.inside.last)) none))

pub returns-then-not-is_pending-clause-items : goal.returns-then-not-is_pending-clause-items
returns-then-not-is_pending-clause-items g c =
    let eq = g.K.PartialEq.eq in
    let k = c.args.key.now in
    let es = c.self.inside.places.entries in
    let is : is_pending eq k c.args.self.now.items ≡ false = search rules in
    let none = sym (pending_all eq g.met.K.Eq.laws es c.self.inside.entries c.self.inside.last c.self.invariant k) ∙ ap (λ v. is_pending eq k v.items) c.self.view_is ∙ is in
    ap (λ ps. ps ++ last_of c.self.inside.last) (items_same eq g.met.K.Eq.laws es c.self.inside.entries c.self.invariant.placed k None refl
    c.swap_remove.new.self.entries c.swap_remove.ensures.updates.0 (left_false (names_one (lookup (eq k) es)) (is_pending eq k (last_of c.self.inside.last)) none)) ∙ ap (λ v. v.items) c.self.view_is
