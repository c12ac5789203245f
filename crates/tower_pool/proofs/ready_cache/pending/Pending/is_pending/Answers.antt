use Rattle.std.proofs.Common.{rules, ◌≡◌, ◌∙◌, ap, refl, Some, None, false}
use Rattle.std.specs.Map.{lookup}
use Rattle.tower_pool.specs.ReadyCache.{is_pending}
use Rattle.tower_pool.specs.Pending.{last_of}
use Rattle.tower_pool.proofs.PendingPlaces.{pending_named, not_pending}
use Rattle.tower_pool.proofs.ready_cache.pending.Pending.is_pending.Goals as goal

pub returns-in-Some-Some : goal.returns-in-Some-Some
returns-in-Some-Some g c =
    let eq = g.K.PartialEq.eq in
    let is : lookup (eq c.args.key.now) c.self.inside.places.entries ≡ Some (Some c.in-Some-Some.field-0-0) = search rules in
    pending_named eq g.met.K.Eq.laws c.self.inside.places.entries c.self.inside.entries c.self.inside.last c.self.invariant c.args.key.now c.in-Some-Some.field-0-0 is ∙ ap (λ v. is_pending eq c.args.key.now v.items) c.self.view_is

pub returns-in_default-matches : goal.returns-in_default-matches
returns-in_default-matches g c =
    let eq = g.K.PartialEq.eq in
    let is : lookup (eq c.args.key.now) c.self.inside.places.entries ≡ Some None = search rules in
    let no : is_pending eq c.args.key.now (last_of c.self.inside.last) ≡ false = search rules in
    not_pending eq g.met.K.Eq.laws c.self.inside.places.entries c.self.inside.entries c.self.inside.last c.self.invariant c.args.key.now (Some None) is refl no ∙ ap (λ v. is_pending eq c.args.key.now v.items) c.self.view_is

pub returns-in_default-matches-2 : goal.returns-in_default-matches-2
returns-in_default-matches-2 g c =
    let eq = g.K.PartialEq.eq in
    let is : lookup (eq c.args.key.now) c.self.inside.places.entries ≡ None = search rules in
    let no : is_pending eq c.args.key.now (last_of c.self.inside.last) ≡ false = search rules in
    not_pending eq g.met.K.Eq.laws c.self.inside.places.entries c.self.inside.entries c.self.inside.last c.self.invariant c.args.key.now None is refl no ∙ ap (λ v. is_pending eq c.args.key.now v.items) c.self.view_is
