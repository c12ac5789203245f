use Rattle.std.proofs.Common.{rules, ◌≡◌, ◌∙◌, Some}
use Rattle.std.specs.Map.{lookup}
use Rattle.tower_pool.proofs.PendingPlaces.{set_value_same}
use Rattle.tower_pool.proofs.ready_cache.pending.release.Goals as goal

pub returns-in_default-clause-same : goal.returns-in_default-clause-same
returns-in_default-clause-same g c = λ _.
    let eq = g.K.PartialEq.eq in
    let is : lookup (eq c.args.key.now) c.args.places.now.entries ≡ Some c.in-Some.place.now = search rules in
    (c.get_mut.follows.holds c.in-Some.place.now).0 ∙ set_value_same (eq c.args.key.now) c.args.places.now.entries c.in-Some.place.now is
