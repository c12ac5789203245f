use Rattle.std.proofs.Common.{rules, ◌≡◌, ◌∙◌, sym, ap, length, arith, if◌then◌else◌}
use Rattle.tower_pool.specs.Pending.{last_of}
use Rattle.tower_pool.proofs.PendingPlaces.{length_all, length_last}
use Rattle.tower_pool.proofs.ready_cache.pending.Pending.len.Goals as goal

pub returns-clause-len : goal.returns-clause-len
returns-clause-len g c =
    let is : c.from.result ≡ (if c.is_some.result then 1 else 0) = search rules in
    let one : c.from.result ≡ length (last_of c.self.inside.last) = is ∙ (λ j. if c.is_some.ensures j then 1 else 0) ∙ sym (length_last g.K.PartialEq.eq c.self.inside.last) in
    omega (arith, c.len.ensures, one, length_all g.K.PartialEq.eq g.met.K.Eq.laws c.self.inside.places.entries c.self.inside.entries c.self.inside.last c.self.invariant, ap (λ v. length v.items) c.self.view_is)
