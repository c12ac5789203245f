use Rattle.std.proofs.Common.{rules, ◌≡◌, ◌<◌, length, arith}
use Rattle.std.proofs.lemmas.List.Elements.{length_all_zip}
use Rattle.tower_ware.specs.SteerLemmas.{all_upto}
use Rattle.tower_ware.proofs.steer.SteerClone.clone.Goals as goal

pub invariant_of-result : goal.invariant_of-result
invariant_of-result g c =
    let all : c.len.result ≡ length c.in_ok-services.services.items = search rules in
    let size : length c.in_ok-services.services.items ≡ length c.self.inside.services.items = search (length_all_zip, rules) in
    let was = c.self.invariant.some in
    let some : 0 < length c.in_ok-services.services.items = omega arith in
    let room = c.in_ok-listed.ensures.1 in
    record {
      some = some;
      inside = rw (c.in_ok-listed.ensures.0, all)
          (all_upto (length c.in_ok-services.services.items) (length c.in_ok-services.services.items) (omega arith));
      fits = omega arith;
    }
