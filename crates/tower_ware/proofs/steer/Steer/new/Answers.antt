use Rattle.std.proofs.Common.{rules, ◌≡◌, ◌<◌, length, arith}
use Rattle.tower_ware.specs.SteerLemmas.{all_upto, rested_new}
use Rattle.tower_ware.proofs.steer.Steer.new.Goals as goal

pub returns-clause-sound : goal.returns-clause-sound
returns-clause-sound g c =
    let all : c.len.result ≡ length c.args.services.items = search rules in
    λ chooses each. record {
      chooses = chooses;
      each = each;
      rested = rw (c.in_ok-listed.ensures.0, all) (rested_new _ _);
    }

pub invariant_of-result : goal.invariant_of-result
invariant_of-result g c =
    let all : c.len.result ≡ length c.args.services.items = search rules in
    let some : 0 < length c.args.services.items = c.requires in
    let room = c.in_ok-listed.ensures.1 in
    record {
      some = some;
      inside = rw (c.in_ok-listed.ensures.0, all) (all_upto (length c.args.services.items) (length c.args.services.items) (omega arith));
      fits = omega arith;
    }
