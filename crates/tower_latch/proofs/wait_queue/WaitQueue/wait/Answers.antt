use Rattle.std.proofs.Common.{◌∷◌, [], ap, arith, length, length-append}
use Rattle.slab.specs.Slab.{get, slab_len}
use Rattle.tower_latch.proofs.WaitQueues.{Kept, enters, kept_apart, kept_count, kept_grown, kept_of, kept_present, kept_pushed, stays}
use Rattle.tower_latch.proofs.wait_queue.WaitQueue.wait.Goals as goal

pub invariant_of-self-2 : goal.invariant_of-self-2
invariant_of-self-2 c =
    let old = c.args.self.now in
    let mid = c.reserve.new.self in
    let new = c.push_back.new.self in
    let grown : Kept old.granted mid = kept_grown old.granted old.waiters mid (kept_of old) c.reserve.ensures.order (λ key. ap (λ e. get e key) c.reserve.ensures.rest_kept) in
    let k : Kept old.granted new = kept_pushed old.granted mid new grown c.push_back.result c.push_back.ensures.was_vacant c.push_back.ensures.entries c.push_back.ensures.order in
    record {
      apart = kept_apart old.granted new k;
      present = kept_present old.granted new k;
      count = kept_count old.granted new k;
      places = omega (arith, c.push_back.ensures.len, ap slab_len c.reserve.ensures.rest_kept, old.places, ap length c.push_back.ensures.order, length-append mid.order (c.push_back.result ∷ []), ap length c.reserve.ensures.order);
    }

pub returns-clause-follows : goal.returns-clause-follows
returns-clause-follows c = λ plain s.
    let grown = stays c.args.self.now.granted c.args.self.now.waiters plain s c.reserve.new.self c.reserve.ensures.order (λ key. ap (λ e. get e key) c.reserve.ensures.rest_kept) in
    enters _ _ plain grown c.push_back.new.self c.push_back.result c.push_back.ensures.was_vacant c.push_back.ensures.entries c.push_back.ensures.order
