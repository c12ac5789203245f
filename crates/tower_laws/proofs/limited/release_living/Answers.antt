use Rattle.std.proofs.Common.{arith}
use Rattle.tower_laws.proofs.LimitedRuns.{held_more, kept_rest, living_none, living_taken}
use Rattle.tower_laws.proofs.limited.release_living.Goals as goal

pub loop-slot-preserved-in-Some-into_living : goal.loop-slot-preserved-in-Some-into_living
loop-slot-preserved-in-Some-into_living g c =
    let l = g.L.Latch in
    let inside = g.S.Limited.inside in
    let semaphore = c.args.semaphore.now in
    let slots = c.loop-slot.slots.items in
    let rest = c.pop.new.self.items in
    let slot = c.in-Some.slot in
    let is = c.in-Some.ensures.items in
    let got = c.into_living.result in
    let taken = c.into_living.ensures in
    let response = c.in-Some-into_living.response in
    let some = c.in-Some-into_living.is in
    let fewer = living_taken l inside semaphore slots rest slot is got taken response some in
    record {
      counts = omega (arith, c.loop-slot.invariant.counts, fewer, c.push_reserved.ensures.len);
      room = omega (arith, c.loop-slot.invariant.room, c.in-Some.ensures.len, c.push_reserved.ensures.len, c.push_reserved.ensures.capacity);
      kept = kept_rest l inside semaphore slots rest slot is got taken c.loop-slot.invariant.kept;
      held = held_more l inside semaphore slots rest slot is got taken response c.loop-slot.responses.items c.push_reserved.new.self.items some
          c.push_reserved.ensures.items c.loop-slot.invariant.kept c.loop-slot.invariant.held;
    }

pub loop-slot-preserved : goal.loop-slot-preserved
loop-slot-preserved g c =
    let l = g.L.Latch in
    let inside = g.S.Limited.inside in
    let semaphore = c.args.semaphore.now in
    let slots = c.loop-slot.slots.items in
    let rest = c.pop.new.self.items in
    let slot = c.in-Some.slot in
    let is = c.in-Some.ensures.items in
    let got = c.into_living.result in
    let taken = c.into_living.ensures in
    let fewer = living_none l inside semaphore slots rest slot is got taken c.in_default-into_living.is in
    record {
      counts = omega (arith, c.loop-slot.invariant.counts, fewer);
      room = omega (arith, c.loop-slot.invariant.room, c.in-Some.ensures.len);
      kept = kept_rest l inside semaphore slots rest slot is got taken c.loop-slot.invariant.kept;
      held = c.loop-slot.invariant.held;
    }
