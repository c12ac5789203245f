use Rattle.std.proofs.Common.{All, ◌∷◌, [], subst, sym, arith}
use Rattle.std.proofs.lemmas.List.Elements.{All-append, All-cons, All-nil}
use Rattle.tower_laws.proofs.ConcurrencyLimitLemmas.{all_before, all_last, permit_of, some_permit}
use Rattle.tower_laws.specs.ConcurrencyLimit.{Holds}
use Rattle.tower_limit.specs.Concurrency.{IsOf}
use Rattle.tower_laws.proofs.concurrency_limit.release_responses.Goals as goal

pub unreachable-requires : goal.unreachable-requires
unreachable-requires g c =
    let semaphore = c.args.semaphore.now in
    let all = subst (All (Holds g.L.Latch semaphore)) c.in-Some.ensures.items c.loop-response.invariant.held in
    let held = all_last (Holds g.L.Latch semaphore) c.pop.new.self.items c.in-Some.response all in
    some_permit g.L.Latch semaphore c.in-Some.response held c.into_permit.result c.into_permit.ensures c.in_default-into_permit.is

pub loop-response-preserved : goal.loop-response-preserved
loop-response-preserved g c =
    let semaphore = c.args.semaphore.now in
    let all = subst (All (Holds g.L.Latch semaphore)) c.in-Some.ensures.items c.loop-response.invariant.held in
    let held = all_last (Holds g.L.Latch semaphore) c.pop.new.self.items c.in-Some.response all in
    let permit = c.in-Some-into_permit.permit in
    let its = permit_of g.L.Latch semaphore c.in-Some.response held c.into_permit.result permit c.into_permit.ensures c.in-Some-into_permit.is in
    record {
      counts = omega (arith, c.loop-response.invariant.counts, c.in-Some.ensures.len, c.push_reserved.ensures.len);
      room = omega (arith, c.loop-response.invariant.room, c.in-Some.ensures.len, c.push_reserved.ensures.len, c.push_reserved.ensures.capacity);
      held = all_before (Holds g.L.Latch semaphore) c.pop.new.self.items c.in-Some.response all;
      each = subst (All (IsOf g.L.Latch semaphore)) (sym c.push_reserved.ensures.items)
          (All-append (IsOf g.L.Latch semaphore) c.loop-response.permits.items (permit ∷ []) c.loop-response.invariant.each
          (All-cons (IsOf g.L.Latch semaphore) permit [] its (All-nil (IsOf g.L.Latch semaphore))));
    }
