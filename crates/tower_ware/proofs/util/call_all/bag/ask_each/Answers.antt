use Rattle.std.proofs.Common.{rules, ◌≡◌, ◌<◌, ◌∙◌, arith, length, slice_index_or, sym}
use Rattle.std.proofs.lemmas.Grind.{common_steps}
use Rattle.tower_ware.proofs.BagLemmas.{bag_end, bag_found}
use Rattle.tower_ware.proofs.QueueLemmas.{quiet_polled, some_call}
use Rattle.tower_ware.proofs.util.call_all.bag.ask_each.Goals as goal

pub returns-in-Ready-clause-polled : goal.returns-in-Ready-clause-polled
returns-in-Ready-clause-polled g c =
    let below : c.loop-i.i < length c.loop-i.futures.items = search rules in
    rw c.remove.ensures.by_index.2 (bag_found g.F.Steps c.args.futures.now.items c.loop-i.futures.items c.loop-i.i _ _ below c.index_mut.ensures.value
    c.loop-i.invariant.asked c.in-Ready.answer c.in-Ready.ensures.step)

pub returns-clause-polled : goal.returns-clause-polled
returns-clause-polled g c =
    let end : c.loop-i.i ≡ length c.loop-i.futures.items = search rules in
    bag_end g.F.Steps c.args.futures.now.items c.loop-i.futures.items c.loop-i.i end c.loop-i.invariant.asked

pub returns-in-Ready-clause-quiet : goal.returns-in-Ready-clause-quiet
returns-in-Ready-clause-quiet g c =
    let below : c.loop-i.i < length c.args.futures.now.items = search rules in
    let there : slice_index_or c.args.futures.now.items c.loop-i.i c.index_mut.result.now ≡ c.index_mut.result.now =
    sym (c.loop-i.invariant.todo c.loop-i.i c.index_mut.result.now (omega arith)) ∙ sym c.index_mut.ensures.value in
    quiet_polled c.args.cx.now c.loop-i.cx c.step.new.cx
    (λ h. some_call (λ future. (left : _) × g.F.Steps.stirs future left) _ _ _ below there (c.step.new.self, h))
    c.loop-i.invariant.quiet c.step.ensures.quiet

pub loop-i-preserved : goal.loop-i-preserved
loop-i-preserved g c =
    let below : c.loop-i.i < length c.args.futures.now.items = search rules in
    let there : slice_index_or c.args.futures.now.items c.loop-i.i c.index_mut.result.now ≡ c.index_mut.result.now =
    sym (c.loop-i.invariant.todo c.loop-i.i c.index_mut.result.now (omega arith)) ∙ sym c.index_mut.ensures.value in
    record {
      asked = grind (arith, common_steps);
      count = search rules;
      again = search rules;
      room = search rules;
      armed = search rules;
      size = search rules;
      todo = grind (arith, common_steps);
      quiet = quiet_polled c.args.cx.now c.loop-i.cx c.step.new.cx
          (λ h. some_call (λ future. (left : _) × g.F.Steps.stirs future left) _ _ _ below there (c.step.new.self, h))
          c.loop-i.invariant.quiet c.step.ensures.quiet;
      kept = search rules;
    }
