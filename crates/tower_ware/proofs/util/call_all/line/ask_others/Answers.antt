use Rattle.std.proofs.Common.{rules, ◌≡◌, ◌<◌, ◌≤◌, ◌∙◌, length, slice_index_or, sym, arith}
use Rattle.std.proofs.lemmas.Grind.{common_steps}
use Rattle.tower_ware.proofs.OrderedCallsLemmas.{others_asked}
use Rattle.tower_ware.proofs.QueueLemmas.{quiet_polled, some_other}
use Rattle.tower_ware.specs.OrderedCalls.{SlotStirs}
use Rattle.tower_ware.proofs.util.call_all.line.ask_others.Goals as goal

pub returns-clause-polled : goal.returns-clause-polled
returns-clause-polled g c =
    let end : length c.args.slots.now.items ≤ c.loop-i.i = search rules in
    others_asked g.F.Steps _ _ c.loop-i.invariant.size c.loop-i.invariant.front (λ k d behind below. c.loop-i.invariant.done k d behind (omega (arith, end, below)) below)

pub loop-i-preserved : goal.loop-i-preserved
loop-i-preserved g c =
    let below : c.loop-i.i < length c.args.slots.now.items = search rules in
    let there : slice_index_or c.args.slots.now.items c.loop-i.i c.index_mut.result.now ≡ c.index_mut.result.now =
    sym (c.loop-i.invariant.todo c.loop-i.i c.index_mut.result.now (omega arith)) ∙ sym c.index_mut.ensures.value in
    record {
      size = search rules;
      count = search rules;
      begins = search rules;
      front = grind (arith, common_steps);
      done = grind (arith, common_steps);
      todo = grind (arith, common_steps);
      again = search rules;
      room = search rules;
      quiet = quiet_polled c.args.cx.now c.loop-i.cx c.ask.new.cx
          (λ h. some_other (SlotStirs g.F.Steps.stirs) _ _ _ c.loop-i.invariant.begins below there h)
          c.loop-i.invariant.quiet c.ask.ensures.quiet;
      kept = search rules;
    }
