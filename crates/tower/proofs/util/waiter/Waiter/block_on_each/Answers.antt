use denote.Param.Always.{mut_next}
use Rattle.std.proofs.Common.{rules, refl, ◌∙◌, sym}
use Rattle.std.proofs.lemmas.Iterator.Consumers.{YieldsList-end}
use Rattle.std.proofs.lemmas.Iterator.Adapters.{YieldsList-from_vec}
use Rattle.std.proofs.lemmas.List.{map-id}
use Rattle.tower.proofs.WaitsLemmas.{each_more}
use Rattle.tower.proofs.util.waiter.Waiter.block_on_each.Goals as goal

pub returns-clause-told : goal.returns-clause-told
returns-clause-told g c =
    let came = YieldsList-end (YieldsList-from_vec c.args.requests.items (search rules) (search rules)) c.loop-request.yielded c.loop-request.request-iterator c.loop-request.yielded_by c.next.result c.next.new.self c.in-None.is c.next.ensures.steps in
    let all = sym (map-id c.loop-request.yielded) ∙ came.0 in
    (c.loop-request.each, rw (← all) c.loop-request.invariant.told)

pub loop-request-preserved : goal.loop-request-preserved
loop-request-preserved g c = record {
  can_next = tt;
  is_finite = tt;
  sound = c.block_on_call.ensures.sound;
  callable = mut_next g.F.FnMut _ _ _ _ _ c.call_mut.ensures refl c.loop-request.invariant.callable;
  told = each_more g.S.Service g.S.Future.Steps.stepped (goal.F-step g) c.loop-request.yielded c.in-Some.request c.in_ok-block_on_call.field-0 c.args.service.now c.loop-request.service c.block_on_call.new.service c.args.each c.loop-request.each c.call_mut.new.self c.loop-request.invariant.told c.in_ok-block_on_call.ensures.answered c.call_mut.ensures;
}
