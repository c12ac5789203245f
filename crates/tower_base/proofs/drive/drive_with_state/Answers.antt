use Rattle.std.proofs.Common.{rules, ◌∙◌, sym}
use Rattle.std.proofs.lemmas.Iterator.Consumers.{YieldsList-end}
use Rattle.std.proofs.lemmas.Iterator.Adapters.{YieldsList-from_vec}
use Rattle.std.proofs.lemmas.List.{map-id}
use Rattle.tower_base.proofs.Runs.{Going-start, Going-step}
use Rattle.tower_base.proofs.drive.drive_with_state.Goals as goal

pub loop-event-init : goal.loop-event-init
loop-event-init g c = (tt, tt, Going-start _ _ _ _ _ _ _ _ _ _ c.new-entries.ensures.items c.requires.sound c.requires.outside c.new-driver.ensures)

pub returns-in_err-entry-clause-kept : goal.returns-in_err-entry-clause-kept
returns-in_err-entry-clause-kept g c fact h = c.handle.ensures.kept fact (c.loop-event.invariant.2.kept fact h)

pub loop-event-preserved : goal.loop-event-preserved
loop-event-preserved g c = (
  tt,
  tt,
  rw (c.push_reserved.ensures.items, c.reserve.ensures.items)
      (Going-step _ _ _ _ _ _ _ _ _ _ _ _ _ _ _ _ c.loop-event.invariant.2 c.in_ok-entry.ensures.step c.in_ok-entry.ensures.sound c.handle.ensures.kept),
)

pub returns-clause-run : goal.returns-clause-run
returns-clause-run g c =
    let came = YieldsList-end (YieldsList-from_vec c.args.events.items (search rules) (search rules)) c.loop-event.yielded c.loop-event.event-iterator c.loop-event.yielded_by c.next.result c.next.new.self c.in-None.is c.next.ensures.steps in
    let all = sym (map-id c.loop-event.yielded) ∙ came.0 in
    rw (← all) c.loop-event.invariant.2.run
