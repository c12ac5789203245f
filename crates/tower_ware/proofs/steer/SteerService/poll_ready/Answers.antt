use Rattle.std.proofs.Common.{rules, ◌<◌, length}
use Rattle.tower_ware.proofs.SteerLemmas.{each_write, inside_after, quiet_end, quiet_next, quiet_polled, quiet_start, rested_after}
use Rattle.tower_ware.proofs.steer.SteerService.poll_ready.Goals as goal

pub loop-front-preserved-in-Ready-Ok-2 : goal.loop-front-preserved-in-Ready-Ok-2
loop-front-preserved-in-Ready-Ok-2 g c =
    let some : 0 < length c.loop-front.self-inside.listed.items = search rules in
    let now = g.met.S.Service.readies _ _ (rw c.in-Ready-Ok.field-0-is at c.in-Ready-Ok.ensures.polled) in
    record {
      picker = search rules;
      asked = search rules;
      chooses = search rules;
      each = each_write g.S.Service.sound _ _ _ c.poll_ready.ensures.sound c.loop-front.invariant.each;
      some = search rules;
      inside = rw c.pop_front.ensures.rest (inside_after _ _ _ _ c.loop-front.invariant.inside);
      rested = rw c.pop_front.ensures.rest (rested_after g.S.Service.ready _ _ _ _ (search rules) some c.loop-front.invariant.inside now c.loop-front.invariant.rested);
      room = search rules;
      fits = search rules;
      quiet = rw c.pop_front.ensures.rest (quiet_next g.S.Service.polled g.S.Service.stirs _ _ _ _ _ _ _ _ (search rules)
          c.poll_ready.ensures.polled _ _ _ (search rules) some (search rules) c.loop-front.invariant.quiet c.poll_ready.ensures.quiet);
      kept = search rules;
    }

pub loop-front-init : goal.loop-front-init
loop-front-init g c = record {
  picker = search rules;
  asked = search rules;
  chooses = search rules;
  each = search rules;
  some = search rules;
  inside = search rules;
  rested = search rules;
  room = search rules;
  fits = search rules;
  quiet = rw (← c.self.view_is) (quiet_start g.S.Service.polled g.S.Service.stirs _ _ _);
  kept = search rules;
}

pub returns-in_default-poll_ready-clause-quiet : goal.returns-in_default-poll_ready-clause-quiet
returns-in_default-poll_ready-clause-quiet g c =
    let some : 0 < length c.loop-front.self-inside.listed.items = search rules in
    quiet_polled g.S.Service.polled g.S.Service.stirs _ _ _ c.in-Some.front.now c.loop-front.self-inside.services.items
    c.index_mut.result.now _ _ (search rules) c.poll_ready.ensures.polled _ c.loop-front.cx c.poll_ready.new.cx (search rules) some
    c.loop-front.invariant.quiet c.poll_ready.ensures.quiet

pub returns-in_default-poll_ready-2-clause-quiet :
    goal.returns-in_default-poll_ready-2-clause-quiet
returns-in_default-poll_ready-2-clause-quiet g c =
    let some : 0 < length c.loop-front.self-inside.listed.items = search rules in
    quiet_polled g.S.Service.polled g.S.Service.stirs _ _ _ c.in-Some.front.now c.loop-front.self-inside.services.items
    c.index_mut.result.now _ _ (search rules) c.poll_ready.ensures.polled _ c.loop-front.cx c.poll_ready.new.cx (search rules) some
    c.loop-front.invariant.quiet c.poll_ready.ensures.quiet

pub returns-clause-quiet : goal.returns-clause-quiet
returns-clause-quiet g c = quiet_end g.S.Service.polled g.S.Service.stirs _ _ _ _ _ _ c.loop-front.invariant.quiet
