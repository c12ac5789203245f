use Rattle.std.proofs.Common.{◌≤◌, length, refl, ap, arith}
use Rattle.tower_buffer.specs.Mail.{abandoned}
use Rattle.tower_buffer.proofs.Abandoned.{holds_left, sorted_lost, walked_entries, walked_more, walked_none, walked_order}
use Rattle.tower_buffer.proofs.Messages.{sorted_of}
use Rattle.tower_buffer.proofs.buffer.messages.Messages.abandon.Goals as goal

pub loop-id-init : goal.loop-id-init
loop-id-init g c = (walked_none c.args.self.now.links, refl)

pub invariant_of-self : goal.invariant_of-self
invariant_of-self g c =
    let mid = c.loop-id.self in
    let now = sorted_lost mid.stored mid.links c.lose_at.new.links (sorted_of mid) c.loop-id.id c.lose_at.ensures.order c.lose_at.ensures.entries in
    record { differ = now.differ; linked = now.linked; sent = now.sent }

pub loop-id-preserved : goal.loop-id-preserved
loop-id-preserved g c = (
  walked_more c.args.self.now.links c.loop-id.self.links c.lose_at.new.links c.loop-id.id c.loop-id.invariant.0 c.lose_at.ensures.order c.lose_at.ensures.entries c.lose_at.ensures.len c.lose_at.ensures.capacity,
  c.loop-id.invariant.1,
)

pub returns-clause-follows : goal.returns-clause-follows
returns-clause-follows g c = λ plain h.
    let old = c.args.self.now in
    let all : length old.links.entries.slots ≤ c.loop-id.id = omega (arith, c.capacity-id-end.ensures.slots, c.loop-id-test.false, c.loop-id.auto.id-end) in
    let order = walked_order old.links c.loop-id.self.links c.loop-id.id c.loop-id.invariant.0 all old.linked in
    let entries = walked_entries old.links c.loop-id.self.links c.loop-id.id c.loop-id.invariant.0 all in
    (abandoned plain, refl, holds_left old.stored old.links c.loop-id.self.links (sorted_of old) order entries plain h)

pub returns-clause-queued : goal.returns-clause-queued
returns-clause-queued g c =
    let old = c.args.self.now in
    let all : length old.links.entries.slots ≤ c.loop-id.id = omega (arith, c.capacity-id-end.ensures.slots, c.loop-id-test.false, c.loop-id.auto.id-end) in
    ap length (walked_order old.links c.loop-id.self.links c.loop-id.id c.loop-id.invariant.0 all old.linked)

pub returns-clause-room : goal.returns-clause-room
returns-clause-room g c = (c.loop-id.invariant.0.len, c.loop-id.invariant.0.capacity)

pub returns-clause-stored : goal.returns-clause-stored
returns-clause-stored g c = c.loop-id.invariant.1
