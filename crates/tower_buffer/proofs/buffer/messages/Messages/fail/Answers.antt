use Rattle.std.proofs.Common.{Some, refl, ap}
use Rattle.tower_buffer.proofs.Messages.{sorted_of}
use Rattle.tower_buffer.proofs.Moves.{finished, read, sorted_finished}
use Rattle.tower_buffer.proofs.buffer.messages.Messages.fail.Goals as goal

pub invariant_of-self : goal.invariant_of-self
invariant_of-self g c =
    let old = c.args.self.now in
    let same = c.if-not-fail_taken.ensures.kept refl in
    let now = read old.stored old.links c.fail_taken.new.links (sorted_of old) same.0 same.1 in
    record { differ = now.differ; linked = now.linked; sent = now.sent }

pub invariant_of-self-2 : goal.invariant_of-self-2
invariant_of-self-2 g c =
    let old = c.args.self.now in
    let now = sorted_finished old.stored (Some c.unwrap_or.result) old.links c.fail_taken.new.links c.args.id refl (sorted_of old) (c.if-not-fail_taken.ensures.fails refl) in
    record { differ = now.0.differ; linked = now.0.linked; sent = now.0.sent }

pub returns-clause-fails : goal.returns-clause-fails
returns-clause-fails g c = λ done. (
  λ plain h.
      let old = c.args.self.now in
      let r = finished plain old.links c.fail_taken.new.links c.args.id h (old.linked c.args.id) (c.if-not-fail_taken.ensures.fails refl) in
      (r.left, r.settles, r.holds),
  ap Some (rw c.take.ensures.value at c.unwrap_or.ensures),
)

pub returns-clause-queued : goal.returns-clause-queued
returns-clause-queued g c =
    let old = c.args.self.now in
    (sorted_finished old.stored (Some c.unwrap_or.result) old.links c.fail_taken.new.links c.args.id refl (sorted_of old) (c.if-not-fail_taken.ensures.fails refl)).1
