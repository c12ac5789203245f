use Rattle.std.proofs.Common.{◌∙◌, Some, slice_set, refl, sym, ap}
use Rattle.slab.specs.Slab.{get}
use Rattle.tower_buffer.specs.Mail.{Entry}
use Rattle.tower_buffer.specs.MessageSteps.{known}
use Rattle.tower_buffer.specs.declared.buffer.message.Fate.TheVariants.{Cancelled}
use Rattle.tower_buffer.proofs.Fates.{taken_cancelled}
use Rattle.tower_buffer.proofs.Messages.{sorted_of}
use Rattle.tower_buffer.proofs.Moves.{gone, read, removed}
use Rattle.tower_buffer.proofs.buffer.messages.Messages.live.Goals as goal

pub invariant_of-self : goal.invariant_of-self
invariant_of-self g c =
    let old = c.args.self.now in
    let was = sorted_of old in
    let now = read old.stored old.links c.taken.new.links was c.taken.ensures.order c.taken.ensures.entries in
    record {
      differ = now.differ;
      linked = now.linked;
      sent = now.sent;
    }

pub invariant_of-self-then-open : goal.invariant_of-self-then-open
invariant_of-self-then-open g c =
    let old = c.args.self.now in
    let was = sorted_of old in
    let now = read old.stored old.links c.taken.new.links was c.taken.ensures.order c.taken.ensures.entries in
    record {
      differ = now.differ;
      linked = now.linked;
      sent = now.sent;
    }

pub invariant_of-self-2 : goal.invariant_of-self-2
invariant_of-self-2 g c =
    let old = c.args.self.now in
    let was = sorted_of old in
    let t = taken_cancelled (get old.links.entries c.args.id) (sym c.in-Some.ensures.taken ∙ ap Some c.if-open.false) in
    let d = removed old.stored old.links c.taken.new.links c.remove.new.self c.args.id t.message was t.is c.taken.ensures.order c.taken.ensures.entries c.remove.ensures.capacity
    t.out c.remove.ensures.entries c.remove.ensures.order c.remove.result c.remove.ensures.value c.remove.ensures.len in
    record {
      differ = d.sorted.differ;
      linked = d.sorted.linked;
      sent = d.sorted.sent;
    }

pub returns-clause-follows : goal.returns-clause-follows
returns-clause-follows g c = λ mail same_error h.
    let old = c.args.self.now in
    let was = sorted_of old in
    let t = taken_cancelled (get old.links.entries c.args.id) (sym c.in-Some.ensures.taken ∙ ap Some c.if-open.false) in
    let d = removed old.stored old.links c.taken.new.links c.remove.new.self c.args.id t.message was t.is c.taken.ensures.order c.taken.ensures.entries c.remove.ensures.capacity
    t.out c.remove.ensures.entries c.remove.ensures.order c.remove.result c.remove.ensures.value c.remove.ensures.len in
    let r = gone mail.messages old.links c.remove.new.self c.args.id t.message t.is h (old.linked c.args.id) t.out d.updates d.ordered in (
      slice_set mail.messages r.place (Entry.gone Cancelled),
      (r.place, known c.args.id t.message, (r.at, refl, t.out), t.fate_is, refl),
      r.holds Cancelled,
    )

pub returns-clause-rest : goal.returns-clause-rest
returns-clause-rest g c =
    let old = c.args.self.now in
    let was = sorted_of old in
    let t = taken_cancelled (get old.links.entries c.args.id) (sym c.in-Some.ensures.taken ∙ ap Some c.if-open.false) in
    let d = removed old.stored old.links c.taken.new.links c.remove.new.self c.args.id t.message was t.is c.taken.ensures.order c.taken.ensures.entries c.remove.ensures.capacity
    t.out c.remove.ensures.entries c.remove.ensures.order c.remove.result c.remove.ensures.value c.remove.ensures.len in
    (d.size, d.len, d.capacity, refl)
