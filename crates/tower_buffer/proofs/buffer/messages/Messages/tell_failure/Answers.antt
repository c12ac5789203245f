use Rattle.std.proofs.Common.{◌∙◌, is_some, slice_set, refl, sym, ap, subst}
use Rattle.tower_buffer.specs.Messages.{is_failed, is_unsettled}
use Rattle.tower_buffer.specs.Mail.{Entry, Tells}
use Rattle.tower_buffer.specs.MessageSteps.{known}
use Rattle.tower_buffer.proofs.Messages.{sorted_of}
use Rattle.tower_buffer.proofs.Moves.{gone, removed}
use Rattle.tower_buffer.proofs.Replies.{told_failure}
use Rattle.tower_buffer.proofs.buffer.messages.Messages.tell_failure.Goals as goal

pub invariant_of-self : goal.invariant_of-self
invariant_of-self g c =
    let old = c.args.self.now in
    let was = sorted_of old in
    let m = c.requires.failed.0 in
    let there = c.requires.failed.1 in
    let out = (old.sent c.args.id m there).1 (ap is_unsettled c.requires.failed.2) in
    let d = removed old.stored old.links old.links c.remove.new.self c.args.id m was there refl refl c.remove.ensures.capacity
    out c.remove.ensures.entries c.remove.ensures.order c.remove.result c.remove.ensures.value c.remove.ensures.len in
    record {
      differ = d.sorted.differ;
      linked = d.sorted.linked;
      sent = d.sorted.sent;
    }

pub returns-in_default-clause-follows : goal.returns-in_default-clause-follows
returns-in_default-clause-follows g c = λ mail same_error h.
    let old = c.args.self.now in
    let was = sorted_of old in
    let m = c.requires.failed.0 in
    let there = c.requires.failed.1 in
    let out = (old.sent c.args.id m there).1 (ap is_unsettled c.requires.failed.2) in
    let d = removed old.stored old.links old.links c.remove.new.self c.args.id m was there refl refl c.remove.ensures.capacity
    out c.remove.ensures.entries c.remove.ensures.order c.remove.result c.remove.ensures.value c.remove.ensures.len in
    let r = gone mail.messages old.links c.remove.new.self c.args.id m there h (old.linked c.args.id) out d.updates d.ordered in
    let some = ap is_some same_error ∙ (old.sent c.args.id m there).0 (ap is_failed c.requires.failed.2) in (
      slice_set mail.messages r.place (Entry.gone m.fate),
      told_failure _ c.args.id _ r.place (known c.args.id m) r.at refl c.requires.failed.2 some (subst (λ error. Tells error c.shut.result) (sym same_error) c.shut.ensures) c.in_default.not-Memory,
      r.holds m.fate,
    )

pub returns-in_default-clause-rest : goal.returns-in_default-clause-rest
returns-in_default-clause-rest g c =
    let old = c.args.self.now in
    let was = sorted_of old in
    let m = c.requires.failed.0 in
    let there = c.requires.failed.1 in
    let out = (old.sent c.args.id m there).1 (ap is_unsettled c.requires.failed.2) in
    let d = removed old.stored old.links old.links c.remove.new.self c.args.id m was there refl refl c.remove.ensures.capacity
    out c.remove.ensures.entries c.remove.ensures.order c.remove.result c.remove.ensures.value c.remove.ensures.len in
    (d.size, d.len, d.capacity, refl)
