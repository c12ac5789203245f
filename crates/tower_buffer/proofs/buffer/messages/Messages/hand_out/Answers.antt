use Rattle.std.proofs.Common.{◌≡◌, ◌∙◌, slice_set, refl, sym, ap}
use Rattle.tower_buffer.specs.Mail.{Entry}
use Rattle.tower_buffer.specs.MessageSteps.{known}
use Rattle.tower_buffer.specs.declared.buffer.message.Message.{Message}
use Rattle.tower_buffer.proofs.Fates.{ended_lost, ended_settled, some_is}
use Rattle.tower_buffer.proofs.Messages.{sorted_of}
use Rattle.tower_buffer.proofs.Moves.{gone, removed}
use Rattle.tower_buffer.proofs.buffer.messages.Messages.hand_out.Goals as goal

pub invariant_of-self : goal.invariant_of-self
invariant_of-self g c =
    let old = c.args.self.now in
    let was = sorted_of old in
    let m = c.requires.ended.0 in
    let there = c.requires.ended.1 in
    let out = (old.sent c.args.id m there).1 (ended_settled c.requires.ended.0.fate c.requires.ended.2) in
    let d = removed old.stored old.links old.links c.remove.new.self c.args.id m was there refl refl c.remove.ensures.capacity
    out c.remove.ensures.entries c.remove.ensures.order c.remove.result c.remove.ensures.value c.remove.ensures.len in
    record {
      differ = d.sorted.differ;
      linked = d.sorted.linked;
      sent = d.sorted.sent;
    }

pub returns-in-Answered-clause-follows : goal.returns-in-Answered-clause-follows
returns-in-Answered-clause-follows g c = λ mail same_error h.
    let old = c.args.self.now in
    let was = sorted_of old in
    let m = c.requires.ended.0 in
    let there = c.requires.ended.1 in
    let out = (old.sent c.args.id m there).1 (ended_settled c.requires.ended.0.fate c.requires.ended.2) in
    let d = removed old.stored old.links old.links c.remove.new.self c.args.id m was there refl refl c.remove.ensures.capacity
    out c.remove.ensures.entries c.remove.ensures.order c.remove.result c.remove.ensures.value c.remove.ensures.len in
    let x = some_is _ _ (c.in-Some.ensures.value ∙ there) in
    let same : c.in-Some.field-0.fate ≡ m.fate = ap (λ (k : Message _ _). k.fate) x in
    let r = gone mail.messages old.links c.remove.new.self c.args.id m there h (old.linked c.args.id) out d.updates d.ordered in (
      slice_set mail.messages r.place (Entry.gone m.fate),
      (r.place, known c.args.id m, r.at, refl, sym same ∙ c.in-Answered.is, refl),
      r.holds m.fate,
    )

pub returns-in_default-fate-clause-follows : goal.returns-in_default-fate-clause-follows
returns-in_default-fate-clause-follows g c = λ mail same_error h.
    let old = c.args.self.now in
    let was = sorted_of old in
    let m = c.requires.ended.0 in
    let there = c.requires.ended.1 in
    let out = (old.sent c.args.id m there).1 (ended_settled c.requires.ended.0.fate c.requires.ended.2) in
    let d = removed old.stored old.links old.links c.remove.new.self c.args.id m was there refl refl c.remove.ensures.capacity
    out c.remove.ensures.entries c.remove.ensures.order c.remove.result c.remove.ensures.value c.remove.ensures.len in
    let x = some_is _ _ (c.in-Some.ensures.value ∙ there) in
    let same : c.in-Some.field-0.fate ≡ m.fate = ap (λ (k : Message _ _). k.fate) x in
    let r = gone mail.messages old.links c.remove.new.self c.args.id m there h (old.linked c.args.id) out d.updates d.ordered in (
      slice_set mail.messages r.place (Entry.gone m.fate),
      (r.place, known c.args.id m, r.at, refl, ended_lost m.fate c.requires.ended.2 (λ future e. c.in_default-fate.not-Answered future (same ∙ e)), refl),
      r.holds m.fate,
    )

pub returns-in-Answered-clause-rest : goal.returns-in-Answered-clause-rest
returns-in-Answered-clause-rest g c =
    let old = c.args.self.now in
    let was = sorted_of old in
    let m = c.requires.ended.0 in
    let there = c.requires.ended.1 in
    let out = (old.sent c.args.id m there).1 (ended_settled c.requires.ended.0.fate c.requires.ended.2) in
    let d = removed old.stored old.links old.links c.remove.new.self c.args.id m was there refl refl c.remove.ensures.capacity
    out c.remove.ensures.entries c.remove.ensures.order c.remove.result c.remove.ensures.value c.remove.ensures.len in
    (d.size, d.len, d.capacity, refl)

pub returns-in_default-fate-clause-rest : goal.returns-in_default-fate-clause-rest
returns-in_default-fate-clause-rest g c =
    let old = c.args.self.now in
    let was = sorted_of old in
    let m = c.requires.ended.0 in
    let there = c.requires.ended.1 in
    let out = (old.sent c.args.id m there).1 (ended_settled c.requires.ended.0.fate c.requires.ended.2) in
    let d = removed old.stored old.links old.links c.remove.new.self c.args.id m was there refl refl c.remove.ensures.capacity
    out c.remove.ensures.entries c.remove.ensures.order c.remove.result c.remove.ensures.value c.remove.ensures.len in
    (d.size, d.len, d.capacity, refl)
