use Rattle.std.proofs.Common.{◌≡◌, ◌≢◌, ◌∙◌, slice_set, inl, inr, refl, sym, ap}
use Rattle.slab.specs.Slab.{get}
use Rattle.tower_buffer.specs.Messages.{bare}
use Rattle.tower_buffer.specs.Mail.{Entry}
use Rattle.tower_buffer.specs.MessageSteps.{known}
use Rattle.tower_buffer.specs.declared.buffer.message.Fate.TheVariants.{Cancelled, Open}
use Rattle.tower_buffer.specs.declared.buffer.message.Message.{Message}
use Rattle.tower_buffer.proofs.Fates.{bare_open, fate_some, settled}
use Rattle.tower_buffer.proofs.Messages.{sorted_of}
use Rattle.tower_buffer.proofs.Moves.{changed, gone, read, removed, resettled}
use Rattle.tower_buffer.proofs.buffer.messages.Messages.forget_message.Goals as goal

pub invariant_of-self : goal.invariant_of-self
invariant_of-self g c =
    let old = c.args.self.now in
    let was = sorted_of old in
    let now = read old.stored old.links c.fate_of.new.links was c.fate_of.ensures.order c.fate_of.ensures.entries in
    record {
      differ = now.differ;
      linked = now.linked;
      sent = now.sent;
    }

pub invariant_of-self-in-Cancelled : goal.invariant_of-self-in-Cancelled
invariant_of-self-in-Cancelled g c =
    let old = c.args.self.now in
    let was = sorted_of old in
    let now = read old.stored old.links c.fate_of.new.links was c.fate_of.ensures.order c.fate_of.ensures.entries in
    record {
      differ = now.differ;
      linked = now.linked;
      sent = now.sent;
    }

pub invariant_of-self-in-Open : goal.invariant_of-self-in-Open
invariant_of-self-in-Open g c =
    let old = c.args.self.now in
    let was = sorted_of old in
    let t = fate_some (get old.links.entries c.args.id) c.in-Some.fate (sym c.in-Some.ensures.fate) in
    let m = t.0 in
    let fate : m.fate ≡ Open = bare_open m.fate (t.2 ∙ c.in-Open.is) in
    let now : Message _ _ = record m { fate = Cancelled } in
    let d = resettled old.stored old.links c.fate_of.new.links c.settle.new.links c.args.id m was t.1 c.fate_of.ensures.order c.fate_of.ensures.entries c.settle.ensures.capacity
    now refl ((λ failed. absurd (cc)), (λ settled. absurd (cc))) (c.settle.ensures.entries m (ap (λ e. get e c.args.id) c.fate_of.ensures.entries ∙ t.1)) c.settle.ensures.order c.settle.ensures.len in
    record {
      differ = d.sorted.differ;
      linked = d.sorted.linked;
      sent = d.sorted.sent;
    }

pub invariant_of-self-in_default-fate : goal.invariant_of-self-in_default-fate
invariant_of-self-in_default-fate g c =
    let old = c.args.self.now in
    let was = sorted_of old in
    let t = fate_some (get old.links.entries c.args.id) c.in-Some.fate (sym c.in-Some.ensures.fate) in
    let m = t.0 in
    let unopened : m.fate ≢ Open = λ e. c.in_default-fate.not-Open (sym t.2 ∙ ap bare e) in
    let uncancelled : m.fate ≢ Cancelled = λ e. c.in_default-fate.not-Cancelled (sym t.2 ∙ ap bare e) in
    let out = (old.sent c.args.id m t.1).1 (settled m.fate unopened uncancelled) in
    let d = removed old.stored old.links c.fate_of.new.links c.remove.new.self c.args.id m was t.1 c.fate_of.ensures.order c.fate_of.ensures.entries c.remove.ensures.capacity
    out c.remove.ensures.entries c.remove.ensures.order c.remove.result c.remove.ensures.value c.remove.ensures.len in
    record {
      differ = d.sorted.differ;
      linked = d.sorted.linked;
      sent = d.sorted.sent;
    }

pub returns-in-Open-clause-follows : goal.returns-in-Open-clause-follows
returns-in-Open-clause-follows g c = λ mail same_error h.
    let old = c.args.self.now in
    let was = sorted_of old in
    let t = fate_some (get old.links.entries c.args.id) c.in-Some.fate (sym c.in-Some.ensures.fate) in
    let m = t.0 in
    let fate : m.fate ≡ Open = bare_open m.fate (t.2 ∙ c.in-Open.is) in
    let now : Message _ _ = record m { fate = Cancelled } in
    let d = resettled old.stored old.links c.fate_of.new.links c.settle.new.links c.args.id m was t.1 c.fate_of.ensures.order c.fate_of.ensures.entries c.settle.ensures.capacity
    now refl ((λ failed. absurd (cc)), (λ settled. absurd (cc))) (c.settle.ensures.entries m (ap (λ e. get e c.args.id) c.fate_of.ensures.entries ∙ t.1)) c.settle.ensures.order c.settle.ensures.len in
    let r = changed mail.messages old.links c.settle.new.links c.args.id m t.1 h now refl d.updates d.ordered in (
      slice_set mail.messages r.place (Entry.here (known c.args.id now)),
      (r.place, known c.args.id m, r.at, refl, inl (fate, refl)),
      r.holds,
    )

pub returns-in_default-fate-clause-follows : goal.returns-in_default-fate-clause-follows
returns-in_default-fate-clause-follows g c = λ mail same_error h.
    let old = c.args.self.now in
    let was = sorted_of old in
    let t = fate_some (get old.links.entries c.args.id) c.in-Some.fate (sym c.in-Some.ensures.fate) in
    let m = t.0 in
    let unopened : m.fate ≢ Open = λ e. c.in_default-fate.not-Open (sym t.2 ∙ ap bare e) in
    let uncancelled : m.fate ≢ Cancelled = λ e. c.in_default-fate.not-Cancelled (sym t.2 ∙ ap bare e) in
    let out = (old.sent c.args.id m t.1).1 (settled m.fate unopened uncancelled) in
    let d = removed old.stored old.links c.fate_of.new.links c.remove.new.self c.args.id m was t.1 c.fate_of.ensures.order c.fate_of.ensures.entries c.remove.ensures.capacity
    out c.remove.ensures.entries c.remove.ensures.order c.remove.result c.remove.ensures.value c.remove.ensures.len in
    let r = gone mail.messages old.links c.remove.new.self c.args.id m t.1 h (old.linked c.args.id) out d.updates d.ordered in (
      slice_set mail.messages r.place (Entry.gone m.fate),
      (r.place, known c.args.id m, r.at, refl, inr (unopened, uncancelled, refl)),
      r.holds m.fate,
    )

pub returns-in-Open-clause-rest : goal.returns-in-Open-clause-rest
returns-in-Open-clause-rest g c =
    let old = c.args.self.now in
    let was = sorted_of old in
    let t = fate_some (get old.links.entries c.args.id) c.in-Some.fate (sym c.in-Some.ensures.fate) in
    let m = t.0 in
    let fate : m.fate ≡ Open = bare_open m.fate (t.2 ∙ c.in-Open.is) in
    let now : Message _ _ = record m { fate = Cancelled } in
    let d = resettled old.stored old.links c.fate_of.new.links c.settle.new.links c.args.id m was t.1 c.fate_of.ensures.order c.fate_of.ensures.entries c.settle.ensures.capacity
    now refl ((λ failed. absurd (cc)), (λ settled. absurd (cc))) (c.settle.ensures.entries m (ap (λ e. get e c.args.id) c.fate_of.ensures.entries ∙ t.1)) c.settle.ensures.order c.settle.ensures.len in
    (d.size, d.len, d.capacity, refl)

pub returns-in_default-fate-clause-rest : goal.returns-in_default-fate-clause-rest
returns-in_default-fate-clause-rest g c =
    let old = c.args.self.now in
    let was = sorted_of old in
    let t = fate_some (get old.links.entries c.args.id) c.in-Some.fate (sym c.in-Some.ensures.fate) in
    let m = t.0 in
    let unopened : m.fate ≢ Open = λ e. c.in_default-fate.not-Open (sym t.2 ∙ ap bare e) in
    let uncancelled : m.fate ≢ Cancelled = λ e. c.in_default-fate.not-Cancelled (sym t.2 ∙ ap bare e) in
    let out = (old.sent c.args.id m t.1).1 (settled m.fate unopened uncancelled) in
    let d = removed old.stored old.links c.fate_of.new.links c.remove.new.self c.args.id m was t.1 c.fate_of.ensures.order c.fate_of.ensures.entries c.remove.ensures.capacity
    out c.remove.ensures.entries c.remove.ensures.order c.remove.result c.remove.ensures.value c.remove.ensures.len in
    (d.size, d.len, d.capacity, refl)
