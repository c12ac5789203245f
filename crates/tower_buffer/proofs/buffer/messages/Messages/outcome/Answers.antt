use Rattle.std.proofs.Common.{◌≢◌, ◌∙◌, length, sym, ap, arith}
use Rattle.slab.specs.Slab.{Slab, get, slab_len}
use Rattle.tower_buffer.specs.Messages.{bare}
use Rattle.tower_buffer.specs.declared.buffer.message.Fate.TheVariants.{Cancelled, Failed, Open}
use Rattle.tower_buffer.specs.declared.buffer.message.Message.{Message}
use Rattle.tower_buffer.proofs.Fates.{bare_failed, ended, fate_some}
use Rattle.tower_buffer.proofs.Messages.{sorted_of, holds_as}
use Rattle.tower_buffer.proofs.Moves.{read}
use Rattle.tower_buffer.proofs.buffer.messages.Messages.outcome.Goals as goal

pub invariant_of-self : goal.invariant_of-self
invariant_of-self g c =
    let old = c.args.self.now in
    let was = sorted_of old in
    let now = read old.stored old.links c.fate_of.new.links was c.fate_of.ensures.order c.fate_of.ensures.entries in
    record {
      differ = now.differ;
      linked = now.linked;
      sent = now.sent;
    }

pub tell_failure-requires-clause-failed : goal.tell_failure-requires-clause-failed
tell_failure-requires-clause-failed g c =
    let old = c.args.self.now in
    let t = fate_some (get old.links.entries c.args.id) c.in-Some.fate (sym c.in-Some.ensures.fate) in
    let m = t.0 in
    (m, ap (λ e. get e c.args.id) c.fate_of.ensures.entries ∙ t.1, bare_failed m.fate (t.2 ∙ c.in-Failed.is))

pub hand_out-requires : goal.hand_out-requires
hand_out-requires g c =
    let old = c.args.self.now in
    let t = fate_some (get old.links.entries c.args.id) c.in-Some.fate (sym c.in-Some.ensures.fate) in
    let m = t.0 in
    let unopened : m.fate ≢ Open = λ e. c.in_default-fate.not-Open (sym t.2 ∙ ap bare e) in
    let uncancelled : m.fate ≢ Cancelled = λ e. c.in_default-fate.not-Cancelled (sym t.2 ∙ ap bare e) in
    let served : m.fate ≢ Failed = λ e. c.in_default-fate.not-Failed (sym t.2 ∙ ap bare e) in
    record { ended = (m, ap (λ e. get e c.args.id) c.fate_of.ensures.entries ∙ t.1, ended m.fate unopened uncancelled served) }

pub returns-in-Failed-clause-follows : goal.returns-in-Failed-clause-follows
returns-in-Failed-clause-follows g c = λ mail same_error h.
    let old = c.args.self.now in
    let mid = c.fate_of.new.links in
    c.tell_failure.ensures.follows mail same_error (holds_as old.links mid mail.messages c.fate_of.ensures.order (λ id. ap (λ e. get e id) c.fate_of.ensures.entries) h)

pub returns-in_default-fate-clause-follows : goal.returns-in_default-fate-clause-follows
returns-in_default-fate-clause-follows g c = λ mail same_error h.
    let old = c.args.self.now in
    let mid = c.fate_of.new.links in
    c.hand_out.ensures.follows mail same_error (holds_as old.links mid mail.messages c.fate_of.ensures.order (λ id. ap (λ e. get e id) c.fate_of.ensures.entries) h)

pub returns-in-Failed-clause-rest : goal.returns-in-Failed-clause-rest
returns-in-Failed-clause-rest g c =
    let rest = c.tell_failure.ensures.rest in
    let all = c.fate_of.ensures.entries in
    (rest.0 ∙ ap length c.fate_of.ensures.order, omega (arith, rest.1, ap slab_len all), rest.2 ∙ ap (λ (e : Slab (Message _ _)). e.capacity) all, rest.3)

pub returns-in_default-fate-clause-rest : goal.returns-in_default-fate-clause-rest
returns-in_default-fate-clause-rest g c =
    let rest = c.hand_out.ensures.rest in
    let all = c.fate_of.ensures.entries in
    (rest.0 ∙ ap length c.fate_of.ensures.order, omega (arith, rest.1, ap slab_len all), rest.2 ∙ ap (λ (e : Slab (Message _ _)). e.capacity) all, rest.3)
