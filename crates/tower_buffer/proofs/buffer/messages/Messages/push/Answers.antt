use Rattle.std.proofs.Common.{◌++◌, ◌∷◌, [], ◌∙◌, Some, length, length-append, refl, sym, ap, arith}
use Rattle.tower_buffer.specs.Mail.{Entry}
use Rattle.tower_buffer.specs.declared.buffer.message.Fate.TheVariants.{Open}
use Rattle.tower_buffer.proofs.Fates.{not_none}
use Rattle.tower_buffer.proofs.Messages.{holds_pushed, none_with, sorted_of, sorted_pushed}
use Rattle.tower_buffer.proofs.buffer.messages.Messages.push.Goals as goal

pub invariant_of-self : goal.invariant_of-self
invariant_of-self g c =
    let old = c.args.self.now in
    let now = sorted_pushed old.stored old.links c.push_back-id.new.self (sorted_of old) c.push_back-id.result c.args.request c.push_back-id.ensures.was_vacant c.push_back-id.ensures.entries c.push_back-id.ensures.order in
    record { differ = now.differ; linked = now.linked; sent = now.sent }

pub returns-clause-follows : goal.returns-clause-follows
returns-clause-follows g c = λ plain h.
    let old = c.args.self.now in
    let id = c.push_back-id.result in (
      plain ++ Entry.here (record { id = id; request = Some c.args.request; fate = Open }) ∷ [],
      (none_with old.links plain id (λ item. Unit {0}) h (λ item there _. not_none _ (sym there ∙ c.push_back-id.ensures.was_vacant)), refl),
      holds_pushed old.links c.push_back-id.new.self plain h id c.args.request c.push_back-id.ensures.was_vacant c.push_back-id.ensures.entries c.push_back-id.ensures.order,
    )

pub returns-clause-queued : goal.returns-clause-queued
returns-clause-queued g c =
    omega (arith, ap length c.push_back-id.ensures.order, length-append c.args.self.now.links.order (c.push_back-id.result ∷ []))
