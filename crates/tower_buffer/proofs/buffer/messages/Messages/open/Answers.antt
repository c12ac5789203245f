use Rattle.std.proofs.Common.{◌≡◌, ◌∙◌, None, Some, length, slice_set, refl, sym, ap, subst, arith}
use Rattle.slab.specs.Slab.{Slab, Updates, get}
use Rattle.tower_buffer.specs.Mail.{Entry}
use Rattle.tower_buffer.specs.MessageSteps.{kept}
use Rattle.tower_buffer.specs.declared.buffer.message.Fate.TheVariants.{Open}
use Rattle.tower_buffer.specs.declared.buffer.message.Message.{Message}
use Rattle.tower_buffer.proofs.Fates.{some_is}
use Rattle.tower_buffer.proofs.Messages.{sorted_left, sorted_of}
use Rattle.tower_buffer.proofs.Moves.{first, one_fits, one_less}
use Rattle.tower_buffer.proofs.buffer.messages.Messages.open.Goals as goal

pub invariant_of-self : goal.invariant_of-self
invariant_of-self g c =
    let old = c.args.self.now in
    let left : Message _ _ = record { request = None; fate = Open } in
    let updates : Updates old.links.entries c.replace-request.new.self.entries c.args.id (Some left) = subst (λ (e : Slab (Message _ _)). Updates e c.replace-request.new.self.entries c.args.id (Some left)) c.unlink.ensures.entries (rw c.out.ensures at c.replace-request.ensures.entries) in
    let now = sorted_left old.stored old.links c.replace-request.new.self (sorted_of old) c.args.id (Some left) updates (c.replace-request.ensures.order ∙ c.unlink.ensures.order) refl
    (one_fits old.stored left ((λ failed. absurd (cc)), (λ settled. refl))) in
    record { differ = now.differ; linked = now.linked; sent = now.sent }

pub returns-clause-follows : goal.returns-clause-follows
returns-clause-follows g c = λ plain h.
    let old = c.args.self.now in
    let f = first plain old.links c.args.id old.stored h (sorted_of old) c.requires.oldest in
    let waited : f.item.fate ≡ Open = c.requires.open (kept f.item) f.there in
    let left : Message _ _ = record { request = None; fate = f.item.fate } in
    let updates : Updates old.links.entries c.replace-request.new.self.entries c.args.id (Some left) = subst (λ (e : Slab (Message _ _)). Updates e c.replace-request.new.self.entries c.args.id (Some left)) c.unlink.ensures.entries (rw (waited, sym c.out.ensures) c.replace-request.ensures.entries) in
    let same : kept f.item ≡ c.replace-request.result = some_is _ _ (sym f.there ∙ ap (λ e. get e c.args.id) (sym c.unlink.ensures.entries) ∙ c.replace-request.ensures.value) in (
      slice_set plain f.place (Entry.here (record f.item { request = None })),
      (f.place, f.item, (f.oldest.0, ap (λ (m : Message _ _). m.request) same ∙ c.in-Some.is, f.oldest.2), waited, f.is, refl),
      f.opened c.replace-request.new.self updates (c.replace-request.ensures.order ∙ c.unlink.ensures.order),
    )

pub returns-clause-queued : goal.returns-clause-queued
returns-clause-queued g c =
    let old = c.args.self.now in
    omega (arith, one_less old.links.order c.args.id old.differ c.requires.oldest, ap length (c.replace-request.ensures.order ∙ c.unlink.ensures.order))
