use Rattle.std.proofs.Common.{◌≡◌, ◌+◌, ◌∙◌, length, slice_set, refl, sym, ap, arith}
use Rattle.slab.specs.Slab.{get, slab_len}
use Rattle.tower_buffer.specs.Mail.{Entry}
use Rattle.tower_buffer.specs.MessageSteps.{kept}
use Rattle.tower_buffer.specs.declared.buffer.message.Fate.TheVariants.{Cancelled}
use Rattle.tower_buffer.proofs.Fates.{queued_some}
use Rattle.tower_buffer.proofs.Messages.{sorted_of}
use Rattle.tower_buffer.proofs.Moves.{first, first_has, on_some, one_less, sorted_gone}
use Rattle.tower_buffer.proofs.buffer.messages.Messages.clear.Goals as goal

pub invariant_of-self : goal.invariant_of-self
invariant_of-self g c =
    let old = c.args.self.now in
    let now = sorted_gone old.stored old.links c.remove.new.self c.args.id (sorted_of old) c.remove.ensures.entries c.remove.ensures.order in
    record { differ = now.differ; linked = now.linked; sent = now.sent }

pub returns-clause-follows : goal.returns-clause-follows
returns-clause-follows g c = λ plain h.
    let old = c.args.self.now in
    let f = first plain old.links c.args.id old.stored h (sorted_of old) c.requires.oldest in (
      slice_set plain f.place (Entry.gone Cancelled),
      (f.place, f.item, f.request, f.oldest, c.requires.cancelled (kept f.item) f.there, refl),
      f.cleared c.remove.new.self Cancelled c.remove.ensures.entries c.remove.ensures.order,
    )

pub returns-clause-queued : goal.returns-clause-queued
returns-clause-queued g c =
    let old = c.args.self.now in
    omega (arith, one_less old.links.order c.args.id old.differ c.requires.oldest, ap length c.remove.ensures.order)

pub returns-clause-room : goal.returns-clause-room
returns-clause-room g c =
    let old = c.args.self.now in
    let there = queued_some (get old.links.entries c.args.id) (sym (old.linked c.args.id) ∙ first_has old.links.order c.args.id c.requires.oldest) in
    let size = on_some c.remove.result there.0 (slab_len c.remove.new.self.entries + 1 ≡ slab_len old.links.entries) (c.remove.ensures.value ∙ there.1) c.remove.ensures.len in
    (omega (arith, size), c.remove.ensures.capacity)
