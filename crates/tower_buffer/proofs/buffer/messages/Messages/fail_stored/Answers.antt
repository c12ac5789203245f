use Rattle.std.proofs.Common.{◌≡◌, ◌∙◌, true, is_some, not, refl, ap}
use Rattle.tower_buffer.proofs.Messages.{sorted_of}
use Rattle.tower_buffer.proofs.Moves.{finished, sorted_either, sorted_finished}
use Rattle.tower_buffer.proofs.buffer.messages.Messages.fail_stored.Goals as goal

pub invariant_of-self : goal.invariant_of-self
invariant_of-self g c =
    let old = c.args.self.now in
    let was = sorted_of old in
    let some : is_some old.stored ≡ true = c.is_none.ensures ∙ ap not c.if-is_none.false in
    let now = sorted_either old.stored old.links c.fail_taken.new.links c.args.id c.fail_taken.result some was c.fail_taken.ensures.kept c.fail_taken.ensures.fails in
    record {
      differ = now.0.differ;
      linked = now.0.linked;
      sent = now.0.sent;
    }

pub returns-clause-follows : goal.returns-clause-follows
returns-clause-follows g c = λ mail same_error h.
    let old = c.args.self.now in
    let was = sorted_of old in
    let some : is_some old.stored ≡ true = c.is_none.ensures ∙ ap not c.if-is_none.false in
    let f = c.if-not-fail_taken.ensures.fails refl in
    let now = sorted_finished old.stored old.stored old.links c.fail_taken.new.links c.args.id some was f in
    let r = finished mail.messages old.links c.fail_taken.new.links c.args.id h (old.linked c.args.id) f in (
      r.left,
      (ap is_some same_error ∙ some, r.settles, refl),
      r.holds,
    )

pub returns-clause-rest : goal.returns-clause-rest
returns-clause-rest g c =
    let old = c.args.self.now in
    let some : is_some old.stored ≡ true = c.is_none.ensures ∙ ap not c.if-is_none.false in
    let now = sorted_finished old.stored old.stored old.links c.fail_taken.new.links c.args.id some (sorted_of old) (c.if-not-fail_taken.ensures.fails refl) in
    (now.1, c.fail_taken.ensures.len, c.fail_taken.ensures.capacity, refl)
