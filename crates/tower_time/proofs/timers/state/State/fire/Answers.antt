use Rattle.std.proofs.Common.{◌≡◌, sym, ◌∙◌, refl, subst, inl, inr, arith, Some}
use Rattle.std.proofs.Common.{IsSome}
use Rattle.std.proofs.lemmas.Bool.{cases_eq}
use Rattle.std.proofs.lemmas.Option.{none-some, same_Some}
use Rattle.slab.specs.Slab.{get}
use Rattle.slab.proofs.SlabLemmas.{Updates-with_value}
use Rattle.tower_time.proofs.timers.state.State.fire.Goals as goal

pub invariant_of-self-in-Some : goal.invariant_of-self-in-Some
invariant_of-self-in-Some c =
    let before = c.args.self.now in
    let fired = c.in_ok-key.key in
    let read : get before.wakers fired ≡ Some c.in-Some.slot.now = sym c.in-Some.ensures.value in
    let updates = Updates-with_value before.wakers fired c.take.new.self (subst IsSome (sym read) refl) in
    let disarmed = c.in_ok-key.ensures.disarmed in
    record {
      room = λ key present.
          elim (cases_eq key fired) [
            | inl same ↦ omega (arith, c.poll.ensures.limit, before.room fired (λ none. none-some _ (sym none ∙ read)))
            | inr other ↦ omega (arith, c.poll.ensures.limit, before.room key (λ none. present (updates.others key other ∙ none)))
          ];
      woken_when_fired = λ key slot found unarmed.
          elim (cases_eq key fired) [
            | inl same ↦ same_Some _ _ (sym (rw same at found) ∙ updates.changed) ∙ c.take.ensures.after
            | inr other ↦ before.woken_when_fired key slot (sym (updates.others key other) ∙ found) (sym (disarmed.others key other) ∙ unarmed)
          ];
      in_time = λ key when armed.
          elim (cases_eq key fired) [
            | inl same ↦ absurd (none-some when (sym disarmed.changed ∙ rw same at armed))
            | inr other ↦ before.in_time key when (sym (disarmed.others key other) ∙ armed)
          ];
    }
