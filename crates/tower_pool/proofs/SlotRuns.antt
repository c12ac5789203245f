-- Where a service that comes back came from.
use Rattle.std.specs.Prelude.{◌≡◌, ◌⊎◌, List, [], ◌∷◌}
use Rattle.std.proofs.Common.{ap, inl, inr, ⊎_elim}
use Rattle.tower_latch.specs.Latch.{Serves}
use Rattle.tower_pool.specs.Slot.{SlotSteps}
use Rattle.tower_pool.specs.SlotLaws.{ComesFromATask, GiveNone, GivesNone, PutBefore}
use Rattle.tower_pool.specs.declared.spawn_ready.slot_core.Slot.{Slot}
use Rattle.tower_pool.specs.declared.spawn_ready.slot_core.Slot.TheVariants.{Idle, Running, Holds, Failed, Ended, Aborted}
use Rattle.tower_pool.specs.declared.spawn_ready.slot_core.SlotStep.{SlotStep}
use Rattle.tower_pool.specs.declared.spawn_ready.slot_core.SlotStep.TheVariants.{Start, Put, PutError, Abort, TaskGone, Look, Aborted as IsAborted}
use Rattle.tower_pool.specs.declared.spawn_ready.slot_core.SlotReply.{SlotReply}
use Rattle.tower_pool.specs.declared.spawn_ready.slot_core.SlotReply.TheVariants.{Done, Service}

module _ {S E : Type 0} where
  -- a slot that holds the service was handed it by this step, or held it before, and the step gave none
  came : (old new : Slot S E) (step : SlotStep S E) (reply : SlotReply S E) (service : S) → SlotSteps old step reply new → new ≡ Holds service
      → ((step ≡ Put service) × (reply ≡ Done)) ⊎ ((old ≡ Holds service) × GivesNone reply)
  came Idle new Start reply service h e = absurd (let n = ap (λ p. p.1) h in cc)
  came Idle new (Put other) reply service h e = absurd (let n = ap (λ p. p.1) h in cc)
  came Idle new (PutError other) reply service h e = absurd (let n = ap (λ p. p.1) h in cc)
  came Idle new Abort reply service h e = absurd (let n = ap (λ p. p.1) h in cc)
  came Idle new TaskGone reply service h e = absurd (let n = ap (λ p. p.1) h in cc)
  came Idle new IsAborted reply service h e = absurd (let n = ap (λ p. p.1) h in cc)
  came Idle new Look reply service h e = absurd (let n = ap (λ p. p.1) h in cc)
  came Running new Start reply service h e = absurd (let n = ap (λ p. p.1) h in cc)
  came Running new (Put other) reply service h e = inl (let n = ap (λ p. p.1) h in cc, ap (λ p. p.0) h)
  came Running new (PutError other) reply service h e = absurd (let n = ap (λ p. p.1) h in cc)
  came Running new Abort reply service h e = absurd (let n = ap (λ p. p.1) h in cc)
  came Running new TaskGone reply service h e = absurd (let n = ap (λ p. p.1) h in cc)
  came Running new IsAborted reply service h e = absurd (let n = ap (λ p. p.1) h in cc)
  came Running new Look reply service h e = absurd (let n = ap (λ p. p.1) h in cc)
  came (Holds held) new Start reply service h e = inr (let n = ap (λ p. p.1) h in cc, rw (ap (λ p. p.0) h) tt)
  came (Holds held) new (Put other) reply service h e = inr (let n = ap (λ p. p.1) h in cc, rw (ap (λ p. p.0) h) tt)
  came (Holds held) new (PutError other) reply service h e = inr (let n = ap (λ p. p.1) h in cc, rw (ap (λ p. p.0) h) tt)
  came (Holds held) new Abort reply service h e = absurd (let n = ap (λ p. p.1) h in cc)
  came (Holds held) new TaskGone reply service h e = inr (let n = ap (λ p. p.1) h in cc, rw (ap (λ p. p.0) h) tt)
  came (Holds held) new IsAborted reply service h e = inr (let n = ap (λ p. p.1) h in cc, rw (ap (λ p. p.0) h) tt)
  came (Holds held) new Look reply service h e = absurd (let n = ap (λ p. p.1) h in cc)
  came (Failed error) new Start reply service h e = absurd (let n = ap (λ p. p.1) h in cc)
  came (Failed error) new (Put other) reply service h e = absurd (let n = ap (λ p. p.1) h in cc)
  came (Failed error) new (PutError other) reply service h e = absurd (let n = ap (λ p. p.1) h in cc)
  came (Failed error) new Abort reply service h e = absurd (let n = ap (λ p. p.1) h in cc)
  came (Failed error) new TaskGone reply service h e = absurd (let n = ap (λ p. p.1) h in cc)
  came (Failed error) new IsAborted reply service h e = absurd (let n = ap (λ p. p.1) h in cc)
  came (Failed error) new Look reply service h e = absurd (let n = ap (λ p. p.1) h in cc)
  came Ended new Start reply service h e = absurd (let n = ap (λ p. p.1) h in cc)
  came Ended new (Put other) reply service h e = absurd (let n = ap (λ p. p.1) h in cc)
  came Ended new (PutError other) reply service h e = absurd (let n = ap (λ p. p.1) h in cc)
  came Ended new Abort reply service h e = absurd (let n = ap (λ p. p.1) h in cc)
  came Ended new TaskGone reply service h e = absurd (let n = ap (λ p. p.1) h in cc)
  came Ended new IsAborted reply service h e = absurd (let n = ap (λ p. p.1) h in cc)
  came Ended new Look reply service h e = absurd (let n = ap (λ p. p.1) h in cc)
  came Aborted new Start reply service h e = absurd (let n = ap (λ p. p.1) h in cc)
  came Aborted new (Put other) reply service h e = absurd (let n = ap (λ p. p.1) h in cc)
  came Aborted new (PutError other) reply service h e = absurd (let n = ap (λ p. p.1) h in cc)
  came Aborted new Abort reply service h e = absurd (let n = ap (λ p. p.1) h in cc)
  came Aborted new TaskGone reply service h e = absurd (let n = ap (λ p. p.1) h in cc)
  came Aborted new IsAborted reply service h e = absurd (let n = ap (λ p. p.1) h in cc)
  came Aborted new Look reply service h e = absurd (let n = ap (λ p. p.1) h in cc)

  goes : (old new : Slot S E) (served : List (SlotStep S E × SlotReply S E)) (service : S) → Serves SlotSteps old served new → new ≡ Holds service
      → PutBefore service served ⊎ ((old ≡ Holds service) × GiveNone served)
  goes old new [] service s e = inr (let n = s in cc, tt)
  goes old new (turn ∷ rest) service s e = ⊎_elim (λ before. inl (inr before))
      (λ since. ⊎_elim (λ put. inl (inl (put.0, put.1, since.1))) (λ held. inr (held.0, (held.1, since.1))) (came old s.0 turn.0 turn.1 service s.1 since.0))
      (goes s.0 new rest service s.2 e)

  holds : (last after : Slot S E) (service : S) → SlotSteps last Look (Service service) after → last ≡ Holds service
  holds Idle after service h = absurd (let r = ap (λ p. p.0) h in cc)
  holds Running after service h = absurd (let r = ap (λ p. p.0) h in cc)
  holds (Holds held) after service h = let r = ap (λ p. p.0) h in cc
  holds (Failed error) after service h = absurd (let r = ap (λ p. p.0) h in cc)
  holds Ended after service h = absurd (let r = ap (λ p. p.0) h in cc)
  holds Aborted after service h = absurd (let r = ap (λ p. p.0) h in cc)

pub comes_from_a_task : (S E : Type 0) → ComesFromATask S E
comes_from_a_task S E served last after service s h =
    ⊎_elim (λ before. before) (λ since. absurd (let e = since.0 in cc)) (goes Idle last served service s (holds last after service h))
