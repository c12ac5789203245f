-- After each run of a stack with a limit inside, the responses of its kept futures hold permits.
use Rattle.std.proofs.Common.{◌≡◌, ◌+◌, ℕ, zero, suc, List, [], ◌∷◌, ◌++◌, Option, None, Some, Result, All, is_some, cond, slice_get, unwrap_or, zero-add, sym, subst, ap, ◌∙◌}
use Rattle.std.proofs.lemmas.List.Elements.{All-append, All-cons, All-head, All-nil, All-set, All-tail}
use Rattle.std.proofs.lemmas.List.Sums.{sum_by-append}
use Rattle.futures.specs.declared.task.Poll.{Poll}
use Rattle.futures.specs.declared.task.Poll.TheVariants.{Ready, Pending}
use Rattle.tower_base.specs.Drive.{State, Step, Run, Polls, slot_after, initial}
use Rattle.tower_base.specs.ServiceRun.{relations}
use Rattle.tower_base.specs.declared.drive.Entry.{Entry}
use Rattle.tower_base.specs.declared.drive.Entry.TheVariants.{Polled, Called, Answered, Dropped as DroppedEntry, Turned, Skipped}
use Rattle.tower_base.specs.declared.drive.Event.{Event}
use Rattle.tower_base.specs.declared.drive.Event.TheVariants.{Poll as PollEvent, Call, Future, Drop, Turn}
use Rattle.tower_base.specs.declared.drive.Slot.{Slot}
use Rattle.tower_base.specs.declared.drive.Slot.TheVariants.{Live, Dropped}
use Rattle.tower_base.specs.declared.service.Service.{Ghosts as ServiceOf}
use Rattle.tower_latch.specs.declared.Latch.{Ghosts as LatchOf}
use Rattle.tower_laws.proofs.ConcurrencyLimitLemmas.{all_before, all_last}
use Rattle.tower_laws.specs.ConcurrencyLimit.{Holds}
use Rattle.tower_laws.specs.Limited.{AllHold, HoldsInside, KeepsLimit, RunsHold, living, response_in}
use Rattle.tower_limit.specs.Concurrency.{ResponseFutureView, SemaphoreView}
use Rattle.tower_limit.specs.declared.limit.concurrency.line_core.LineCore.{LineCore}
use Rattle.tower_limit.specs.declared.limit.concurrency.line_core.LineStep.{LineStep}
use Rattle.tower_limit.specs.declared.limit.concurrency.line_core.LineReply.{LineReply}

-- what holds of all holds of the one at a place
pub all_at : {X : Type 0} (P : X → Type 0) (xs : List X) (i : ℕ) (x : X) → slice_get xs i ≡ Some x → All P xs → P x
all_at P [] i x is all = absurd (cc)
all_at P (y ∷ xs) zero x is all = subst P (ap (λ o. unwrap_or o x) is) (All-head P y xs all)
all_at P (y ∷ xs) (suc i) x is all = all_at P xs i x is (All-tail P y xs all)

module _ {L : Type 0} (l : LatchOf L LineCore LineStep LineReply ℕ) {S Q A E F G T U O : Type 0} (s : ServiceOf S Q A E F)
    (stepped : F → Poll (Result A E) → F → Type 0) (turned : O → T → U → O → Type 0) (over : SemaphoreView L → S → Type 0)
    (inside : F → Option (ResponseFutureView G L)) (keeps : KeepsLimit l (relations s) stepped over inside) (semaphore : SemaphoreView L) where
  abbrev SlotHolds : Slot F → Type 0
  SlotHolds slot = HoldsInside l semaphore (response_in inside slot)

  record Holding (state : State S F O) : Type 0 where
    service : over semaphore state.service
    futures : All SlotHolds state.futures

  after_poll : (left : F) (answer : Poll (Result A E)) → HoldsInside l semaphore (inside left) → SlotHolds (slot_after left answer)
  after_poll left (Ready x) held = held
  after_poll left Pending held = held

  polled : (old new : List (Slot F)) (index : ℕ) (answer : Poll (Result A E)) → Polls stepped old index answer new → All SlotHolds old → All SlotHolds new
  polled old new index answer h held =
      let here = keeps.steps semaphore h.future answer h.left h.step (all_at SlotHolds old index (Live h.future) h.live held) in
      subst (All SlotHolds) (sym h.after) (All-set SlotHolds old index (slot_after h.left answer) (after_poll h.left answer here) held)

  step : (old : State S F O) (event : Event Q T) (entry : Entry A E U) (new : State S F O) → Step s stepped turned old event entry new → Holding old → Holding new
  step old PollEvent (Polled answer) new h held =
      subst Holding (sym h.1) (record { service = keeps.polls semaphore old.service answer new.service h.0 held.service; futures = held.futures })
  step old (Call request) (Called index) new h held =
      let made = keeps.calls semaphore old.service request h.future new.service h.called held.service in
      subst Holding (sym h.after) (record {
        service = made.1;
        futures = All-append SlotHolds old.futures (Live h.future ∷ []) held.futures (All-cons SlotHolds (Live h.future) [] made.0 (All-nil SlotHolds));
      })
  step old (Call request) Skipped new h held = subst Holding (sym h.1) held
  step old (Future index) (Answered place answer) new h held =
      subst Holding (sym h.2) (record { service = held.service; futures = polled old.futures new.futures index answer h.1 held.futures })
  step old (Future index) Skipped new h held = subst Holding (sym h.1) held
  step old (Drop index) (DroppedEntry place) new h held =
      subst Holding (sym h.2) (record { service = held.service; futures = All-set SlotHolds old.futures index Dropped tt held.futures })
  step old (Drop index) Skipped new h held = subst Holding (sym h.1) held
  step old (Turn t) (Turned u) new h held = subst Holding (sym h.1) (record { service = held.service; futures = held.futures })
  step old event entry new h held = absurd h

  runs : (old new : State S F O) (events : List (Event Q T)) (entries : List (Entry A E U)) → Run s stepped turned old events entries new → Holding old → Holding new
  runs old new [] [] h held = subst Holding (sym h) held
  runs old new (event ∷ events) (entry ∷ entries) h held = runs h.0 new events entries h.2 (step old event entry h.0 h.1 held)
  runs old new [] (entry ∷ entries) h held = absurd h
  runs old new (event ∷ events) [] h held = absurd h

  pub held_after : (service : S) (outside : O) (events : List (Event Q T)) (entries : List (Entry A E U)) (last : State S F O) → over semaphore service
      → Run s stepped turned (initial service outside) events entries last → AllHold l inside semaphore last.futures
  held_after service outside events entries last here run =
      (runs (initial service outside) last events entries run (record { service = here; futures = All-nil SlotHolds })).futures

module _ {L : Type 0} (l : LatchOf L LineCore LineStep LineReply ℕ) {S Q A E F G T U O : Type 0} (s : ServiceOf S Q A E F)
    (stepped : F → Poll (Result A E) → F → Type 0) (turned : O → T → U → O → Type 0) (over : SemaphoreView L → S → Type 0)
    (inside : F → Option (ResponseFutureView G L)) (keeps : KeepsLimit l (relations s) stepped over inside) where
  pub runs_hold : RunsHold l s stepped turned over inside
  runs_hold semaphore = held_after l s stepped turned over inside keeps semaphore

-- Once the last slot is taken, and its response goes to the others.
module _ {L F G : Type 0} (l : LatchOf L LineCore LineStep LineReply ℕ) (inside : F → Option (ResponseFutureView G L)) (semaphore : SemaphoreView L)
    (slots rest : List (Slot F)) (slot : Slot F) (is : slots ≡ rest ++ slot ∷ []) (got : Option (ResponseFutureView G L)) (taken : got ≡ response_in inside slot) where
  abbrev Here : Slot F → Type 0
  Here s = HoldsInside l semaphore (response_in inside s)

  pub kept_rest : AllHold l inside semaphore slots → AllHold l inside semaphore rest
  kept_rest kept = all_before Here rest slot (subst (All Here) is kept)

  pub held_more : (response : ResponseFutureView G L) (responses more : List (ResponseFutureView G L)) → got ≡ Some response → more ≡ responses ++ response ∷ []
      → AllHold l inside semaphore slots → All (Holds l semaphore) responses → All (Holds l semaphore) more
  held_more response responses more some last kept held =
      let here = all_last Here rest slot (subst (All Here) is kept) in
      let its : Holds l semaphore response = subst (HoldsInside l semaphore) (sym taken ∙ some) here in
      subst (All (Holds l semaphore)) (sym last)
      (All-append (Holds l semaphore) responses (response ∷ []) held (All-cons (Holds l semaphore) response [] its (All-nil (Holds l semaphore))))

  counted : living inside slots ≡ living inside rest + cond (is_some got) 1 0
  counted = ap (living inside) is ∙ sum_by-append (λ s. cond (is_some (response_in inside s)) 1 0) rest (slot ∷ [])
      ∙ ap (λ n. living inside rest + n) (zero-add (cond (is_some (response_in inside slot)) 1 0)) ∙ ap (λ o. living inside rest + cond (is_some o) 1 0) (sym taken)

  pub living_taken : (response : ResponseFutureView G L) → got ≡ Some response → living inside slots ≡ living inside rest + 1
  living_taken response some = counted ∙ ap (λ o. living inside rest + cond (is_some o) 1 0) some

  pub living_none : got ≡ None → living inside slots ≡ living inside rest + 0
  living_none none = counted ∙ ap (λ o. living inside rest + cond (is_some o) 1 0) none
