-- The queue of an ordered stream: the futures in the order of their calls, each replaced by its answer once it is ready.
use Rattle.std.specs.Prelude.{⊤, ◌≡◌, All, List, [], ◌∷◌, Option, Some, None}
use Rattle.futures.specs.declared.task.Poll.{Poll}
use Rattle.futures.specs.declared.task.Poll.TheVariants.{Ready, Pending}
use Rattle.tower_base.specs.declared.service.Steps.{Ghosts as StepsOf}
use Rattle.tower_ware.specs.Queue.{Queue, Empty, Grown, HasRoom, Pushed, SomeCall}
use Rattle.tower_ware.specs.declared.util.call_all.call_queue.CallQueue.{Ghosts as CallQueueOf}
use Rattle.tower_ware.specs.declared.util.call_all.slot.Slot.{Slot}
use Rattle.tower_ware.specs.declared.util.call_all.slot.Slot.TheVariants.{Waiting, Answered}

-- The future may be polled, unless its answer is there.
abbrev pub MayAsk : {F T : Type 0} → (F → Type 0) → Slot F T → Type 0
MayAsk can_poll (Waiting f) = can_poll f
MayAsk can_poll (Answered x) = ⊤

-- The condition holds, unless the answer is there.
abbrev pub OnWaiting : {F T : Type 0} → Slot F T → Type 0 → Type 0
OnWaiting (Waiting f) p = p
OnWaiting (Answered x) p = ⊤

module _ {F T : Type 0} (f : StepsOf F T) where
  -- A future without an answer is polled once. An answer stays as it is.
  abbrev pub SlotPolled : Slot F T → Slot F T → Type 0
  SlotPolled (Waiting old) (Waiting new) = f.stepped old Pending new
  SlotPolled (Waiting old) (Answered x) = (left : F) × f.stepped old (Ready x) left
  SlotPolled (Answered x) (Answered y) = y ≡ x
  SlotPolled (Answered x) (Waiting new) = ⊥

  -- The same for each slot, in call order.
  abbrev pub EachPolled : List (Slot F T) → List (Slot F T) → Type 0
  EachPolled [] new = new ≡ []
  EachPolled (old ∷ rest) new =
      (asked : Slot F T) × SlotPolled old asked × ((others : List (Slot F T)) × EachPolled rest others × (new ≡ asked ∷ others))

  -- The front stays as it is, and the others are polled.
  abbrev pub OthersPolled : List (Slot F T) → List (Slot F T) → Type 0
  OthersPolled [] new = new ≡ []
  OthersPolled (front ∷ rest) new = (others : List (Slot F T)) × EachPolled rest others × (new ≡ front ∷ others)

  -- what follows a poll of the front
  abbrev pub AfterFront : F → List (Slot F T) → Poll T → Poll (Option T) → List (Slot F T) → Type 0
  AfterFront front rest (Ready x) answer new = (answer ≡ Ready (Some x)) × (new ≡ rest)
  AfterFront front rest Pending answer new = (answer ≡ Pending)
      × ((others : List (Slot F T)) × EachPolled rest others × (new ≡ Waiting front ∷ others))

  -- The front's answer is returned. If the front is pending, each other future without an answer is polled once.
  abbrev pub SlotsAsked : List (Slot F T) → Poll (Option T) → List (Slot F T) → Type 0
  SlotsAsked [] answer new = (answer ≡ Ready None) × (new ≡ [])
  SlotsAsked (Answered x ∷ rest) answer new = (answer ≡ Ready (Some x)) × (new ≡ rest)
  SlotsAsked (Waiting old ∷ rest) answer new = (inner : Poll T) × (front : F) × f.stepped old inner front × AfterFront front rest inner answer new

  -- a poll of the queue of an ordered stream
  abbrev pub LinePolled : Queue (Slot F T) → Poll (Option T) → Queue (Slot F T) → Type 0
  LinePolled old answer new = SlotsAsked old.calls answer new.calls × (new.room ≡ old.room)

-- why a poll of a call may ask for another: the causes of its future, unless its answer is there
abbrev pub SlotStirs : {F T : Type 0} → (F → F → Type 0) → Slot F T → Type 0
SlotStirs {F} stirs (Waiting future) = (left : F) × stirs future left
SlotStirs stirs (Answered x) = ⊥

-- why a poll of such a queue may: the causes of one of its calls
abbrev pub LineStirs : {F T : Type 0} → (F → F → Type 0) → List (Slot F T) → Type 0
LineStirs stirs = SomeCall (SlotStirs stirs)

-- the relations of a `Line` of such futures
abbrev pub line : {F T : Type 0} → StepsOf F T → (F → Type 0) → CallQueueOf (Queue (Slot F T)) T F
line f can_poll = record {
  sound = λ q. All (MayAsk can_poll) q.calls;
  has_room = HasRoom;
  empty = Empty;
  polled = LinePolled f;
  grown = Grown;
  pushed = Pushed Waiting;
  stirs = λ q. LineStirs f.stirs q.calls;
}
