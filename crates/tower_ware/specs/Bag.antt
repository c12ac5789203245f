-- The queue of an unordered stream: the futures in the order of their calls, without those that were ready.
use Rattle.std.specs.Prelude.{◌≡◌, All, List, [], ◌∷◌, Option, Some, None}
use Rattle.futures.specs.declared.task.Poll.{Poll}
use Rattle.futures.specs.declared.task.Poll.TheVariants.{Ready, Pending}
use Rattle.tower_base.specs.declared.service.Steps.{Ghosts as StepsOf}
use Rattle.tower_ware.specs.Queue.{Queue, Empty, Grown, HasRoom, Pushed, SomeCall}
use Rattle.tower_ware.specs.declared.util.call_all.call_queue.CallQueue.{Ghosts as CallQueueOf}

-- the answer of a queue of these futures, from that of the first that is ready, if one is
abbrev pub answer_of : {F T : Type 0} → List F → Option T → Poll (Option T)
answer_of fs (Some x) = Ready (Some x)
answer_of [] None = Ready None
answer_of (f ∷ fs) None = Pending

-- `Answers` holds of the answer if the future is ready, and `Waits` holds if it is pending.
abbrev pub Comes : {T : Type 0} → (T → Type 0) → Type 0 → Poll T → Type 0
Comes Answers Waits (Ready x) = Answers x
Comes Answers Waits Pending = Waits

module _ {F T : Type 0} (f : StepsOf F T) where
  -- The futures are polled one after another, up to the first that is ready, which is removed.
  abbrev pub EachPolled : List F → Option T → List F → Type 0
  EachPolled [] answer new = (answer ≡ None) × (new ≡ [])
  EachPolled (old ∷ rest) answer new = (inner : Poll T) × (left : F) × f.stepped old inner left
      × Comes (λ x. (answer ≡ Some x) × (new ≡ rest)) ((others : List F) × EachPolled rest answer others × (new ≡ left ∷ others)) inner

  -- a poll of the queue of an unordered stream
  abbrev pub BagPolled : Queue F → Poll (Option T) → Queue F → Type 0
  BagPolled old answer new =
      (first : Option T) × EachPolled old.calls first new.calls × (answer ≡ answer_of old.calls first) × (new.room ≡ old.room)

-- why a poll of such a queue may ask for another: the causes of one of its futures
abbrev pub BagStirs : {F : Type 0} → (F → F → Type 0) → List F → Type 0
BagStirs {F} stirs = SomeCall (λ future. (left : F) × stirs future left)

-- the relations of a `Bag` of such futures
abbrev pub bag : {F T : Type 0} → StepsOf F T → (F → Type 0) → CallQueueOf (Queue F) T F
bag f can_poll = record {
  sound = λ q. All can_poll q.calls;
  has_room = HasRoom;
  empty = Empty;
  polled = BagPolled f;
  grown = Grown;
  pushed = Pushed (λ future. future);
  stirs = λ q. BagStirs f.stirs q.calls;
}
