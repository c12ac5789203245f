-- What a future may give by its polls, what a stream may yield, and what a party may answer that is polled again and again.
use Rattle.std.specs.Prelude.{ℕ, suc, zero, List, [], ◌∷◌, Option, Some, None}
use Rattle.futures.specs.declared.task.Poll.{Poll}
use Rattle.futures.specs.declared.task.Poll.TheVariants.{Ready, Pending}
use Rattle.futures.specs.Poll.{IfReady, OnPending}
use Rattle.futures.specs.Runs.{After, Within}
use Rattle.futures.specs.Task.{Covers, Keeps}
use Rattle.futures.specs.declared.task.context.Context.{Context}

module _ {F A : Type 0} (stepped : F → Poll A → F → Type 0) where
  -- The given number of polls are pending, and the next one returns the output.
  abbrev pub GivesAfter : ℕ → F → A → Type 0
  GivesAfter zero f x = (g : F) × stepped f (Ready x) g
  GivesAfter (suc n) f x = (g : F) × stepped f Pending g × GivesAfter n g x

  -- Some number of polls are pending, and the next one returns the output.
  unfoldable pub MayGive : F → A → Type 0
  MayGive f x = (n : ℕ) × GivesAfter n f x

-- Everything that a poll of a future ensures if it is one step and the future may give what its steps say: that it is that step, and what
-- `Future` requires of a poll. (`can_poll` stands last because a product is flat. So it may be a product itself.)
module _ {F A : Type 0} (stepped : F → Poll A → F → Type 0) (can_poll : F → Type 0) (needs : F → ℕ → Type 0) where
  abbrev pub IsStep : F → Poll A → F → Context → Context → Type 0
  IsStep old (Ready x) new before after = stepped old (Ready x) new × MayGive stepped old x × Keeps before after
  IsStep old Pending new before after = stepped old Pending new × ((x : A) → MayGive stepped new x → MayGive stepped old x)
      × Covers after (needs new) × Keeps before after × can_poll new

-- A poll of a future of which only the outputs are known: it returns one of them, or it is pending and then gives no more outputs than before.
abbrev pub GivesOnly : {F A : Type 0} → (F → A → Type 0) → F → Poll A → F → Type 0
GivesOnly {A = A} gives f answer g = IfReady answer (gives f) × OnPending answer ((x : A) → gives g x → gives f x)

module _ {F A : Type 0} (flowed : F → Poll (Option A) → F → Type 0) where
  -- The given number of polls are pending, and the next one returns this. P holds for the value after it.
  abbrev pub NextAfter : ℕ → F → Option A → (F → Type 0) → Type 0
  NextAfter zero f o P = (g : F) × flowed f (Ready o) g × P g
  NextAfter (suc n) f o P = (g : F) × flowed f Pending g × NextAfter n g o P

  -- Some number of polls are pending before each of the items, which come in this order, and before the last answer.
  abbrev pub Yields : List A → Option A → F → Type 0
  Yields [] last f = (n : ℕ) × NextAfter n f last (λ g. Unit {0})
  Yields (x ∷ xs) last f = (n : ℕ) × NextAfter n f (Some x) (Yields xs last)

  unfoldable pub MayYield : F → List A → Option A → Type 0
  MayYield f xs last = Yields xs last f

-- The same for a poll of a stream, if it is one `flow` and the stream may yield what its flows say.
module _ {F A : Type 0} (flowed : F → Poll (Option A) → F → Type 0) (can_poll : F → Type 0) (needs : F → ℕ → Type 0) where
  abbrev pub IsFlow : F → Poll (Option A) → F → Context → Context → Type 0
  IsFlow old (Ready (Some x)) new before after = flowed old (Ready (Some x)) new × MayYield flowed old [] (Some x)
      × After (MayYield flowed old) x (MayYield flowed new) × Keeps before after × can_poll new
  IsFlow old (Ready None) new before after = flowed old (Ready None) new × MayYield flowed old [] None × Keeps before after
  IsFlow old Pending new before after = flowed old Pending new × Within (MayYield flowed old) (MayYield flowed new)
      × Covers after (needs new) × Keeps before after × can_poll new

module _ {D A : Type 0} (polled : D → A → D → Type 0) where
  -- The given number of polls have any answers, and the next one has this answer.
  abbrev pub AnswersAfter : ℕ → D → A → Type 0
  AnswersAfter zero d a = (e : D) × polled d a e
  AnswersAfter (suc n) d a = (other : A) × (e : D) × polled d other e × AnswersAfter n e a

  -- Some number of polls have any answers, and the next one has this answer.
  unfoldable pub MayAnswer : D → A → Type 0
  MayAnswer d a = (n : ℕ) × AnswersAfter n d a
