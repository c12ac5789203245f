-- Waiting on the calling thread: polls, one after another, until one is ready, and a call with its response.
use Rattle.std.specs.Prelude.{◌≡◌, ℕ, zero, suc, ◌⊎◌, List, [], ◌∷◌, Result, Ok, Err}
use Rattle.futures.specs.declared.task.Poll.{Poll}
use Rattle.futures.specs.declared.task.Poll.TheVariants.{Ready, Pending}
use Rattle.tower_base.specs.Gives.{MayGive}
use Rattle.tower_base.specs.declared.service.Service.{Ghosts as ServiceOf}

module _ {S A : Type 0} (polled : S → Poll A → S → Type 0) where
  -- The given number of pending polls leads from `old` to `new`.
  abbrev pub Pends : ℕ → S → S → Type 0
  Pends zero old new = new ≡ old
  Pends (suc n) old new = (mid : S) × Pends n old mid × polled mid Pending new

  -- some number of pending polls
  unfoldable pub Pended : S → S → Type 0
  Pended old new = (n : ℕ) × Pends n old new

module _ {S Q A E F : Type 0} (s : ServiceOf S Q A E F) where
  -- some number of pending polls of readiness, and then one that is ready
  pub record Waited (old : S) (answer : Result (Unit {0}) E) (new : S) : Type 0 where
    pub last : S
    pub pended : Pended s.polled old last
    pub polled : s.polled last (Ready answer) new

module _ {S Q A E F : Type 0} (s : ServiceOf S Q A E F) (stepped : F → Poll (Result A E) → F → Type 0) where
  -- The service was waited for and called, and its future may give the answer.
  pub record Replied (old : S) (request : Q) (answer : Result A E) (new : S) : Type 0 where
    pub left : S
    pub future : F
    pub waited : Waited s old (Ok tt) left
    pub ready : s.ready left
    pub called : s.called left request future new
    pub gives : MayGive stepped future answer

  -- The service was waited for, and its readiness failed with an error, which is the answer.
  pub record Refused (old : S) (answer : Result A E) (new : S) : Type 0 where
    pub error : E
    pub waited : Waited s old (Err error) new
    pub answers : answer ≡ Err error

  abbrev pub Answered : S → Q → Result A E → S → Type 0
  Answered old request answer new = Replied old request answer new ⊎ Refused old answer new

module _ {S Q A E F C : Type 0} (s : ServiceOf S Q A E F) (stepped : F → Poll (Result A E) → F → Type 0)
    (told : C → Result A E → Unit {0} → C → Type 0) where
  -- The service was called with the requests, one after another, and each answer was passed to the closure before the next call.
  abbrev pub Each : List Q → S → C → S → C → Type 0
  Each [] old each new last = (new ≡ old) × (last ≡ each)
  Each (request ∷ requests) old each new last = (answer : Result A E) × (left : S) × (after : C)
      × Answered s stepped old request answer left × told each answer tt after × Each requests left after new last
