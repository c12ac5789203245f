-- The machines of `ReadyOneshot` and `Ready`: they poll readiness, and return the service once it is ready.
use Rattle.std.specs.Borrow.{MutBor}
use Rattle.std.specs.Prelude.{◌≡◌, ℕ, Option, Some, None, Result, Ok, Err, IfOk, IsSomeAnd}
use Rattle.futures.specs.declared.task.Poll.{Poll}
use Rattle.futures.specs.declared.task.Poll.TheVariants.{Ready, Pending}
use Rattle.futures.specs.Task.{Covers, Keeps}
use Rattle.futures.specs.declared.task.context.Context.{Context}
use Rattle.tower_base.specs.Gives.{MayGive}
use Rattle.tower_util.specs.Fuse.{needs_of}

module _ {S E : Type 0} (sound ready : S → Type 0) (polled : S → Poll (Result (Unit {0}) E) → S → Type 0) where
  -- The poll of readiness returned this, and left the service so. A service that is ready is returned, and an error is passed on.
  abbrev pub ReadinessPolled : S → Poll (Result (Unit {0}) E) → Poll (Result S E) → Option S → Type 0
  ReadinessPolled left Pending answer new = (answer ≡ Pending) × (new ≡ Some left)
  ReadinessPolled left (Ready (Err e)) answer new = (answer ≡ Ready (Err e)) × (new ≡ Some left)
  ReadinessPolled left (Ready (Ok x)) answer new = sound left × ready left × (answer ≡ Ready (Ok left)) × (new ≡ None)

  -- A poll polls readiness once.
  abbrev pub ReadyOneshotStepped : Option S → Poll (Result S E) → Option S → Type 0
  ReadyOneshotStepped (Some old) answer new = (inner : Poll (Result (Unit {0}) E)) × (left : S) × polled old inner left × ReadinessPolled left inner answer new
  ReadyOneshotStepped None answer new = ⊥

  -- A poll of a borrowed service polls readiness once. If the service is ready, the same borrow is returned; otherwise it is kept.
  abbrev pub ReadyStepped : Option (MutBor S) → Poll (Result (MutBor S) E) → Option (MutBor S) → Type 0
  ReadyStepped (Some old) Pending (Some new) = polled old.now Pending new.now × sound new.now × (new.ghost_name ≡ old.ghost_name)
  ReadyStepped (Some old) (Ready (Err e)) (Some new) = polled old.now (Ready (Err e)) new.now × sound new.now × (new.ghost_name ≡ old.ghost_name)
  ReadyStepped (Some old) (Ready (Ok back)) None = polled old.now (Ready (Ok tt)) back.now × sound back.now × ready back.now × (back.ghost_name ≡ old.ghost_name)
  ReadyStepped _ _ _ = ⊥

module _ {S E : Type 0} (sound ready : S → Type 0) where
  -- If the output returns the service, the service is sound and ready.
  abbrev pub GivesBack : Result S E → Type 0
  GivesBack out = IfOk out (λ back. sound back × ready back)

  -- If the output returns a borrow, it is the same one, and its service is sound and ready.
  abbrev pub HandsBack : Option (MutBor S) → Result (MutBor S) E → Type 0
  HandsBack old out = IfOk out (λ back. sound back.now × ready back.now × IsSomeAnd old (λ lent. back.ghost_name ≡ lent.ghost_name))

module _ {S E : Type 0} (sound ready : S → Type 0) (polled : S → Poll (Result (Unit {0}) E) → S → Type 0) where
  -- What a `ReadyOneshot` may give: an output of its steps. A service that is returned is sound and ready.
  abbrev pub MayGiveBack : Option S → Result S E → Type 0
  MayGiveBack old out = MayGive (ReadyOneshotStepped sound ready polled) old out × GivesBack sound ready out

  module _ (needs : S → ℕ → Type 0) where
    -- Everything that a poll of a `ReadyOneshot` ensures: `IsStep`, and what is known of a returned service.
    abbrev pub IsReadyOneshotStep : Option S → Poll (Result S E) → Option S → Context → Context → Type 0
    IsReadyOneshotStep old (Ready out) new before after = ReadyOneshotStepped sound ready polled old (Ready out) new × MayGiveBack old out × Keeps before after
    IsReadyOneshotStep old Pending new before after = ReadyOneshotStepped sound ready polled old Pending new × IsSomeAnd new sound
        × ((out : Result S E) → MayGiveBack new out → MayGiveBack old out) × Covers after (needs_of needs new) × Keeps before after

-- Why a poll of a `ReadyOneshot` or of a `Ready` may ask for another: the causes of the service, be it kept or returned.
abbrev pub ReadyOneshotStirs : {S : Type 0} → (S → S → Type 0) → Option S → Option S → Type 0
ReadyOneshotStirs stirs (Some old) (Some new) = stirs old new
ReadyOneshotStirs {S = S} stirs (Some old) None = (left : S) × stirs old left
ReadyOneshotStirs stirs None new = ⊥

abbrev pub ReadyStirs : {S : Type 0} → (S → S → Type 0) → Option (MutBor S) → Option (MutBor S) → Type 0
ReadyStirs stirs (Some old) (Some new) = stirs old.now new.now
ReadyStirs {S = S} stirs (Some old) None = (left : S) × stirs old.now left
ReadyStirs stirs None new = ⊥
