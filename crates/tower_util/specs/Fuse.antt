-- The machine of `Fuse`: the future itself, and nothing once it has returned its output.
use Rattle.std.specs.Prelude.{◌≡◌, ℕ, Option, Some, None}
use Rattle.futures.specs.declared.task.Poll.{Poll}
use Rattle.futures.specs.declared.task.Poll.TheVariants.{Ready, Pending}

-- A `Fuse` may be polled if its future may be, and hasn't returned its output.
abbrev pub CanPoll : {F : Type 0} → (F → Type 0) → Option F → Type 0
CanPoll can_poll (Some f) = can_poll f
CanPoll can_poll None = ⊥

-- what a `Fuse` waits for
abbrev pub needs_of : {F : Type 0} → (F → ℕ → Type 0) → Option F → ℕ → Type 0
needs_of needs (Some f) source = needs f source
needs_of needs None source = ⊥

module _ {F A : Type 0} (stepped : F → Poll A → F → Type 0) where
  -- A poll polls the future, which is dropped if it returns its output.
  abbrev pub Stepped : Option F → Poll A → Option F → Type 0
  Stepped (Some old) answer new = (left : F) × stepped old answer left × (new ≡ elim answer [ Ready x ↦ None | Pending ↦ Some left ])
  Stepped None answer new = ⊥

-- Why a poll of a `Fuse` may ask for another: the future's causes, be the future kept or dropped with its output.
abbrev pub Stirs : {F : Type 0} → (F → F → Type 0) → Option F → Option F → Type 0
Stirs stirs (Some old) (Some new) = stirs old new
Stirs {F = F} stirs (Some old) None = (left : F) × stirs old left
Stirs stirs None new = ⊥
