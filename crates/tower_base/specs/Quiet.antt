-- Polls that ask for another poll only for a cause.
use Rattle.std.specs.Prelude.{◌≡◌, ◌⊎◌, true}
use Rattle.futures.specs.declared.task.context.Context.{Context}

-- From one context to the other, the poll asked for another poll only for this cause.
abbrev pub Quiet : Type 0 → Context → Context → Type 0
Quiet cause old new = new.is_woken ≡ true → (old.is_woken ≡ true) ⊎ cause

-- Some poll of such a party may ask for another poll.
unfoldable pub Ever : {T : Type 0} → (T → T → Type 0) → Type 0
Ever {T} stirs = (old new : T) × stirs old new
