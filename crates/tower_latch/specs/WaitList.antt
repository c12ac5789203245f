-- Those who wait for a turn, as a plain list of keys.
use Rattle.std.specs.Prelude.{◌≡◌, ◌⊎◌, ◌<◌, ◌≤◌, ◌+◌, ◌-◌, ℕ, Bool, true, false, List, [], ◌∷◌, ◌++◌, length, slice_get, remove, Some, Result, Ok, Err}
use Rattle.std.specs.declared.alloc.AllocError.{AllocError}
use Rattle.tower_base.specs.Order.{has}
use Rattle.tower_latch.specs.declared.wait_queue.WaitState.{WaitState}
use Rattle.tower_latch.specs.declared.wait_queue.WaitState.TheVariants.{Granted, Waiting, Unknown}

-- The keys that wait, in the order of asking. The first `granted` of them are granted, and haven't seen their grant.
pub record WaitList : Type 0 where
  pub keys : List ℕ
  pub granted : ℕ

-- Nobody waits.
abbrev pub empty : WaitList
empty = record { keys = []; granted = 0 }

-- This key stands at this place.
abbrev pub At : WaitList → ℕ → ℕ → Type 0
At queue place key = slice_get queue.keys place ≡ Some key

-- The asker waits behind all others, under a key that nobody has. If allocation fails, nothing changes.
abbrev pub Enters : WaitList → Result ℕ AllocError → WaitList → Type 0
Enters old (Ok key) new = (has old.keys key ≡ false) × (new ≡ record old { keys = old.keys ++ key ∷ [] })
Enters old (Err error) new = new ≡ old

-- The first key without a grant is granted, if there is one.
abbrev pub Admits : WaitList → WaitList → Type 0
Admits old new = ((old.granted ≡ length old.keys) × (new ≡ old))
    ⊎ ((old.granted < length old.keys) × (new ≡ record old { granted = old.granted + 1 }))

-- A granted key ends when its grant is seen.
abbrev pub Looks : WaitList → ℕ → WaitState → WaitList → Type 0
Looks old key Granted new = (place : ℕ) × At old place key × (place < old.granted) × (new ≡ record { keys = remove old.keys place; granted = old.granted - 1 })
Looks old key Waiting new = (place : ℕ) × At old place key × (old.granted ≤ place) × (new ≡ old)
Looks old key Unknown new = (has old.keys key ≡ false) × (new ≡ old)

-- A key leaves, granted or not. If it had a grant, the grant goes to the next key without one.
abbrev pub Leaves : WaitList → ℕ → Bool → WaitList → Type 0
Leaves old key true new = (place : ℕ) × At old place key
    × (((old.granted ≤ place) × (new ≡ record old { keys = remove old.keys place }))
    ⊎ ((place < old.granted) × Admits (record { keys = remove old.keys place; granted = old.granted - 1 }) new))
Leaves old key false new = (has old.keys key ≡ false) × (new ≡ old)
