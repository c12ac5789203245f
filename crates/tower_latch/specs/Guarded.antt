-- The contents of the lock of a `Guarded`.
use Rattle.std.specs.Prelude.{◌≡◌, ◌⊎◌, ℕ, true, List, [], Option, None, Some, IsSomeAnd, cond, length, nat_lt, slice_get, slice_index_or, sum_by}
use Rattle.futures.specs.Task.{Wakes as WakesTask}
use Rattle.futures.specs.declared.task.context.Context.{Context}
use Rattle.atomic_table.specs.Seated.{TableId}
use Rattle.tower_latch.specs.Wakes.{IsNamed, IsSpared}
use Rattle.tower_latch.specs.declared.Wakes.{Wakes}
use Rattle.tower_latch.specs.declared.guarded.crowd.Waiter.{Waiter}

-- what contracts see of a `Guarded`: its number among the shares, the source at which tasks wait, the table that has the core, and the core's
-- terms
pub record GuardedView (T : Type 0) : Type 0 where
  pub share : ℕ
  pub source : ℕ
  pub table : TableId
  pub terms : T

-- those who wait at this key
abbrev pub at : List (List Waiter) → ℕ → List Waiter
at waiters key = slice_index_or waiters key []

-- the waiters that were taken out of a crowd: none if nobody waited
abbrev pub group : Option (List Waiter) → List Waiter
group None = []
group (Some waiters) = waiters

-- 1 if somebody waits there
abbrev pub some : List Waiter → ℕ
some crowd = cond (nat_lt 0 (length crowd)) 1 0

-- the number of keys at which somebody waits
abbrev pub crowded : List (List Waiter) → ℕ
crowded waiters = sum_by some waiters

-- The same wait at the same keys.
abbrev pub IsSame : List (List Waiter) → List (List Waiter) → Type 0
IsSame old new = (crowded new ≡ crowded old) × ((key : ℕ) → at new key ≡ at old key)

-- Nobody waits.
abbrev pub IsAlone : List (List Waiter) → Type 0
IsAlone waiters = (key : ℕ) → at waiters key ≡ []

-- Whoever waited still waits, or was taken out to be woken.
abbrev pub HandsOn : List (List Waiter) → List (List Waiter) → Option (List (List Waiter)) → Type 0
HandsOn old new woken = (key : ℕ) → (at new key ≡ at old key) ⊎ ((at new key ≡ []) × IsSomeAnd woken (λ crowds. (place : ℕ) × (at crowds place ≡ at old key)))

-- Whoever isn't named waits as before.
abbrev pub KeepsOthers : List (List Waiter) → Wakes → List (List Waiter) → Type 0
KeepsOthers old wakes new = (key : ℕ) → (at new key ≡ at old key) ⊎ IsNamed wakes key

-- No list is left at a key that is named, except one that is passed over, since it stalls. Whoever waited still waits, or was taken out to be
-- woken. Whoever isn't named waits as before.
abbrev pub Takes : (ℕ → Type 0) → List (List Waiter) → Wakes → Option (List (List Waiter)) → List (List Waiter) → Type 0
Takes stalls old wakes woken new = ((key : ℕ) → IsNamed wakes key → (at new key ≡ []) ⊎ IsSpared stalls wakes key) × HandsOn old new woken × KeepsOthers old wakes new

-- Each key at which somebody waits stalls: nobody who could go on is left asleep.
abbrev pub Settled : {C : Type 0} → (C → ℕ → Type 0) → C → List (List Waiter) → Type 0
Settled stalls core waiters = (key : ℕ) → (at waiters key ≡ []) ⊎ stalls core key

-- The waiter has a waker of the context's task, under this share.
abbrev pub IsOf : ℕ → Context → Waiter → Type 0
IsOf share cx waiter = (waiter.share ≡ share) × (waiter.task ≡ cx.turn.task) × IsSomeAnd waiter.waker (λ waker. WakesTask waker cx)

-- The poll began with the context `old`. The task's waker is among these waiters, or the poll wakes its task itself.
abbrev pub IsKept : ℕ → Context → Context → List Waiter → Type 0
IsKept share old new waiters = (new.is_woken ≡ true) ⊎ ((new.lacks_waker ≡ true) ⊎ ((place : ℕ) × IsSomeAnd (slice_get waiters place) (IsOf share old)))
