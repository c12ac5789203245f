-- A clock whose time stands still while a task can go on.
use Rattle.std.specs.Prelude.{◌≡◌, ◌⊎◌, ◌<◌, ◌≤◌, ◌-◌, ◌^◌, ℕ, true, Option, IsSomeAnd}
use Rattle.futures.specs.Task.{IsLent}
use Rattle.futures.specs.Task.EventLoop.Settled.{WaitsUntil}
use Rattle.futures.specs.declared.task.context.Context.{Context}

-- what contracts see of such a clock: its last reading, and the source at which its task waits, if it has one
pub record PausedView : Type 0 where
  pub last : ℕ
  pub source : Option ℕ

-- A reading isn't before the last one.
abbrev pub Read : PausedView → PausedView → Type 0
Read old new = old.last ≤ new.last

-- the source of this clock
abbrev pub Hears : PausedView → ℕ → Type 0
Hears c s = IsSomeAnd c.source (λ source. s ≡ source)

-- The task asked to be polled again, or is nested in a task of a loop, or its source fires at this moment: not before it, and not after it.
-- (No clock gets to the moment 2^64 - 1. A task that waits for it, or for a later one, waits for ever.)
abbrev pub WakesBy : PausedView → ℕ → Context → Type 0
WakesBy c moment cx = (cx.is_woken ≡ true) ⊎ (IsLent cx ⊎ IsSomeAnd c.source
    (λ source. moment < 2 ^ 64 - 1 → WaitsUntil cx source moment))
