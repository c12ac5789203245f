-- What a future does that is polled beside tasks.
use Rattle.std.specs.Prelude.{◌≡◌, ℕ, ⊤}
use Rattle.std.specs.Prelude.{IfSome}
use Rattle.futures.specs.declared.future.Future.{Ghosts as FutureOf}
use Rattle.futures.specs.Queued.{AllPollable, set_places}
use Rattle.tower_spawn.specs.declared.beside.Beside.{Beside}
use Rattle.tower_spawn.specs.declared.beside.Main.{Main}
use Rattle.tower_spawn.specs.declared.beside.Main.TheVariants.{Pending, Done, Taken}

module _ {B A : Type 0} where
  -- The future may be polled while it is pending, and its output may be taken once.
  abbrev pub CanPoll : (B → Type 0) → Main B A → Type 0
  CanPoll can_poll (Pending future) = can_poll future
  CanPoll can_poll (Done output) = ⊤
  CanPoll can_poll Taken = ⊥

  -- Its output is there.
  abbrev pub IsDone : Main B A → Type 0
  IsDone (Pending future) = ⊥
  IsDone (Done output) = ⊤
  IsDone Taken = ⊥

  -- the sources that the pending future waits for
  abbrev pub Needs : (B → ℕ → Type 0) → Main B A → ℕ → Type 0
  Needs needs (Pending future) s = needs future s
  Needs needs (Done output) s = ⊥
  Needs needs Taken s = ⊥

  -- what the future may give, or what it gave
  abbrev pub Gives : (B → A → Type 0) → Main B A → A → Type 0
  Gives gives (Pending future) x = gives future x
  Gives gives (Done output) x = x ≡ output
  Gives gives Taken x = ⊥

module _ {B F A X : Type 0} {f : FutureOf F X} where
  -- the future, each task of the run, and the one that waits for memory may be polled
  abbrev pub CanRun : (B → Type 0) → Beside B F A X f → Type 0
  CanRun main both = CanPoll main both.main × AllPollable f.can_poll (set_places both.tasks) × IfSome both.waiting f.can_poll

  -- what the future may give, or what it gave
  abbrev pub RunGives : (B → A → Type 0) → Beside B F A X f → A → Type 0
  RunGives gives both = Gives gives both.main
