-- The waiters that were taken from the lock.
use Rattle.std.specs.Prelude.{◌∷◌, ◌++◌, List, [], Option, None, Some}
use Rattle.tower_latch.specs.declared.guarded.crowd.Waiter.{Waiter}
use Rattle.tower_latch.specs.declared.guarded.waiters.Taken.{Taken}

-- a list for each key at which they waited, unless nobody was taken
abbrev pub taken_out : Taken → Option (List (List Waiter))
taken_out Taken.Nobody = None
taken_out (Taken.One group) = Some (group ∷ [])
taken_out (Taken.Several groups others) = Some (groups.items ++ others.items)
