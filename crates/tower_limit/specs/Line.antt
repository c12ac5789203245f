-- The line of permits, as a plain list of tickets in the order of requests.
use Rattle.std.specs.Prelude.{◌≡◌, ◌≢◌, ◌<◌, ◌≤◌, ◌-◌, ℕ, Bool, true, false, List, [], ◌∷◌, ◌++◌, length, slice_get, slice_set, remove, Some}
use Rattle.tower_limit.specs.declared.limit.concurrency.line_core.LineStep.{LineStep}
use Rattle.tower_limit.specs.declared.limit.concurrency.line_core.LineStep.TheVariants.{Join, Look, Cancel, Release, Free}
use Rattle.tower_limit.specs.declared.limit.concurrency.line_core.LineReply.{LineReply}
use Rattle.tower_limit.specs.declared.limit.concurrency.line_core.LineReply.TheVariants.{Granted, Waiting, Left, Count, Unknown, Memory}

-- A ticket is held, or waits under a key.
pub data Ticket : Type 0 where
  held : Ticket
  waits : ℕ → Ticket

-- The first `max` tickets have a permit. `room` waiters fit without an allocation.
pub record Line : Type 0 where
  pub max : ℕ
  pub tickets : List Ticket
  pub room : ℕ

-- the line before any request
abbrev pub initial : ℕ → Line
initial max = record { max = max; tickets = []; room = 0 }

-- the keys that wait, in the order of requests
abbrev pub keys_of : List Ticket → List ℕ
keys_of [] = []
keys_of (Ticket.held ∷ line) = keys_of line
keys_of (Ticket.waits key ∷ line) = key ∷ keys_of line

-- This ticket stands at that place.
abbrev pub At : List Ticket → ℕ → Ticket → Type 0
At line place ticket = slice_get line place ≡ Some ticket

-- No place has this ticket.
abbrev pub Lacks : List Ticket → Ticket → Type 0
Lacks line ticket = (place : ℕ) → slice_get line place ≢ Some ticket

-- In a line with permits for its first max places, the step may give this reply and leave the new line.
abbrev pub Steps : ℕ → List Ticket → LineStep → LineReply → List Ticket → Type 0
-- A place below max is a permit.
Steps max old Join Granted new = (length old < max) × (new ≡ old ++ Ticket.held ∷ [])
Steps max old Join (Waiting key) new = (max ≤ length old) × Lacks old (Ticket.waits key) × (new ≡ old ++ Ticket.waits key ∷ [])
Steps max old Join Memory new = (max ≤ length old) × (new ≡ old)
-- A waiter that looks and has a permit becomes a holder, and its key ends.
Steps max old (Look key) Granted new = (place : ℕ) × At old place (Ticket.waits key) × (place < max) × (new ≡ slice_set old place Ticket.held)
Steps max old (Look key) (Waiting again) new = (place : ℕ) × At old place (Ticket.waits key) × (max ≤ place) × (again ≡ key) × (new ≡ old)
Steps max old (Look key) Unknown new = Lacks old (Ticket.waits key) × (new ≡ old)
-- A wait ends, granted or not.
Steps max old (Cancel key) Left new = (place : ℕ) × At old place (Ticket.waits key) × (new ≡ remove old place)
Steps max old (Cancel key) Unknown new = Lacks old (Ticket.waits key) × (new ≡ old)
-- A holder leaves.
Steps max old Release Left new = (place : ℕ) × At old place Ticket.held × (new ≡ remove old place)
Steps max old Release Unknown new = Lacks old Ticket.held × (new ≡ old)
-- The permits that nobody has are counted.
Steps max old Free (Count free) new = (free ≡ max - length old) × (new ≡ old)
-- No other reply is given.
Steps max old _ _ new = ⊥

-- `Memory` replies that an allocation failed. It is possible only if so many wait that no more fit.
abbrev pub Excused : ℕ → ℕ → LineReply → Type 0
Excused room waiting Memory = room ≤ waiting
Excused room waiting _ = Unit {0}

-- The line's machine: one step with its reply.
abbrev pub LineSteps : Line → LineStep → LineReply → Line → Type 0
LineSteps old step reply new = (new.max ≡ old.max)
    × Steps old.max old.tickets step reply new.tickets
    × Excused old.room (length (keys_of old.tickets)) reply
    × (old.room ≤ new.room)

-- whether the reply requires its caller to look again
abbrev pub is_waiting : LineReply → Bool
is_waiting (Waiting key) = true
is_waiting _ = false

-- the key at which the caller waits
abbrev pub key_of : LineReply → ℕ
key_of (Waiting key) = key
key_of _ = 0

-- The step asks again at this key.
abbrev pub Asks : LineStep → ℕ → Type 0
Asks (Look looked) key = looked ≡ key
Asks _ key = ⊥
