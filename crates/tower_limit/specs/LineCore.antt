-- Which plain lines a `LineCore` stands for.
use Rattle.std.specs.Prelude.{◌≡◌, ◌<◌, ◌≤◌, ◌+◌, ◌-◌, ℕ, suc, List, [], ◌∷◌, ⊤}
use Rattle.tower_limit.specs.Line.{Ticket, Line, Steps, Excused, initial, keys_of}
use Rattle.tower_latch.specs.WaitList.{WaitList}
use Rattle.tower_latch.specs.WaitQueue.{StandsFor as QueueStandsFor, room, size, touches as queue_touches}
use Rattle.tower_limit.specs.declared.limit.concurrency.line_core.LineCore.{LineCore}
use Rattle.tower_limit.specs.declared.limit.concurrency.line_core.LineStep.{LineStep}
use Rattle.tower_limit.specs.declared.limit.concurrency.line_core.LineReply.{LineReply}
use Rattle.tower_latch.specs.declared.wait_queue.WaitQueue.{WaitQueue}

-- the number of holders of permits
abbrev pub holders : List Ticket → ℕ
holders [] = 0
holders (Ticket.held ∷ line) = suc (holders line)
holders (Ticket.waits key ∷ line) = holders line

-- Each holder stands below max.
abbrev pub HoldersBelow : ℕ → List Ticket → Type 0
HoldersBelow max [] = ⊤
HoldersBelow max (Ticket.held ∷ line) = (0 < max) × HoldersBelow (max - 1) line
HoldersBelow max (Ticket.waits key ∷ line) = HoldersBelow (max - 1) line

-- The line has `held` holders, all below `max`, and these keys.
abbrev pub Stands : ℕ → ℕ → List ℕ → List Ticket → Type 0
Stands max held keys line = (holders line ≡ held) × (keys_of line ≡ keys) × HoldersBelow max line

-- The line has `held` holders below `max`, and its waiters are those of the queue.
abbrev pub StandsAt : ℕ → ℕ → WaitQueue → List Ticket → Type 0
StandsAt max held queue line = (plain : WaitList) × QueueStandsFor queue plain × Stands max held plain.keys line

-- The line has the core's permits, holders and waiters, and as much room.
abbrev pub StandsFor : LineCore → Line → Type 0
StandsFor core line = (line.max ≡ core.max) × StandsAt core.max core.held core.queue line.tickets × (line.room ≡ room core.queue)

-- a new core: it stands for an empty line
abbrev pub Opens : LineCore → Type 0
Opens core = (max : ℕ) × StandsFor core (initial max)

-- how many entries of the wait queue were reached so far
abbrev pub touches : LineCore → ℕ
touches core = queue_touches core.queue

-- From each list that the old core stands for, the machine's step leads to one that the new core stands for. The step reaches at most six entries
-- of the wait queue.
pub record Follows (old : LineCore) (step : LineStep) (reply : LineReply) (new : LineCore) : Type 0 where
  pub same : new.max ≡ old.max
  pub goes : (line : List Ticket) → StandsAt old.max old.held old.queue line
      → (next : List Ticket) × Steps old.max line step reply next × StandsAt new.max new.held new.queue next
  pub excused : Excused (room old.queue) (size old.queue) reply
  pub room : room old.queue ≤ room new.queue
  pub few : touches new ≤ touches old + 6
