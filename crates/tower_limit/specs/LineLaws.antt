-- What holds of every list of steps and replies from the empty line.
use Rattle.std.specs.Prelude.{◌≡◌, ◌⊎◌, ◌<◌, ◌≤◌, ◌+◌, ℕ, zero, suc, List, [], ◌∷◌}
use Rattle.tower_latch.specs.Latch.{Serves}
use Rattle.tower_limit.specs.Line.{Ticket, Line, At, Steps, LineSteps, initial}
use Rattle.tower_limit.specs.declared.limit.concurrency.line_core.LineStep.{LineStep}
use Rattle.tower_limit.specs.declared.limit.concurrency.line_core.LineStep.TheVariants.{Join, Look, Cancel, Release, Free}
use Rattle.tower_limit.specs.declared.limit.concurrency.line_core.LineReply.{LineReply}
use Rattle.tower_limit.specs.declared.limit.concurrency.line_core.LineReply.TheVariants.{Granted, Waiting, Left, Count}

abbrev pub one_if_granted : LineReply → ℕ
one_if_granted Granted = 1
one_if_granted _ = 0

abbrev pub one_if_left : LineStep → LineReply → ℕ
one_if_left Release Left = 1
one_if_left _ _ = 0

-- how many replies granted a permit, and how many releases gave one back
abbrev pub grants : List (LineStep × LineReply) → ℕ
grants [] = 0
grants (step ∷ steps) = one_if_granted step.1 + grants steps

abbrev pub returns : List (LineStep × LineReply) → ℕ
returns [] = 0
returns (step ∷ steps) = one_if_left step.0 step.1 + returns steps

-- A look at the key may give this reply.
abbrev pub Sees : ℕ → List Ticket → ℕ → LineReply → Type 0
Sees max line key reply = (next : List Ticket) × Steps max line (Look key) reply next

-- young joined the line after old
abbrev pub IsYounger : List Ticket → ℕ → ℕ → Type 0
IsYounger line old young = (p : ℕ) × (q : ℕ) × At line p (Ticket.waits old) × At line q (Ticket.waits young) × (p < q)

-- The step ends the key.
abbrev pub Ends : ℕ → LineStep → LineReply → Type 0
Ends key (Look other) Granted = other ≡ key
Ends key (Cancel other) Left = other ≡ key
Ends key _ _ = ⊥

-- how many permits are taken: by each holder, and by each waiter whose place is below max, seen or not
abbrev pub taken : ℕ → List Ticket → ℕ
taken max [] = 0
taken zero (Ticket.held ∷ line) = suc (taken zero line)
taken (suc max) (Ticket.held ∷ line) = suc (taken max line)
taken zero (Ticket.waits key ∷ line) = taken zero line
taken (suc max) (Ticket.waits key ∷ line) = suc (taken max line)

-- P holds of each list of steps and replies from the empty line, and of the line that they leave.
abbrev pub Always : (ℕ → List (LineStep × LineReply) → List Ticket → Type 0) → Type 0
Always P = (max : ℕ) (steps : List (LineStep × LineReply)) (line : Line) → Serves LineSteps (initial max) steps line → P max steps line.tickets

-- Never more than max permits are out.
abbrev pub Bounded : ℕ → List (LineStep × LineReply) → List Ticket → Type 0
Bounded max steps line = grants steps ≤ max + returns steps

-- While a key waits, no later request is granted.
abbrev pub InOrder : ℕ → List (LineStep × LineReply) → List Ticket → Type 0
InOrder max steps line = (key : ℕ) → Sees max line key (Waiting key)
    → ((next : List Ticket) → ¬ (Steps max line Join Granted next)) × ((young : ℕ) → IsYounger line key young → ¬ (Sees max line young Granted))

-- A granted key stays granted until it ends.
abbrev pub Lasts : ℕ → List (LineStep × LineReply) → List Ticket → Type 0
Lasts max steps line = (key : ℕ) → Sees max line key Granted → (step : LineStep) (reply : LineReply) (next : List Ticket)
    → Steps max line step reply next → Ends key step reply ⊎ Sees max next key Granted

-- The free permits and those that are taken add up to max.
abbrev pub Counts : ℕ → List (LineStep × LineReply) → List Ticket → Type 0
Counts max steps line = (free : ℕ) (next : List Ticket) → Steps max line Free (Count free) next → free + taken max line ≡ max
