-- What the load of a `PendingRequests` is.
use Rattle.std.specs.Prelude.{◌≡◌, ℕ, ◌+◌, List, [], ◌∷◌, take, slice_get, Option, Some}
use Rattle.tower_latch.specs.History.{IsLegal}
use Rattle.tower_latch.specs.Latch.{Serves, StepsAs}
use Rattle.tower_latch.specs.declared.Latch.{Ghosts as LatchOf}
use Rattle.tower_limit.specs.CountCore.{Opens, StandsFor}
use Rattle.tower_limit.specs.Holders.{Holder, HolderSteps}
use Rattle.tower_limit.specs.PendingRequests.{PendingRequestsView, Loaded}
use Rattle.tower_limit.specs.declared.load.pending_requests.count_core.CountCore.{CountCore}
use Rattle.tower_limit.specs.declared.load.pending_requests.count_core.CountStep.{CountStep}
use Rattle.tower_limit.specs.declared.load.pending_requests.count_core.CountStep.TheVariants.{Load}
use Rattle.tower_limit.specs.declared.load.pending_requests.count_core.CountReply.{CountReply}
use Rattle.tower_limit.specs.declared.load.pending_requests.count_core.CountReply.TheVariants.{Counted, Done, Count}

abbrev pub one_if_counted : CountReply → ℕ
one_if_counted Counted = 1
one_if_counted _ = 0

abbrev pub one_if_done : CountReply → ℕ
one_if_done Done = 1
one_if_done _ = 0

-- how many requests were counted, and how many of them are done
abbrev pub counted : List (CountStep × CountReply) → ℕ
counted [] = 0
counted (entry ∷ rest) = one_if_counted entry.1 + counted rest

abbrev pub done : List (CountStep × CountReply) → ℕ
done [] = 0
done (entry ∷ rest) = one_if_done entry.1 + done rest

-- From a new count on, the load is the number of requests that were counted less the number of those that are done.
abbrev pub LoadIsPending : Type 0
LoadIsPending = (steps : List (CountStep × CountReply)) (now next : List Holder) (load : ℕ)
    → Serves HolderSteps [] steps now → HolderSteps now Load (Count load) next → load + done steps ≡ counted steps

-- So it is of each load that a `PendingRequests` reads, in a run of its count.
abbrev pub LoadsArePending : {S L C : Type 0} → LatchOf L CountCore CountStep CountReply (Unit {0}) → PendingRequestsView S L C → Type 0
LoadsArePending l pending = (load : ℕ) → Loaded l pending load
    → ∥ ((steps : List (CountStep × CountReply)) × (now : List Holder) × Serves HolderSteps [] steps now × HolderSteps now Load (Count load) now × (load + done steps ≡ counted steps)) ∥₁

-- And of each load in the history of a count that ran under a log, with the entries before it.
abbrev pub LoadsInHistory : Type 0
LoadsInHistory = (core : CountCore) (opening : Option CountCore) (history : List (CountStep × CountReply)) → StandsFor core [] → opening ≡ Some core
    → IsLegal Opens (StepsAs StandsFor HolderSteps) opening history
    → (place load : ℕ) → slice_get history place ≡ Some (Load, Count load) → load + done (take place history) ≡ counted (take place history)
