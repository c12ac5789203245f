-- The future of the filter before a second request.
use Rattle.std.specs.Prelude.{◌≡◌, ℕ, ⊤, Result, Ok}
use Rattle.std.specs.declared.convert.Infallible.{Infallible}
use Rattle.futures.specs.declared.task.Poll.{Poll}
use Rattle.futures.specs.declared.task.Poll.TheVariants.{Ready, Pending}
use Rattle.tower_retry.specs.declared.hedge.check.CheckState.{CheckState}
use Rattle.tower_retry.specs.declared.hedge.check.CheckState.TheVariants.{Passed, Given, Waiting}

-- A poll. A request that passed is returned. One that may not be made again is pending at every poll.
abbrev pub CheckStepped : {Q N : Type 0} → CheckState Q N → Poll (Result Q Infallible) → CheckState Q N → Type 0
CheckStepped (Passed request) answer new = (answer ≡ Ready (Ok request)) × (new ≡ Given)
CheckStepped (Waiting never) answer (Waiting left) = answer ≡ Pending
CheckStepped old answer new = ⊥

-- A check may be polled until it has returned the request.
abbrev pub CanPoll : {Q N : Type 0} → CheckState Q N → Type 0
CanPoll Given = ⊥
CanPoll old = ⊤

-- what a check waits for: a future that is never ready, if the request may not be made again
abbrev pub Needs : {Q N : Type 0} → (N → ℕ → Type 0) → CheckState Q N → ℕ → Type 0
Needs needs (Waiting never) = needs never
Needs needs old = λ source. ⊥

-- Why a poll of a check may ask for another: the causes of the future that is never ready. A poll that returns the request has none.
abbrev pub Stirs : {Q N : Type 0} → (N → N → Type 0) → CheckState Q N → CheckState Q N → Type 0
Stirs never (Waiting old) (Waiting new) = never old new
Stirs never old new = ⊥
