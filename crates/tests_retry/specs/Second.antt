-- A service that refuses 0, and a policy that asks for 1 in its place.
use Rattle.std.specs.Prelude.{◌≡◌, ◌⊎◌, ℕ, zero, suc, Option, Some, None, Result, Ok, Err}
use Rattle.tower_retry.specs.declared.retry.error.Error.{Error}
use Rattle.tower_retry.specs.declared.retry.error.Error.TheVariants.{Memory}

-- what the service responds: 0 is an error, and each other request is its own response
abbrev pub reply : ℕ → Result ℕ ℕ
reply zero = Err 0
reply (suc n) = Ok (suc n)

-- what the policy says: after an error there is a wait, and 1 is the next request
abbrev pub Asked : {W : Type 0} → Result ℕ ℕ → Option W → ℕ → Result ℕ ℕ → Type 0
Asked (Err error) (Some wait) request outcome = request ≡ 1
Asked (Ok response) None request outcome = outcome ≡ Ok response
Asked (Err error) None request outcome = ⊥
Asked (Ok response) (Some wait) request outcome = ⊥

-- the response of the second attempt, or a clone was refused
abbrev pub IsSecond : Result ℕ (Error ℕ) → Type 0
IsSecond output = (output ≡ Ok 1) ⊎ (output ≡ Err Memory)
