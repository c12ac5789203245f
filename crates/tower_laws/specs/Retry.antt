-- How many calls a `Retry` makes, over one response.
use Rattle.std.specs.Prelude.{◌≡◌, ◌⊎◌, ℕ, ◌+◌, List, [], ◌∷◌, length, Some, None, Result, Err}
use Rattle.std.specs.declared.clone.Clone.{Ghosts as CloneOf}
use Rattle.futures.specs.declared.task.Poll.{Poll}
use Rattle.futures.specs.declared.task.Poll.TheVariants.{Ready}
use Rattle.tower_base.specs.Gives.{MayGive}
use Rattle.tower_base.specs.ServiceRun.{relations, Makes}
use Rattle.tower_base.specs.declared.service.Service.{Ghosts as ServiceOf}
use Rattle.tower_retry.specs.Retry.{Called, ResponseFutureView, RetryView, Stepped}
use Rattle.tower_retry.specs.RetryAttempts.{Attempt, Attempted, Decision, NotKept, NoRetry, RetryAfter}
use Rattle.tower_retry.specs.declared.retry.error.Error.{Error}
use Rattle.tower_retry.specs.declared.retry.error.Error.TheVariants.{Inner, Memory}
use Rattle.tower_retry.specs.declared.retry.policy.Policy.{Ghosts as PolicyOf}

-- 1 if the decision is to retry, or else 0; and how many of the decisions are to retry
abbrev pub retry_count : {W : Type 0} → Decision W → ℕ
retry_count NotKept = 0
retry_count NoRetry = 0
retry_count (RetryAfter wait) = 1

abbrev pub retries : {Q A E W : Type 0} → List (Attempt Q A E W) → ℕ
retries [] = 0
retries (attempt ∷ rest) = retry_count attempt.decision + retries rest

-- the requests of the attempts, and of those after the first
abbrev pub requested : {Q A E W : Type 0} → List (Attempt Q A E W) → List Q
requested [] = []
requested (attempt ∷ rest) = attempt.request ∷ requested rest

abbrev pub requested_again : {Q A E W : Type 0} → List (Attempt Q A E W) → List Q
requested_again [] = []
requested_again (first ∷ rest) = requested rest

module _ {P S Q A E F W : Type 0} (s : ServiceOf S Q A E F) (stepped : F → Poll (Result A E) → F → Type 0)
    (p : PolicyOf P Q A E W) (waited : W → Poll (Unit {0}) → W → Type 0) where
  -- There is one attempt more than decisions to retry. Or there are as many, and the answer is an error of readiness after the last wait.
  abbrev pub OneMore : List (Attempt Q A E W) → Result A (Error E) → Type 0
  OneMore attempts output = (length attempts ≡ retries attempts + 1) ⊎ ((length attempts ≡ retries attempts)
      × ((error : E) × (old new : S) × s.polled old (Ready (Err error)) new × (output ≡ Err (Inner error))))

  module _ (policy_clone : CloneOf P) (service_clone : CloneOf S) where
    -- The answer is that of a list of attempts. The call makes the first, and a run of the future's clone of the service makes just the others. A future
    -- without parts (`None`) answers `Memory`, since a clone of the policy or of the service was refused.
    abbrev pub CallsPerAttempt : RetryView P S → Q → ResponseFutureView P S Q F W → Result A (Error E) → Type 0
    CallsPerAttempt left request (Some first) output = (attempts : List (Attempt Q A E W)) × Attempted s stepped p waited attempts request first output × OneMore attempts output
        × service_clone.is_clone left.service first.service × ((last : S) × Makes (relations s) first.service (requested_again attempts) last)
    CallsPerAttempt left request None output = ¬ (policy_clone.is_infallible left.policy × service_clone.is_infallible left.service) × (output ≡ Err Memory)

    abbrev pub AnswersCountCalls : Type 0
    AnswersCountCalls = (old : RetryView P S) (request : Q) (future : ResponseFutureView P S Q F W) (new : RetryView P S) (output : Result A (Error E))
        → Called s p policy_clone service_clone old request future new → MayGive (Stepped s stepped p waited) future output → CallsPerAttempt new request future output
