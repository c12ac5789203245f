-- What a `Retry`'s future returns, over all its polls: the answer of a list of attempts.
use Rattle.std.specs.Prelude.{◌≡◌, ℕ, zero, suc, Some, None, Result, Ok, Err, List, [], ◌∷◌}
use Rattle.std.specs.declared.clone.Clone.{Ghosts as CloneOf}
use Rattle.futures.specs.declared.task.Poll.{Poll}
use Rattle.futures.specs.declared.task.Poll.TheVariants.{Ready, Pending}
use Rattle.tower_base.specs.Answers.{answered}
use Rattle.tower_base.specs.Gives.{MayGive}
use Rattle.tower_base.specs.declared.service.Service.{Ghosts as ServiceOf}
use Rattle.tower_retry.specs.Retry.{Again, Called, ResponseFutureView, RetryView, Stepped}
use Rattle.tower_retry.specs.declared.retry.error.Error.{Error}
use Rattle.tower_retry.specs.declared.retry.error.Error.TheVariants.{Inner, Memory}
use Rattle.tower_retry.specs.declared.retry.state.Attempts.{Attempts}
use Rattle.tower_retry.specs.declared.retry.state.State.TheVariants.{InFlight, Retrying}
use Rattle.tower_retry.specs.declared.retry.policy.Policy.{Ghosts as PolicyOf}

-- The policy's decision about a result. If no request was kept, the policy isn't called.
pub data Decision (W : Type 0) : Type 0 where
  NotKept : Decision W
  NoRetry : Decision W
  RetryAfter : W → Decision W

-- an attempt: the request that was made, the result of its call and the policy's decision
pub record Attempt (Q A E W : Type 0) : Type 0 where
  pub request : Q
  pub result : Result A E
  pub decision : Decision W

module _ {P S Q A E F W : Type 0} (s : ServiceOf S Q A E F) (stepped : F → Poll (Result A E) → F → Type 0)
    (p : PolicyOf P Q A E W) (waited : W → Poll (Unit {0}) → W → Type 0) where
  -- The given number of polls of readiness are pending, and the next one returns this answer.
  abbrev pub ReadyAfter : ℕ → S → Result (Unit {0}) E → S → Type 0
  ReadyAfter zero old answer new = s.polled old (Ready answer) new
  ReadyAfter (suc n) old answer new = (mid : S) × s.polled old Pending mid × ReadyAfter n mid answer new

  -- The request is in flight, and its future returns the result.
  pub record Tried (request : Q) (old : Attempts P S Q F W) (attempt : Attempt Q A E W) : Type 0 where
    pub made : attempt.request ≡ request
    pub response : F
    pub in_flight : old.state ≡ InFlight response
    pub gave : MayGive stepped response attempt.result

  -- The policy returns this wait, which ends, and then the service's readiness returns this answer.
  pub record Waited (old : Attempts P S Q F W) (result : Result A E) (wait : W) (answer : Result (Unit {0}) E) (new : Attempts P S Q F W) : Type 0 where
    pub kept : Q
    pub had : old.request ≡ Some kept
    pub changed : Q
    pub outcome : Result A E
    pub decided : p.decided old.policy kept result (Some wait) new.policy changed outcome
    pub ended : MayGive waited wait tt
    pub polls : ℕ
    pub readiness : ReadyAfter polls old.service answer new.service
    pub request : new.request ≡ Some changed
    pub state : new.state ≡ Retrying

  -- The next attempt begins: after a wait and with a ready service the request is made again as the policy left it.
  abbrev pub Retries : Decision W → Attempts P S Q F W → Result A E → Q → Attempts P S Q F W → Type 0
  Retries (RetryAfter wait) old result request new = (left : Attempts P S Q F W) × Waited old result wait (Ok tt) left
      × ((again : Again s p left new) × (again.request ≡ request))
  Retries NoRetry old result request new = ⊥
  Retries NotKept old result request new = ⊥

  -- The last attempt. The answer is its result, as the policy left it, or an error of readiness after a wait. The policy isn't called for such an
  -- error.
  abbrev pub Ends : Decision W → Attempts P S Q F W → Result A E → Result A (Error E) → Type 0
  Ends NotKept old result output = (old.request ≡ None) × (Ready output ≡ answered Inner (Ready result))
  Ends NoRetry old result output = (kept : Q) × (policy : P) × (changed : Q) × (outcome : Result A E) × (old.request ≡ Some kept)
      × p.decided old.policy kept result None policy changed outcome × (Ready output ≡ answered Inner (Ready outcome))
  Ends (RetryAfter wait) old result output = (error : E) × (left : Attempts P S Q F W) × Waited old result wait (Err error) left
      × (output ≡ Err (Inner error))

  -- If the request is in flight, these attempts, one after another, have this answer.
  abbrev pub Attempted : List (Attempt Q A E W) → Q → Attempts P S Q F W → Result A (Error E) → Type 0
  Attempted [] request old output = ⊥
  Attempted (last ∷ []) request old output = Tried request old last × Ends last.decision old last.result output
  Attempted (attempt ∷ next ∷ rest) request old output = Tried request old attempt × ((again : Q) × (new : Attempts P S Q F W)
      × Retries attempt.decision old attempt.result again new × Attempted (next ∷ rest) again new output)

  -- the answer of some attempts, the first with this request; or `Memory` if a clone was refused
  abbrev pub IsAnswer : Q → ResponseFutureView P S Q F W → Result A (Error E) → Type 0
  IsAnswer request (Some first) output = (attempts : List (Attempt Q A E W)) × Attempted attempts request first output
  IsAnswer request None output = output ≡ Err Memory

  -- Whatever the future of a call returns, over all its polls, is such an answer.
  abbrev pub GivesAnswers : CloneOf P → CloneOf S → Type 0
  GivesAnswers policy_clone service_clone = (old : RetryView P S) (request : Q) (future : ResponseFutureView P S Q F W) (new : RetryView P S)
      (output : Result A (Error E)) → Called s p policy_clone service_clone old request future new
      → MayGive (Stepped s stepped p waited) future output → IsAnswer request future output
