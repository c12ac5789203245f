-- What the law of retries says of a service that refuses 0 and a policy that asks for 1 in its place.
use Rattle.std.proofs.Common.{◌≡◌, ℕ, zero, suc, Option, Some, None, Result, Ok, Err, List, [], ◌∷◌, refl, subst, inl, inr, ◌∙◌}
use Rattle.std.specs.declared.clone.Clone.{Ghosts as CloneOf}
use Rattle.futures.specs.declared.task.Poll.{Poll}
use Rattle.futures.specs.declared.task.Poll.TheVariants.{Ready}
use Rattle.tower_base.specs.Answers.{answered}
use Rattle.tower_base.specs.Gives.{MayGive}
use Rattle.tower_base.specs.declared.service.Service.{Ghosts as ServiceOf}
use Rattle.tower_retry.specs.Retry.{Called, ResponseFutureView, RetryView}
use Rattle.tower_retry.specs.RetryAttempts.{Attempt, Attempted, Ends, IsAnswer, ReadyAfter, Retries, Tried, Decision, NotKept, NoRetry, RetryAfter}
use Rattle.tower_retry.specs.declared.retry.error.Error.{Error}
use Rattle.tower_retry.specs.declared.retry.error.Error.TheVariants.{Inner}
use Rattle.tower_retry.specs.declared.retry.state.Attempts.{Attempts}
use Rattle.tower_retry.specs.declared.retry.state.State.TheVariants.{InFlight}
use Rattle.tower_retry.specs.declared.retry.policy.Policy.{Ghosts as PolicyOf}
use Rattle.tests_retry.specs.Second.{Asked, IsSecond, reply}

module _ {P S F W : Type 0} (s : ServiceOf S ℕ ℕ ℕ F) (stepped : F → Poll (Result ℕ ℕ) → F → Type 0)
    (p : PolicyOf P ℕ ℕ ℕ W) (waited : W → Poll (Unit {0}) → W → Type 0)
    (serves : (old new : S) (error : ℕ) → s.polled old (Ready (Err error)) new → ⊥)
    (replies : (old new : S) (request : ℕ) (future : F) (result : Result ℕ ℕ) → s.called old request future new → MayGive stepped future result → result ≡ reply request)
    (asks : (old new : P) (request changed : ℕ) (result outcome : Result ℕ ℕ) (decision : Option W) → p.decided old request result decision new changed outcome → Asked result decision changed outcome)
    (copies : (old new : P) (request : ℕ) (copy : Option ℕ) → p.cloned old request copy new → copy ≡ Some request) where
  never : (polls : ℕ) (old new : S) (error : ℕ) → ReadyAfter s stepped p waited polls old (Err error) new → ⊥
  never zero old new error polled = serves old new error polled
  never (suc polls) old new error (mid, polled, more) = never polls mid new error more

  -- this request is in flight, and a copy of it is kept
  record Has (request : ℕ) (old : Attempts P S ℕ F W) : Type 0 where
    kept : old.request ≡ Some request
    response : F
    state : old.state ≡ InFlight response
    gives : (result : Result ℕ ℕ) → MayGive stepped response result → result ≡ reply request

  result_of : (request other : ℕ) (old : Attempts P S ℕ F W) (attempt : Attempt ℕ ℕ ℕ W) → Has request old → Tried s stepped p waited other old attempt
      → attempt.result ≡ reply request
  result_of request other old attempt has tried =
      let is : tried.response ≡ has.response = cc (tried.in_flight, has.state) in
      has.gives attempt.result (subst (λ (f : F). MayGive stepped f attempt.result) is tried.gave)

  -- the first attempt isn't the last
  first_ends : (old : Attempts P S ℕ F W) (decision : Decision W) (output : Result ℕ (Error ℕ)) → Has 0 old → Ends s stepped p waited decision old (Err 0) output → ⊥
  first_ends old NotKept output has (none, is) = cc (none, has.kept)
  first_ends old NoRetry output has (kept, policy, changed, outcome, had, decided, is) = asks _ _ _ _ _ _ None decided
  first_ends old (RetryAfter wait) output has (error, left, was, is) = never was.polls _ _ error was.readiness

  -- the second one is of 1
  first_retries : (old new : Attempts P S ℕ F W) (decision : Decision W) (request : ℕ) → Has 0 old → Retries s stepped p waited decision old (Err 0) request new → Has 1 new
  first_retries old new NotKept request has none = absurd none
  first_retries old new NoRetry request has none = absurd none
  first_retries old new (RetryAfter wait) request has (left, was, (again, same)) =
      let one : was.changed ≡ 1 = asks _ _ _ _ _ _ (Some wait) was.decided in
      let is : again.request ≡ 1 = cc (again.had, was.request, one) in
      let copy : new.request ≡ Some again.request = copies _ _ again.request new.request again.copied in
      record {
        kept = cc (copy, is);
        response = again.response;
        state = again.state;
        gives = λ result gives. replies _ _ again.request again.response result again.called gives ∙ rw is refl;
      }

  -- the second one is the last
  second_ends : (old : Attempts P S ℕ F W) (decision : Decision W) (output : Result ℕ (Error ℕ)) → Has 1 old → Ends s stepped p waited decision old (Ok 1) output → output ≡ Ok 1
  second_ends old NotKept output has (none, is) = absurd (cc (none, has.kept))
  second_ends old NoRetry output has (kept, policy, changed, outcome, had, decided, is) =
      let same : outcome ≡ Ok 1 = asks _ _ _ _ _ _ None decided in
      let answers : Ready output ≡ answered Inner (Ready (Ok 1)) = rw same at is in
      cc (answers)
  second_ends old (RetryAfter wait) output has (error, left, was, is) = absurd (never was.polls _ _ error was.readiness)

  second_retries : (old new : Attempts P S ℕ F W) (decision : Decision W) (request : ℕ) → Retries s stepped p waited decision old (Ok 1) request new → ⊥
  second_retries old new NotKept request none = none
  second_retries old new NoRetry request none = none
  second_retries old new (RetryAfter wait) request (left, was, more) = asks _ _ _ _ _ _ (Some wait) was.decided

  second_attempted : (attempts : List (Attempt ℕ ℕ ℕ W)) (request : ℕ) (old : Attempts P S ℕ F W) (output : Result ℕ (Error ℕ)) → Has 1 old
      → Attempted s stepped p waited attempts request old output → output ≡ Ok 1
  second_attempted [] request old output has none = absurd none
  second_attempted (last ∷ []) request old output has (tried, ends) =
      second_ends old last.decision output has (subst (λ (r : Result ℕ ℕ). Ends s stepped p waited last.decision old r output) (result_of 1 request old last has tried) ends)
  second_attempted (attempt ∷ next ∷ rest) request old output has (tried, (again, new, retries, more)) =
      absurd (second_retries old new attempt.decision again
      (subst (λ (r : Result ℕ ℕ). Retries s stepped p waited attempt.decision old r again new) (result_of 1 request old attempt has tried) retries))

  first_attempted : (attempts : List (Attempt ℕ ℕ ℕ W)) (request : ℕ) (old : Attempts P S ℕ F W) (output : Result ℕ (Error ℕ)) → Has 0 old
      → Attempted s stepped p waited attempts request old output → output ≡ Ok 1
  first_attempted [] request old output has none = absurd none
  first_attempted (last ∷ []) request old output has (tried, ends) =
      absurd (first_ends old last.decision output has (subst (λ (r : Result ℕ ℕ). Ends s stepped p waited last.decision old r output) (result_of 0 request old last has tried) ends))
  first_attempted (attempt ∷ next ∷ rest) request old output has (tried, (again, new, retries, more)) =
      let at = subst (λ (r : Result ℕ ℕ). Retries s stepped p waited attempt.decision old r again new) (result_of 0 request old attempt has tried) retries in
      second_attempted (next ∷ rest) again new output (first_retries old new attempt.decision again has at) more

  pub is_second : (policy_clone : CloneOf P) (service_clone : CloneOf S) (old new : RetryView P S) (future : ResponseFutureView P S ℕ F W)
      (output : Result ℕ (Error ℕ)) → Called s p policy_clone service_clone old 0 future new → IsAnswer s stepped p waited 0 future output → IsSecond output
  is_second policy_clone service_clone old new (Some first) output call (attempts, attempted) =
      let copy = copies _ _ 0 call.kept call.copied in
      let has : Has 0 first = record {
        kept = call.begins.2 ∙ copy;
        response = call.response;
        state = call.begins.3;
        gives = λ result gives. replies _ _ 0 call.response result call.called gives;
      } in
      inl (first_attempted attempts 0 first output has attempted)
  is_second policy_clone service_clone old new None output call is = inr is
