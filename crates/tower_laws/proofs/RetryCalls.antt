-- The attempts of a `Retry` are its calls.
use Rattle.std.proofs.Common.{◌≡◌, inl, inr, ⊎_elim, ℕ, zero, suc, List, [], ◌∷◌, Some, None, Result, Ok, Err, refl, ap, sym, ◌∙◌, subst, arith}
use Rattle.std.specs.declared.clone.Clone.{Ghosts as CloneOf}
use Rattle.futures.specs.declared.task.Poll.{Poll}
use Rattle.futures.specs.declared.task.Poll.TheVariants.{Ready, Pending}
use Rattle.tower_base.specs.ServiceRun.{relations, Action, Makes, requests}
use Rattle.tower_base.specs.declared.service.Service.{Ghosts as ServiceOf}
use Rattle.tower_laws.specs.Retry.{AnswersCountCalls, OneMore, requested, requested_again, retry_count}
use Rattle.tower_retry.proofs.RetryLemmas.{gives_answers}
use Rattle.tower_retry.specs.RetryAttempts.{Attempt, Attempted, Ends, ReadyAfter, Retries, Decision, NotKept, NoRetry, RetryAfter}
use Rattle.tower_retry.specs.declared.retry.error.Error.{Error}
use Rattle.tower_retry.specs.declared.retry.state.Attempts.{Attempts}
use Rattle.tower_retry.specs.declared.retry.policy.Policy.{Ghosts as PolicyOf}

module _ {P S Q A E F W : Type 0} (s : ServiceOf S Q A E F) (stepped : F → Poll (Result A E) → F → Type 0)
    (p : PolicyOf P Q A E W) (waited : W → Poll (Unit {0}) → W → Type 0) where
  abbrev View : Type 0
  View = Attempts P S Q F W

  -- the last poll of readiness
  polled_last : (polls : ℕ) (old new : S) (error : E) → ReadyAfter s stepped p waited polls old (Err error) new → (before : S) × s.polled before (Ready (Err error)) new
  polled_last zero old new error polled = (old, polled)
  polled_last (suc polls) old new error (next, polled, rest) = polled_last polls next new error rest

  ends_count : (decision : Decision W) (old : View) (result : Result A E) (request : Q) (output : Result A (Error E)) → Ends s stepped p waited decision old result output
      → OneMore s stepped p waited (record { request = request; result = result; decision = decision } ∷ []) output
  ends_count NotKept old result request output ends = inl refl
  ends_count NoRetry old result request output ends = inl refl
  ends_count (RetryAfter wait) old result request output (error, left, was, is) =
      let last = polled_last was.polls old.service left.service error was.readiness in inr (refl, (error, last.0, left.service, last.1, is))

  retries_count : (decision : Decision W) (old : View) (attempt : Attempt Q A E W) (rest : List (Attempt Q A E W)) (again : Q) (new : View) (output : Result A (Error E)) → attempt.decision ≡ decision
      → Retries s stepped p waited decision old attempt.result again new → OneMore s stepped p waited rest output → OneMore s stepped p waited (attempt ∷ rest) output
  retries_count NotKept old attempt rest again new output same none more = absurd none
  retries_count NoRetry old attempt rest again new output same none more = absurd none
  retries_count (RetryAfter wait) old attempt rest again new output same retry more =
      let one : retry_count attempt.decision ≡ 1 = ap (λ (w : Decision W). retry_count w) same in
      ⊎_elim (λ count. inl (omega arith)) (λ count. inr (omega arith, count.1)) more

  -- polls of readiness, and then this run
  after_polls : (polls : ℕ) (old mid : S) (answer : Result (Unit {0}) E) (made : List Q) (new : S) → ReadyAfter s stepped p waited polls old answer mid
      → Makes (relations s) mid made new → Makes (relations s) old made new
  after_polls zero old mid answer made new polled more =
      record { transitions = record { action = Action.poll (Ready answer); left = mid } ∷ more.transitions; run = (polled, more.run); same = more.same }
  after_polls (suc polls) old mid answer made new (next, polled, rest) more =
      let later = after_polls polls next mid answer made new rest more in
      record { transitions = record { action = Action.poll Pending; left = next } ∷ later.transitions; run = (polled, later.run); same = later.same }

  retried : (decision : Decision W) (old : View) (result : Result A E) (request : Q) (new : View) (made : List Q) (last : S) → Retries s stepped p waited decision old result request new
      → Makes (relations s) new.service made last → Makes (relations s) old.service (request ∷ made) last
  retried NotKept old result request new made last none more = absurd none
  retried NoRetry old result request new made last none more = absurd none
  retried (RetryAfter wait) old result request new made last (left, was, (again, is)) more =
      after_polls was.polls old.service left.service (Ok tt) (request ∷ made) last was.readiness
      (record {
        transitions = record { action = Action.call again.request again.response; left = new.service } ∷ more.transitions;
        run = ((again.ready, again.called), more.run);
        same = ap (λ (q : Q). q ∷ requests more.transitions) is ∙ ap (λ (qs : List Q). request ∷ qs) more.same;
      })

  abbrev Counted : List (Attempt Q A E W) → View → Result A (Error E) → Type 0
  Counted attempts first output = OneMore s stepped p waited attempts output × ((last : S) × Makes (relations s) first.service (requested_again attempts) last)

  none_again : (service : S) → Makes (relations s) service [] service
  none_again service = record { transitions = []; run = refl; same = refl }

  counted : (attempts : List (Attempt Q A E W)) (request : Q) (first : View) (output : Result A (Error E)) → Attempted s stepped p waited attempts request first output
      → Counted attempts first output
  counted [] request first output none = absurd none
  counted (last ∷ []) request first output (tried, ends) = (ends_count last.decision first last.result last.request output ends, (first.service, none_again first.service))
  counted (attempt ∷ next ∷ rest) request first output (tried, (again, new, retry, more)) =
      let later = counted (next ∷ rest) again new output more in
      let made : next.request ≡ again = made_next rest next again new output more in (
        retries_count attempt.decision first attempt (next ∷ rest) again new output refl retry later.0,
        (
          later.1.0,
          subst (λ (q : Q). Makes (relations s) first.service (q ∷ requested rest) later.1.0) (sym made)
              (retried attempt.decision first attempt.result again new (requested rest) later.1.0 retry later.1.1),
        ),
      )
    where
      made_next : (rest : List (Attempt Q A E W)) (next : Attempt Q A E W) (again : Q) (new : View) (output : Result A (Error E))
          → Attempted s stepped p waited (next ∷ rest) again new output → next.request ≡ again
      made_next [] next again new output (tried, ends) = tried.made
      made_next (other ∷ rest) next again new output (tried, more) = tried.made

  pub answers_count_calls : (policy_clone : CloneOf P) (service_clone : CloneOf S) → AnswersCountCalls s stepped p waited policy_clone service_clone
  answers_count_calls policy_clone service_clone old request (Some first) new output called gives =
      let found = gives_answers s stepped p waited policy_clone service_clone old request (Some first) new output called gives in
      let count = counted found.0 request first output found.1 in (found.0, found.1, count.0, called.begins.1, count.1)
  answers_count_calls policy_clone service_clone old request None new output called gives =
      (called.begins, gives_answers s stepped p waited policy_clone service_clone old request None new output called gives)
