-- How the iterations of a `Retry`'s future add up to attempts.
use Rattle.std.proofs.Common.{◌≡◌, ℕ, zero, suc, Option, Some, None, Result, Ok, Err, List, [], ◌∷◌, refl, subst, sym, ap, ⊎_elim}
use Rattle.futures.specs.declared.task.Poll.{Poll}
use Rattle.futures.specs.declared.task.Poll.TheVariants.{Ready, Pending}
use Rattle.tower_base.specs.Gives.{GivesAfter, MayGive}
use Rattle.std.specs.declared.clone.Clone.{Ghosts as CloneOf}
use Rattle.tower_base.specs.GivesLemmas.{gives_same, gives_value}
use Rattle.tower_base.specs.Iterations.{Iterates, Iterations}
use Rattle.tower_base.specs.declared.service.Service.{Ghosts as ServiceOf}
use Rattle.tower_retry.specs.Retry.{AfterResult, Again, Iteration, IterationAt, ResponseFutureView, Stepped}
use Rattle.tower_retry.specs.RetryAttempts.{Attempt, Attempted, Ends, GivesAnswers, ReadyAfter, Retries, Tried, Waited, Decision, NotKept, NoRetry, RetryAfter}
use Rattle.tower_retry.specs.declared.retry.error.Error.{Error}
use Rattle.tower_retry.specs.declared.retry.error.Error.TheVariants.{Inner, Memory}
use Rattle.tower_retry.specs.declared.retry.state.Attempts.{Attempts}
use Rattle.tower_retry.specs.declared.retry.state.State.{State}
use Rattle.tower_retry.specs.declared.retry.state.State.TheVariants.{InFlight, Waiting, Retrying}
use Rattle.tower_retry.specs.declared.retry.policy.Policy.{Ghosts as PolicyOf}

module _ {P S Q A E F W : Type 0} (s : ServiceOf S Q A E F) (stepped : F → Poll (Result A E) → F → Type 0)
    (p : PolicyOf P Q A E W) (waited : W → Poll (Unit {0}) → W → Type 0) where
  -- what gives the output after an answer of readiness
  abbrev AfterReady : Result (Unit {0}) E → Attempts P S Q F W → Result A (Error E) → Type 0
  AfterReady (Err error) left output = output ≡ Err (Inner error)
  AfterReady (Ok ready) left output = (new : Attempts P S Q F W) × (again : Again s p left new)
      × ((attempts : List (Attempt Q A E W)) × Attempted s stepped p waited attempts again.request new output)

  -- what gives the output once the wait ended
  abbrev Resumes : Attempts P S Q F W → Result A (Error E) → Type 0
  Resumes old output = (answer : Result (Unit {0}) E) × (service : S) × (polls : ℕ) × ReadyAfter s stepped p waited polls old.service answer service
      × AfterReady answer (record old { service = service; state = Retrying }) output

  -- what gives the output, by what is under way
  abbrev RestAt : State F W → Attempts P S Q F W → Result A (Error E) → Type 0
  RestAt (InFlight response) old output = (request : Q) → (attempts : List (Attempt Q A E W))
      × Attempted s stepped p waited attempts request (record old { state = InFlight response }) output
  RestAt (Waiting wait) old output = MayGive waited wait tt × Resumes old output
  RestAt Retrying old output = Resumes old output

  abbrev Rest : Attempts P S Q F W → Result A (Error E) → Type 0
  Rest old output = RestAt old.state old output

  -- a result after which the policy asks for a wait
  rest_resumed : (response : F) (old : Attempts P S Q F W) (kept : Q) (result : Result A E) (wait : W) (policy : P) (changed : Q) (outcome : Result A E)
      (output : Result A (Error E)) → old.request ≡ Some kept → MayGive stepped response result → p.decided old.policy kept result (Some wait) policy changed outcome
      → MayGive waited wait tt → Resumes (record { policy = policy; service = old.service; request = Some changed; state = Waiting wait }) output
      → RestAt (InFlight response) old output
  rest_resumed response old kept result wait policy changed outcome output had gave decided ended (Err error, service, polls, readiness, is) = λ request. (
    record { request = request; result = result; decision = RetryAfter wait } ∷ [],
    (
      record { made = refl; response = response; in_flight = refl; gave = gave },
      (
        error,
        record { policy = policy; service = service; request = Some changed; state = Retrying },
        record { kept = kept; had = had; changed = changed; outcome = outcome; decided = decided; ended = ended; polls = polls; readiness = readiness; request = refl; state = refl },
        is,
      ),
    ),
  )
  rest_resumed response old kept result wait policy changed outcome output had gave decided ended (Ok ready, service, polls, readiness, (new, again, ([], none))) = absurd none
  rest_resumed response old kept result wait policy changed outcome output had gave decided ended (Ok ready, service, polls, readiness, (new, again, (next ∷ rest, more))) = λ request. (
    record { request = request; result = result; decision = RetryAfter wait } ∷ next ∷ rest,
    (
      record { made = refl; response = response; in_flight = refl; gave = gave },
      (
        again.request,
        new,
        (
          record { policy = policy; service = service; request = Some changed; state = Retrying },
          record { kept = kept; had = had; changed = changed; outcome = outcome; decided = decided; ended = ended; polls = polls; readiness = readiness; request = refl; state = refl },
          (again, refl),
        ),
        more,
      ),
    ),
  )

  -- the attempts of a request in flight
  attempts_at : (old : Attempts P S Q F W) (response : F) (output : Result A (Error E)) → old.state ≡ InFlight response → Rest old output
      → (request : Q) → (attempts : List (Attempt Q A E W)) × Attempted s stepped p waited attempts request old output
  attempts_at old response output is rest = λ request.
      let at : RestAt (InFlight response) old output = subst (λ (under_way : State F W). RestAt under_way old output) is rest in
      let found = at request in
      let same : record old { state = InFlight response } ≡ old = ap (λ (under_way : State F W). record old { state = under_way }) (sym is) in
      (found.0, subst (λ (v : Attempts P S Q F W). Attempted s stepped p waited found.0 request v output) same found.1)

  -- what is under way doesn't count after a result
  waited_at : (old : Attempts P S Q F W) (under_way : State F W) (result : Result A E) (wait : W) (answer : Result (Unit {0}) E) (new : Attempts P S Q F W)
      → Waited s stepped p waited old result wait answer new → Waited s stepped p waited (record old { state = under_way }) result wait answer new
  waited_at old under_way result wait answer new was = record {
    kept = was.kept;
    had = was.had;
    changed = was.changed;
    outcome = was.outcome;
    decided = was.decided;
    ended = was.ended;
    polls = was.polls;
    readiness = was.readiness;
    request = was.request;
    state = was.state;
  }

  ends_at : (old : Attempts P S Q F W) (under_way : State F W) (decision : Decision W) (result : Result A E) (output : Result A (Error E))
      → Ends s stepped p waited decision old result output → Ends s stepped p waited decision (record old { state = under_way }) result output
  ends_at old under_way NotKept result output ends = ends
  ends_at old under_way NoRetry result output ends = ends
  ends_at old under_way (RetryAfter wait) result output (error, left, was, is) = (error, left, waited_at old under_way result wait _ left was, is)

  retries_at : (old : Attempts P S Q F W) (under_way : State F W) (decision : Decision W) (result : Result A E) (request : Q) (new : Attempts P S Q F W)
      → Retries s stepped p waited decision old result request new → Retries s stepped p waited decision (record old { state = under_way }) result request new
  retries_at old under_way NotKept result request new none = absurd none
  retries_at old under_way NoRetry result request new none = absurd none
  retries_at old under_way (RetryAfter wait) result request new (left, was, more) = (left, waited_at old under_way result wait _ left was, more)

  -- a pending poll of the inner future before
  tried_earlier : (old : Attempts P S Q F W) (response left : F) (request : Q) (attempt : Attempt Q A E W) → stepped response Pending left
      → Tried s stepped p waited request (record old { state = InFlight left }) attempt → Tried s stepped p waited request (record old { state = InFlight response }) attempt
  tried_earlier old response left request attempt polled was =
      let is : was.response ≡ left = cc (was.in_flight) in
      let gave = subst (λ (f : F). MayGive stepped f attempt.result) is was.gave in
      record { made = was.made; response = response; in_flight = refl; gave = gives_same stepped response Pending left polled attempt.result gave }

  attempted_earlier : (old : Attempts P S Q F W) (response left : F) (output : Result A (Error E)) (request : Q) (attempts : List (Attempt Q A E W)) → stepped response Pending left
      → Attempted s stepped p waited attempts request (record old { state = InFlight left }) output
      → Attempted s stepped p waited attempts request (record old { state = InFlight response }) output
  attempted_earlier old response left output request [] polled none = absurd none
  attempted_earlier old response left output request (last ∷ []) polled (tried, ends) =
      (tried_earlier old response left request last polled tried, ends_at (record old { state = InFlight left }) (InFlight response) last.decision last.result output ends)
  attempted_earlier old response left output request (attempt ∷ next ∷ rest) polled (tried, (again, new, retries, more)) = (
    tried_earlier old response left request attempt polled tried,
    (again, new, retries_at (record old { state = InFlight left }) (InFlight response) attempt.decision attempt.result again new retries, more),
  )

  -- an iteration without an answer, after which the rest gives the output

  none_result : (response left : F) (old new : Attempts P S Q F W) (result : Result A E) (output : Result A (Error E)) (kept : Option Q) → old.request ≡ kept
      → MayGive stepped response result → AfterResult p kept (record old { state = InFlight left }) result None new → Rest new output → RestAt (InFlight response) old output
  none_result response left old new result output None had gave (is, same) rest = absurd (cc (is))
  none_result response left old new result output (Some kept) had gave (None, policy, changed, outcome, decided, (is, same)) rest = absurd (cc (is))
  none_result response left old new result output (Some kept) had gave (Some wait, policy, changed, outcome, decided, (is, same)) rest =
      let at : RestAt (Waiting wait) (record { policy = policy; service = old.service; request = Some changed; state = Waiting wait }) output =
      subst (λ (v : Attempts P S Q F W). Rest v output) same rest in
      rest_resumed response old kept result wait policy changed outcome output had gave decided at.0 at.1

  rest_none : (under_way : State F W) (old new : Attempts P S Q F W) (output : Result A (Error E)) → IterationAt s stepped p waited under_way old None new
      → Rest new output → RestAt under_way old output
  rest_none (InFlight response) old new output (Pending, left, polled, (is, same)) rest = absurd (cc (is))
  rest_none (InFlight response) old new output (Ready result, left, polled, after) rest =
      none_result response left old new result output old.request refl (gives_value stepped response (Ready result) left polled) after rest
  rest_none (Waiting wait) old new output (Pending, left, polled, (is, same)) rest = absurd (cc (is))
  rest_none (Waiting wait) old new output (Ready end, left, polled, (is, same)) rest =
      let at : Resumes old output = subst (λ (v : Attempts P S Q F W). Rest v output) same rest in
      (gives_value waited wait (Ready end) left polled, at)
  rest_none Retrying old new output (Pending, left, polled, (is, same)) rest = absurd (cc (is))
  rest_none Retrying old new output (Ready (Err error), left, polled, (is, same)) rest = absurd (cc (is))
  rest_none Retrying old new output (Ready (Ok ready), left, polled, (is, again)) rest = (
    Ok ready,
    left,
    zero,
    polled,
    (
      new,
      record {
        request = again.request;
        had = again.had;
        copied = again.copied;
        ready = again.ready;
        response = again.response;
        called = again.called;
        state = again.state;
      },
      attempts_at new again.response output again.state rest again.request,
    ),
  )

  -- a pending iteration

  pending_result : (left : Attempts P S Q F W) (new : Attempts P S Q F W) (result : Result A E) (kept : Option Q)
      → AfterResult p kept left result (Some Pending) new → ⊥
  pending_result left new (Ok x) None (is, same) = cc (is)
  pending_result left new (Err e) None (is, same) = cc (is)
  pending_result left new result (Some kept) (None, policy, changed, Ok x, decided, (is, same)) = cc (is)
  pending_result left new result (Some kept) (None, policy, changed, Err e, decided, (is, same)) = cc (is)
  pending_result left new result (Some kept) (Some wait, policy, changed, outcome, decided, (is, same)) = cc (is)

  rest_pending : (under_way : State F W) (old new : Attempts P S Q F W) (output : Result A (Error E)) → old.state ≡ under_way
      → IterationAt s stepped p waited under_way old (Some Pending) new → Rest new output → RestAt under_way old output
  rest_pending (InFlight response) old new output here (Pending, left, polled, (is, same)) rest = λ request.
      let at : RestAt (InFlight left) old output = subst (λ (v : Attempts P S Q F W). Rest v output) same rest in
      let found = at request in
      (found.0, attempted_earlier old response left output request found.0 polled found.1)
  rest_pending (InFlight response) old new output here (Ready result, left, polled, after) rest = absurd (pending_result _ new result old.request after)
  rest_pending (Waiting wait) old new output here (Pending, left, polled, (is, same)) rest =
      let at : RestAt (Waiting left) old output = subst (λ (v : Attempts P S Q F W). Rest v output) same rest in
      (gives_same waited wait Pending left polled tt at.0, at.1)
  rest_pending (Waiting wait) old new output here (Ready end, left, polled, (is, same)) rest = absurd (cc (is))
  rest_pending Retrying old new output here (Pending, left, polled, (is, same)) rest =
      let there : RestAt old.state (record old { service = left }) output = subst (λ (v : Attempts P S Q F W). Rest v output) same rest in
      let at : RestAt Retrying (record old { service = left }) output = subst (λ (under_way : State F W). RestAt under_way (record old { service = left }) output) here there in
      (at.0, at.1, suc at.2, (left, polled, at.3), at.4)
  rest_pending Retrying old new output here (Ready (Err error), left, polled, (is, same)) rest = absurd (cc (is))
  rest_pending Retrying old new output here (Ready (Ok ready), left, polled, (is, again)) rest = absurd (cc (is))

  -- an iteration that answers

  ready_result : (response left : F) (old new : Attempts P S Q F W) (result : Result A E) (output : Result A (Error E)) (kept : Option Q) → old.request ≡ kept
      → MayGive stepped response result → AfterResult p kept (record old { state = InFlight left }) result (Some (Ready output)) new → RestAt (InFlight response) old output
  ready_result response left old new result output None had gave (is, same) = λ request. (
    record { request = request; result = result; decision = NotKept } ∷ [],
    (record { made = refl; response = response; in_flight = refl; gave = gave }, (had, cc (is))),
  )
  ready_result response left old new result output (Some kept) had gave (None, policy, changed, outcome, decided, (is, same)) = λ request. (
    record { request = request; result = result; decision = NoRetry } ∷ [],
    (record { made = refl; response = response; in_flight = refl; gave = gave }, (kept, policy, changed, outcome, had, decided, cc (is))),
  )
  ready_result response left old new result output (Some kept) had gave (Some wait, policy, changed, outcome, decided, (is, same)) = absurd (cc (is))

  rest_ready : (under_way : State F W) (old new : Attempts P S Q F W) (output : Result A (Error E)) → IterationAt s stepped p waited under_way old (Some (Ready output)) new
      → RestAt under_way old output
  rest_ready (InFlight response) old new output (Pending, left, polled, (is, same)) = absurd (cc (is))
  rest_ready (InFlight response) old new output (Ready result, left, polled, after) =
      ready_result response left old new result output old.request refl (gives_value stepped response (Ready result) left polled) after
  rest_ready (Waiting wait) old new output (Pending, left, polled, (is, same)) = absurd (cc (is))
  rest_ready (Waiting wait) old new output (Ready end, left, polled, (is, same)) = absurd (cc (is))
  rest_ready Retrying old new output (Pending, left, polled, (is, same)) = absurd (cc (is))
  rest_ready Retrying old new output (Ready (Err error), left, polled, (is, same)) = (Err error, left, zero, polled, cc (is))
  rest_ready Retrying old new output (Ready (Ok ready), left, polled, (is, again)) = absurd (cc (is))

  -- polls

  rest_goes : (count : ℕ) (old last : Attempts P S Q F W) (output : Result A (Error E)) → Iterates (Iteration s stepped p waited) count old last → Rest last output → Rest old output
  unfolding Iterates
  rest_goes zero old last output went rest = subst (λ (v : Attempts P S Q F W). Rest v output) went rest
  rest_goes (suc count) old last output (mid, went, pass) rest = rest_goes count old mid output went (rest_none mid.state mid last output pass rest)

  rest_answers : (old new : Attempts P S Q F W) (output : Result A (Error E)) → Iterations (Iteration s stepped p waited) Pending old (Ready output) new → Rest old output
  rest_answers old new output poll = ⊎_elim
      (λ ends. rest_goes poll.count old poll.last output poll.went (rest_ready poll.last.state poll.last new output ends.1))
      (λ tired. absurd (cc (tired.1))) poll.ends

  rest_pends : (old new : Attempts P S Q F W) (output : Result A (Error E)) → Iterations (Iteration s stepped p waited) Pending old Pending new → Rest new output → Rest old output
  rest_pends old new output poll rest = rest_goes poll.count old poll.last output poll.went (⊎_elim
      (λ ends. rest_pending poll.last.state poll.last new output refl ends.1 rest)
      (λ tired. subst (λ (v : Attempts P S Q F W). Rest v output) tired.2 rest) poll.ends)

  rest_gives : (polls : ℕ) (old : Attempts P S Q F W) (output : Result A (Error E)) → GivesAfter (Stepped s stepped p waited) polls (Some old) output → Rest old output
  rest_gives zero old output (new, (left, is, poll)) = rest_answers old left output poll
  rest_gives (suc polls) old output (new, (left, is, poll), more) =
      let after = subst (λ (v : ResponseFutureView P S Q F W). GivesAfter (Stepped s stepped p waited) polls v output) is more in
      rest_pends old left output poll (rest_gives polls left output after)

  none_gives : (polls : ℕ) (output : Result A (Error E)) → GivesAfter (Stepped s stepped p waited) polls None output → output ≡ Err Memory
  none_gives zero output (new, (is, same)) = cc (is)
  none_gives (suc polls) output (new, (is, same), more) = absurd (cc (is))

  pub gives_answers : (policy_clone : CloneOf P) (service_clone : CloneOf S) → GivesAnswers s stepped p waited policy_clone service_clone
  unfolding MayGive
  gives_answers policy_clone service_clone old request (Some first) new output call gives =
      attempts_at first call.response output call.begins.3 (rest_gives gives.0 first output gives.1) request
  gives_answers policy_clone service_clone old request None new output call gives = none_gives gives.0 output gives.1
