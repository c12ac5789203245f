-- A `Filter` passes on what its predicate let through.
use Rattle.std.proofs.Common.{◌≡◌, ℕ, List, [], ◌∷◌, ◌++◌, Option, Result, Ok, Err, refl, ap, subst}
use Rattle.futures.specs.declared.task.Poll.TheVariants.{Ready, Pending}
use Rattle.tower_base.specs.ServiceRun.{Relations, relations, Action, Transition, Takes, ServiceRun, request_of, requests}
use Rattle.tower_base.specs.declared.service.Service.{Ghosts as ServiceOf}
use Rattle.tower_base.specs.declared.service.Steps.{Ghosts as StepsOf}
use Rattle.tower_laws.proofs.Responses.{Forwards, carries, at_once}
use Rattle.tower_laws.specs.Filter.{Answer, Checks, RunsLetThrough, let_through}
use Rattle.tower_laws.specs.Responses.{AtOnce, Comes, wrapped}
use Rattle.tower_laws.specs.Runs.{future_of, futures}
use Rattle.tower_ware.specs.Filter.{FilterView, FilterCalled, Polled, ResponseFutureStepped}
use Rattle.tower_ware.specs.declared.filter.error.Error.{Error}
use Rattle.tower_ware.specs.declared.filter.error.Error.TheVariants.{Inner, Rejected}
use Rattle.tower_ware.specs.declared.filter.predicate.Predicate.{Ghosts as PredicateOf}
use Rattle.tower_ware.specs.declared.filter.state.State.{State}
use Rattle.tower_ware.specs.declared.filter.state.State.TheVariants.{Response, Refusal, Answered}

module _ {S Q A E F U R P : Type 0} (s : ServiceOf S Q A E F) (f : StepsOf F (Result A E)) (u : PredicateOf U R Q P) where
  abbrev View : Type 0
  View = FilterView S U

  abbrev filter_of : Relations View R (Error E P) (State F P)
  filter_of = record { ready = λ v. s.ready v.inner; polled = Polled s; called = FilterCalled s u }

  -- what comes of a call
  forwards : Forwards f.stepped (ResponseFutureStepped {P = P} f) Inner (λ (response : F). Response response)
  forwards response (Ready output) new (left, step, same) = (step.inner, left, step.stepped, step.answers, tt)
  forwards response Pending new (left, step, same) = (step.inner, left, step.stepped, step.answers, same)

  passed : (response : F) (polls : ℕ) (output : Option (Result A (Error E P))) → Comes (ResponseFutureStepped f) polls (Response response) output
      → (answer : Option (Result A E)) × Comes f.stepped polls response answer × (output ≡ wrapped Inner answer)
  passed response polls output comes = carries f.stepped (ResponseFutureStepped f) Inner (λ (response : F). Response response) forwards polls response output comes

  refused : (error : P) (polls : ℕ) (output : Option (Result A (Error E P))) → Comes (ResponseFutureStepped f) polls (Refusal error) output
      → AtOnce (Err (Rejected error)) polls output
  refused error polls output comes = at_once (ResponseFutureStepped f) (Refusal error) (Err (Rejected error)) (λ answer new step. step.0) polls output comes

  -- the calls of these requests, with these futures
  record Inside (old : View) (asked : List R) (gave : List (State F P)) (new : View) : Type 0 where
    results : List (Result Q P)
    checks : Checks filter_of s f u old.predicate asked results new.predicate
    inside : List (Transition S Q E F)
    runs : ServiceRun (relations s) old.inner inside new.inner
    gets : requests inside ≡ let_through results
    answer : Answer filter_of s f u results gave (futures inside)

  goes : (old left new : View) (action : Action R (Error E P) (State F P)) (asked : List R) (gave : List (State F P)) → Takes filter_of old action left
      → Inside left asked gave new → Inside old (request_of action ++ asked) (future_of action ++ gave) new
  goes old left new (Action.poll answer) asked gave takes more = record {
    results = more.results;
    checks = subst (λ (p : U). Checks filter_of s f u p asked more.results new.predicate) takes.same more.checks;
    inside = record { action = Action.poll takes.inner; left = left.inner } ∷ more.inside;
    runs = (takes.polled, more.runs);
    gets = more.gets;
    answer = more.answer;
  }
  goes old left new (Action.call request (Response future)) asked gave takes more = record {
    results = Ok takes.1.0 ∷ more.results;
    checks = (left.predicate, takes.1.1, more.checks);
    inside = record { action = Action.call takes.1.0 future; left = left.inner } ∷ more.inside;
    runs = ((takes.1.2, takes.1.3), more.runs);
    gets = ap (λ (made : List Q). takes.1.0 ∷ made) more.gets;
    answer = (passed future, more.answer);
  }
  goes old left new (Action.call request (Refusal error)) asked gave takes more = record {
    results = Err error ∷ more.results;
    checks = (left.predicate, takes.1.0, more.checks);
    inside = more.inside;
    runs = subst (λ (v : S). ServiceRun (relations s) v more.inside new.inner) takes.1.1 more.runs;
    gets = more.gets;
    answer = (refused error, more.answer);
  }
  goes old left new (Action.call request Answered) asked gave takes more = absurd takes.1

  went : (old new : View) (run : List (Transition View R (Error E P) (State F P))) → ServiceRun filter_of old run new → Inside old (requests run) (futures run) new
  went old new [] here = record { results = []; checks = ap (λ v. v.predicate) here; inside = []; runs = ap (λ v. v.inner) here; gets = refl; answer = tt }
  went old new (first ∷ rest) runs = goes old first.left new first.action (requests rest) (futures rest) runs.0 (went first.left new rest runs.1)

  pub runs_let_through : RunsLetThrough filter_of s f u
  runs_let_through old new run runs =
      let here = went old new run runs in
      record { results = here.results; checks = here.checks; inside = here.inside; runs = here.runs; gets = here.gets; answer = here.answer }
