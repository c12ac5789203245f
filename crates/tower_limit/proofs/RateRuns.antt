-- A run of a rate limit is a fair list of steps.
use Rattle.std.proofs.Common.{◌≡◌, ◌+◌, ◌≤◌, ◌||◌, ℕ, Bool, true, false, not, List, [], ◌∷◌, refl, ap, sym, ◌∙◌, subst, arith, Result}
use Rattle.futures.specs.declared.task.Poll.{Poll}
use Rattle.tower_base.specs.Monotonic.{IsMonotonic}
use Rattle.tower_base.specs.Projection.{Once, Each, RunInside, Projects}
use Rattle.tower_base.specs.ProjectionLemmas.{no_action, one_poll, one_call, projected, once_same}
use Rattle.tower_base.specs.ServiceRun.{relations, Action, Transition, Takes, ServiceRun, requests}
use Rattle.tower_base.specs.declared.service.Service.{Ghosts as ServiceOf}
use Rattle.tower_base.specs.declared.service.Clock.{Ghosts as ClockOf}
use Rattle.tower_limit.specs.Rate.{Calls, RateLimitView, RateCoreView, StandsFor, PollsAt, Asks, initial, is_limited, admits, may_call, after_poll, after_call}
use Rattle.tower_limit.specs.RateLaws.{Step, Fair, one_within, calls_within}
use Rattle.tower_limit.specs.RateRun.{rate_of, within, call_moments, Forward, RunsBounded, RunsForward, KeepsRate}
use Rattle.tower_limit.proofs.RateBound.{bounded}
use Rattle.tower_limit.proofs.RateStands.{full}

-- of all lists of calls that a core stands for the same may be called
same_may : (core : RateCoreView) (a b : Calls) → StandsFor core a → StandsFor core b → may_call a ≡ may_call b
same_may core a b first second =
    let limited : is_limited a ≡ is_limited b = sym (full core a first) ∙ full core b second in
    let admission : a.admitted ≡ b.admitted = first.admission ∙ sym second.admission in
    ap (λ (l : Bool). not l || a.admitted) limited ∙ ap (λ (p : Bool). not (is_limited b) || p) admission

earlier : (plain : Calls) (now later : ℕ) (steps : List Step) → now ≤ later → Fair plain later steps → Fair plain now steps
earlier plain now later [] le fair = tt
earlier plain now later (Step.poll moment ∷ steps) le fair = let first = fair.0 in (omega arith, fair.1)
earlier plain now later (Step.call moment ∷ steps) le fair = let first = fair.0 in (omega arith, fair.1, fair.2)

-- a fair list of steps with calls at these moments
record Counted (plain : Calls) (now : ℕ) (moments : List ℕ) : Type 0 where
  steps : List Step
  fair : Fair plain now steps
  same : (from per : ℕ) → calls_within from per steps ≡ within from per moments

module _ {S C Q A E F : Type 0} (s : ServiceOf S Q A E F) (c : ClockOf C) where
  abbrev View : Type 0
  View = RateLimitView S C

  abbrev Run : Type 0
  Run = List (Transition View Q E F)

  polled : (limited : Bool) (plain : Calls) (now : ℕ) (old : View) (answer : Poll (Result (Unit {0}) E)) (new : View) (rest : List ℕ) → StandsFor old.core plain
      → PollsAt s c limited plain old answer new → now ≤ c.reading new.clock
      → ((after : Calls) → StandsFor new.core after → Counted after (c.reading new.clock) rest) → Counted plain now rest
  polled true plain now old answer new rest stands polls le next =
      let n = next (after_poll plain (c.reading new.clock)) polls.1 in
      record { steps = Step.poll (c.reading new.clock) ∷ n.steps; fair = (le, n.fair); same = n.same }
  polled false plain now old answer new rest stands polls le next =
      let same : StandsFor new.core plain = subst (λ (core : RateCoreView). StandsFor core plain) (sym (ap (λ v. v.core) polls.0)) stands in
      let n = next plain same in
      record { steps = n.steps; fair = earlier plain now (c.reading new.clock) n.steps le n.fair; same = n.same }

  taken : (plain : Calls) (now : ℕ) (old : View) (action : Action Q E F) (left : View) (rest : Run) → StandsFor old.core plain
      → Takes (rate_of s c) old action left → now ≤ c.reading left.clock
      → ((after : Calls) → StandsFor left.core after → Counted after (c.reading left.clock) (call_moments c rest))
      → Counted plain now (call_moments c (record { action = action; left = left } ∷ rest))
  taken plain now old (Action.poll answer) left rest stands takes le next =
      polled (is_limited plain) plain now old answer left (call_moments c rest) stands (takes.polls plain stands) le next
  taken plain now old (Action.call request future) left rest stands takes le next =
      let some = takes.1.may in
      let may : may_call plain ≡ true = same_may old.core plain some.0 stands some.1 ∙ some.2 in
      let n = next (after_call plain (c.reading left.clock)) (takes.1.joins plain stands) in
      record {
        steps = Step.call (c.reading left.clock) ∷ n.steps;
        fair = (le, may, n.fair);
        same = λ from per. ap (λ (k : ℕ). one_within from per (c.reading left.clock) + k) (n.same from per);
      }

  counted : (plain : Calls) (now : ℕ) (old last : View) (run : Run) → StandsFor old.core plain → ServiceRun (rate_of s c) old run last
      → Forward c now run → Counted plain now (call_moments c run)
  counted plain now old last [] stands runs forward = record { steps = []; fair = tt; same = λ from per. refl }
  counted plain now old last (t ∷ rest) stands runs forward =
      taken plain now old t.action t.left rest stands runs.0 forward.0 (λ after here. counted after (c.reading t.left.clock) t.left last rest here runs.1 forward.1)

  pub runs_bounded : RunsBounded s c
  runs_bounded num per first last run stands runs forward from =
      let n = counted (initial num per) 0 first last run stands runs forward in
      subst (λ (k : ℕ). k ≤ num) (n.same from per) (bounded num per n.steps stands.takes n.fair from)

  -- a reading that isn't before the last, or none
  polled_forward : IsMonotonic c.reading c.read → (limited : Bool) (plain : Calls) (old : View) (answer : Poll (Result (Unit {0}) E)) (new : View)
      → PollsAt s c limited plain old answer new → c.reading old.clock ≤ c.reading new.clock
  polled_forward never true plain old answer new polls = never old.clock new.clock polls.0
  polled_forward never false plain old answer new polls = let same : c.reading new.clock ≡ c.reading old.clock = ap (λ v. c.reading v.clock) polls.0 in omega arith

  takes_forward : IsMonotonic c.reading c.read → (old : View) (action : Action Q E F) (new : View) → Takes (rate_of s c) old action new
      → c.reading old.clock ≤ c.reading new.clock
  takes_forward never old (Action.poll answer) new takes =
      polled_forward never (is_limited takes.stands.0) takes.stands.0 old answer new (takes.polls takes.stands.0 takes.stands.1)
  takes_forward never old (Action.call request future) new takes = never old.clock new.clock takes.1.read

  stays_forward : IsMonotonic c.reading c.read → (now : ℕ) (first last : View) (run : Run) → now ≤ c.reading first.clock
      → ServiceRun (rate_of s c) first run last → Forward c now run
  stays_forward never now first last [] le runs = tt
  stays_forward never now first last (t ∷ rest) le runs =
      let step = takes_forward never first t.action t.left runs.0 in
      (omega arith, stays_forward never (c.reading t.left.clock) t.left last rest (omega arith) runs.1)

  pub runs_forward : RunsForward s c
  runs_forward never first last run runs = stays_forward never 0 first last run (omega arith) runs

  -- one poll inside, or none if the calls answer it
  asked_inside : {Has : List Q → Type 0} (ask : Bool) (old : View) (answer : Poll (Result (Unit {0}) E)) (new : View) → Asks s c ask old.inner answer new.inner → Has []
      → RunInside (relations s) Has old.inner new.inner
  asked_inside true old answer new here has = one_poll (relations s) old.inner new.inner answer here has
  asked_inside false old answer new here has = no_action (relations s) old.inner new.inner here.1 has

  polled_inside : {Has : List Q → Type 0} (limited : Bool) (plain : Calls) (old : View) (answer : Poll (Result (Unit {0}) E)) (new : View)
      → PollsAt s c limited plain old answer new → Has [] → RunInside (relations s) Has old.inner new.inner
  polled_inside true plain old answer new polls has = asked_inside (admits plain (c.reading new.clock)) old answer new polls.2 has
  polled_inside false plain old answer new polls has = one_poll (relations s) old.inner new.inner answer polls.1 has

  pub rate_limit : Projects (rate_of s c) (relations s) (λ l. l.inner) Once
  rate_limit old (Action.poll answer) new takes =
      polled_inside (is_limited takes.stands.0) takes.stands.0 old answer new (takes.polls takes.stands.0 takes.stands.1) refl
  rate_limit old (Action.call request future) new takes = one_call (relations s) old.inner new.inner request future takes.1.ready takes.1.called refl

  pub keeps_rate : {P : Type 0} (goes : P → List Q → Type 0) (made : List P) (first last : View) → IsMonotonic c.reading c.read
      → RunInside (rate_of s c) (Each goes made) first last → KeepsRate s c goes first made last
  keeps_rate goes made first last never here =
      let there = projected (rate_of s c) (relations s) (λ l. l.inner) Once rate_limit first last here.transitions here.run in
      record {
        transitions = here.transitions;
        run = here.run;
        goes_in = here.has;
        inner = record { transitions = there.transitions; run = there.run; same = once_same (requests here.transitions) (requests there.transitions) there.has };
        bound = λ num per stands. runs_bounded num per first last here.transitions stands here.run (runs_forward never first last here.transitions here.run);
      }
