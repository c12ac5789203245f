-- How runs and projections are composed.
use Rattle.std.proofs.Common.{◌≡◌, subst, List, [], ◌∷◌, ◌++◌, refl, ap, sym, ◌∙◌, append_assoc, Result}
use Rattle.std.proofs.lemmas.List.{append-nil}
use Rattle.futures.specs.declared.task.Poll.{Poll}
use Rattle.tower_base.specs.ServiceRun.{Relations, Action, Transition, ServiceRun, request_of, requests}
use Rattle.tower_base.specs.Projection.{Once, ByAction, Each, Through, RunInside, Projects, RunsProject}

module _ {S Q E F : Type 0} (s : Relations S Q E F) where
  -- A run and one that continues from it are one run.
  pub joined : (old mid new : S) (first second : List (Transition S Q E F)) → ServiceRun s old first mid → ServiceRun s mid second new
      → ServiceRun s old (first ++ second) new
  joined old mid new [] second before after = let P : S → Type 0 = λ x. ServiceRun s x second new in subst P before after
  joined old mid new (t ∷ rest) second before after = (before.0, joined t.left mid new rest second before.1 after)

  pub requests_joined : (first second : List (Transition S Q E F)) → requests (first ++ second) ≡ requests first ++ requests second
  requests_joined [] second = refl
  requests_joined (t ∷ rest) second = ap (λ x. request_of t.action ++ x) (requests_joined rest second) ∙ sym (append_assoc (request_of t.action) (requests rest) (requests second))

  -- Runs of no action, of one poll and of one call.
  pub no_action : {Has : List Q → Type 0} (old new : S) → new ≡ old → Has [] → RunInside s Has old new
  no_action old new here has = record { transitions = []; run = here; has = has }

  pub one_poll : {Has : List Q → Type 0} (old new : S) (answer : Poll (Result (Unit {0}) E)) → s.polled old answer new → Has [] → RunInside s Has old new
  one_poll old new answer polled has = record { transitions = record { action = Action.poll answer; left = new } ∷ []; run = (polled, refl); has = has }

  pub one_call : {Has : List Q → Type 0} (old new : S) (request : Q) (future : F) → s.ready old → s.called old request future new → Has (request ∷ []) → RunInside s Has old new
  one_call old new request future ready called has = record { transitions = record { action = Action.call request future; left = new } ∷ []; run = ((ready, called), refl); has = has }

module _ {Q R : Type 0} (goes : Q → List R → Type 0) where
  pub each_one : (request : Q) (inside : List R) → goes request inside → Each goes (request ∷ []) inside
  each_one request inside here = (inside, [], here, refl, sym (append-nil inside))

  pub each_joined : (first second : List Q) (a b : List R) → Each goes first a → Each goes second b → Each goes (first ++ second) (a ++ b)
  each_joined [] second a b before after = subst (λ x. Each goes second (x ++ b)) (sym before) after
  each_joined (request ∷ rest) second a b before after =
      (before.0, before.1 ++ b, before.2, each_joined rest second before.1 b before.3 after, ap (λ x. x ++ b) before.4 ∙ append_assoc before.0 before.1 b)

  by_action_each : {E F : Type 0} (action : Action Q E F) (inside : List R) → ByAction goes action inside → Each goes (request_of action) inside
  by_action_each (Action.poll answer) inside here = here
  by_action_each (Action.call request future) inside here = each_one request inside here

module _ {W S Q R E D F G : Type 0} (outer : Relations W Q E F) (inner : Relations S R D G) (inside : W → S) (goes : Q → List R → Type 0) where
  pub projected : Projects outer inner inside goes → RunsProject outer inner inside goes
  projected each old new [] run = record { transitions = []; run = ap inside run; has = refl }
  projected each old new (t ∷ rest) run =
      let here = each old t.action t.left run.0 in
      let after = projected each t.left new rest run.1 in
      record {
        transitions = here.transitions ++ after.transitions;
        run = joined inner (inside old) (inside t.left) (inside new) here.transitions after.transitions here.run after.run;
        has = subst (λ x. Each goes (request_of t.action ++ requests rest) x) (sym (requests_joined inner here.transitions after.transitions))
            (each_joined goes (request_of t.action) (requests rest) (requests here.transitions) (requests after.transitions)
            (by_action_each goes t.action (requests here.transitions) here.has) after.has);
      }

module _ {W S X Q P R E D H F G I : Type 0} (outer : Relations W Q E F) (middle : Relations S P D G) (inner : Relations X R H I)
    (outside : W → S) (inside : S → X) (goes : Q → List P → Type 0) (on : P → List R → Type 0) where
  has_through : (action : Action Q E F) (between : List P) (last : List R) → ByAction goes action between → Each on between last → ByAction (Through goes on) action last
  has_through (Action.poll answer) between last here there = subst (λ x. Each on x last) here there
  has_through (Action.call request future) between last here there = (between, here, there)

  -- Projections compose: a service inside of the service inside is itself inside.
  pub composed : Projects outer middle outside goes → Projects middle inner inside on → Projects outer inner (λ w. inside (outside w)) (Through goes on)
  composed first second old action new takes =
      let here = first old action new takes in
      let there = projected middle inner inside on second (outside old) (outside new) here.transitions here.run in
      record { transitions = there.transitions; run = there.run; has = has_through action (requests here.transitions) (requests there.transitions) here.has there.has }

-- A service is inside of itself.
pub itself : {S Q E F : Type 0} (s : Relations S Q E F) → Projects s s (λ x. x) Once
itself s old (Action.poll answer) new takes = one_poll s old new answer takes refl
itself s old (Action.call request future) new takes = one_call s old new request future takes.0 takes.1 refl

-- If each request is made inside once, the requests inside are just the same.
pub once_same : {Q : Type 0} (outside inside : List Q) → Each Once outside inside → inside ≡ outside
once_same [] inside here = here
once_same (request ∷ rest) inside here = here.4 ∙ (ap (λ x. x ++ here.1) here.2 ∙ ap (λ x. request ∷ x) (once_same rest here.1 here.3))

-- If each call makes the same request inside once, the requests further inside come from that request.
module _ {W S X Q R E D H F G I : Type 0} (outer : Relations W Q E F) (middle : Relations S Q D G) (inner : Relations X R H I)
    (outside : W → S) (inside : S → X) (on : Q → List R → Type 0) where
  on_each : (request : Q) (last : List R) → Each on (request ∷ []) last → on request last
  on_each request last here = subst (λ x. on request x) (sym (here.4 ∙ (ap (λ x. here.0 ++ x) here.3 ∙ append-nil here.0))) here.2

  has_once : (action : Action Q E F) (between : List Q) (last : List R) → ByAction Once action between → Each on between last → ByAction on action last
  has_once (Action.poll answer) between last here there = subst (λ x. Each on x last) here there
  has_once (Action.call request future) between last here there = on_each request last (subst (λ x. Each on x last) here there)

  pub composed_once : Projects outer middle outside Once → Projects middle inner inside on → Projects outer inner (λ w. inside (outside w)) on
  composed_once first second old action new takes =
      let here = first old action new takes in
      let there = projected middle inner inside on second (outside old) (outside new) here.transitions here.run in
      record { transitions = there.transitions; run = there.run; has = has_once action (requests here.transitions) (requests there.transitions) here.has there.has }

-- A service that forwards each poll and each call to the service inside, and may change what it returns.
module _ {W S Q E D F G : Type 0} (outer : Relations W Q E F) (inner : Relations S Q D G) (inside : W → S) where
  pub forwards : ((old new : W) (answer : Poll (Result (Unit {0}) E)) → outer.polled old answer new → (within : Poll (Result (Unit {0}) D)) × inner.polled (inside old) within (inside new))
      → ((old new : W) (request : Q) (future : F) → outer.called old request future new → (response : G) × inner.ready (inside old) × inner.called (inside old) request response (inside new))
      → Projects outer inner inside Once
  forwards polls calls old (Action.poll answer) new takes = let here = polls old new answer takes in one_poll inner (inside old) (inside new) here.0 here.1 refl
  forwards polls calls old (Action.call request future) new takes =
      let here = calls old new request future takes.1 in one_call inner (inside old) (inside new) request here.0 here.1 here.2 refl
