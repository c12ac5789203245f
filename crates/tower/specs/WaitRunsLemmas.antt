-- How waits are joined to runs.
use Rattle.std.proofs.Common.{◌≡◌, inl, inr, ℕ, zero, suc, List, [], ◌∷◌, ◌++◌, refl, ap, sym, ◌∙◌, subst, append_assoc, Result, Ok}
use Rattle.futures.specs.declared.task.Poll.{Poll}
use Rattle.futures.specs.declared.task.Poll.TheVariants.{Ready, Pending}
use Rattle.tower_base.specs.Projection.{AtMostOnce, Each as EachMakes, Through}
use Rattle.tower_base.specs.ProjectionLemmas.{joined, requests_joined, no_action, one_poll, one_call, each_one, each_joined}
use Rattle.tower_base.specs.ServiceRun.{relations, requests}
use Rattle.tower_base.specs.declared.service.Service.{Ghosts as ServiceOf}
use Rattle.tower.specs.Waits.{Pends, Pended, Waited, Answered}
use Rattle.tower.specs.WaitRuns.{Ran, RanOn, WaitsRun, LoopsRun}

module _ {S Q A E F : Type 0} (s : ServiceOf S Q A E F) where
  -- A run and one that continues from it are one run.
  pub ran_joined : (first second : List Q) (old mid new : S) → Ran s first old mid → Ran s second mid new → Ran s (first ++ second) old new
  ran_joined first second old mid new before after = record {
    transitions = before.transitions ++ after.transitions;
    run = joined (relations s) old mid new before.transitions after.transitions before.run after.run;
    has = subst (λ x. EachMakes AtMostOnce (first ++ second) x) (sym (requests_joined (relations s) before.transitions after.transitions))
        (each_joined AtMostOnce first second (requests before.transitions) (requests after.transitions) before.has after.has);
  }

  -- no action yet
  pub ran_start : (service : S) → Ran s [] service service
  ran_start service = no_action (relations s) service service refl refl

  -- a loop of calls of one's own: no call yet
  pub ran_on_start : (service : S) → RanOn s service service
  ran_on_start service = ([], ran_start service)

  ran_pends : (n : ℕ) (old new : S) → Pends s.polled n old new → Ran s [] old new
  ran_pends zero old new here = no_action (relations s) old new here refl
  ran_pends (suc n) old new here = ran_joined [] [] old here.0 new (ran_pends n old here.0 here.1) (one_poll (relations s) here.0 new Pending here.2 refl)

  ran_pended : (old new : S) → Pended s.polled old new → Ran s [] old new
  unfolding Pended
  ran_pended old new here = ran_pends here.0 old new here.1

  pub ran_waited : (old new : S) (answer : Result (Unit {0}) E) → Waited s old answer new → Ran s [] old new
  ran_waited old new answer here = ran_joined [] [] old here.last new (ran_pended old here.last here.pended)
      (one_poll (relations s) here.last new (Ready answer) here.polled refl)

  module _ (stepped : F → Poll (Result A E) → F → Type 0) where
    pub ran_answered : (old new : S) (request : Q) (answer : Result A E) → Answered s stepped old request answer new → Ran s (request ∷ []) old new
    ran_answered old new request answer (inl here) = ran_joined [] (request ∷ []) old here.left new (ran_waited old here.left (Ok tt) here.waited)
        (one_call (relations s) here.left new request here.future here.ready here.called (each_one AtMostOnce request (request ∷ []) (inl refl)))
    ran_answered old new request answer (inr here) = let waited = ran_waited old new _ here.waited in
        record { transitions = waited.transitions; run = waited.run; has = each_one AtMostOnce request (requests waited.transitions) (inr waited.has) }

    pub waits_run : WaitsRun s stepped
    waits_run = record { waited = ran_waited; answered = ran_answered; joined = ran_joined }

    module _ {C : Type 0} (told : C → Result A E → Unit {0} → C → Type 0) where
      pub loops_run : LoopsRun s stepped told
      loops_run [] old new each last here = no_action (relations s) old new here.0 refl
      loops_run (request ∷ rest) old new each last here =
          ran_joined (request ∷ []) rest old here.1 new (ran_answered old here.1 request here.0 here.3) (loops_run rest here.1 new here.2 last here.5)

    -- a loop of calls of one's own: one call more
    pub ran_on : {old mid new : S} {request : Q} {answer : Result A E} → RanOn s old mid → Answered s stepped mid request answer new → RanOn s old new
    ran_on {old} {mid} {new} {request} {answer} before here =
        (before.0 ++ request ∷ [], ran_joined before.0 (request ∷ []) old mid new before.1 (ran_answered mid new request answer here))

module _ {Q P R : Type 0} (outer : Q → List P → Type 0) (inner : P → List R → Type 0) where
  each_split : (first second : List P) (last : List R) → EachMakes inner (first ++ second) last
      → (a b : List R) × EachMakes inner first a × EachMakes inner second b × (last ≡ a ++ b)
  each_split [] second last here = ([], last, refl, here, refl)
  each_split (request ∷ rest) second last here = let there = each_split rest second here.1 here.3 in
      (here.0 ++ there.0, there.1, (here.0, there.0, here.2, there.2, refl), there.3, here.4 ∙ (ap (λ x. here.0 ++ x) there.4 ∙ sym (append_assoc here.0 there.0 there.1)))

  -- what requests make through a service in between
  pub each_through : (made : List Q) (between : List P) (last : List R) → EachMakes outer made between → EachMakes inner between last → EachMakes (Through outer inner) made last
  each_through [] between last before after = subst (λ x. EachMakes inner x last) before after
  each_through (request ∷ rest) between last before after = let there = each_split before.0 before.1 last (subst (λ x. EachMakes inner x last) before.4 after) in
      (there.0, there.1, (before.0, before.2, there.2), each_through rest before.1 there.1 before.3 there.3, there.4)
