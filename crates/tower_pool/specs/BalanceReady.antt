-- What `Ok` and `Pending` of a balancer's poll imply.
use Rattle.std.specs.Prelude.{ℕ, Bool, true, false, ◌≡◌, List, [], ◌∷◌, Option, Some, None, Result, Ok, Err, if◌then◌else◌, refl}
use Rattle.std.proofs.Common.{ap, subst, sym, ◌∙◌}
use Rattle.std.specs.Option.{MatchOption}
use Rattle.std.specs.declared.cmp.Ordering.{Ordering}
use Rattle.futures.specs.Poll.{OnPending}
use Rattle.futures.specs.declared.task.Poll.{Poll}
use Rattle.futures.specs.declared.task.Poll.TheVariants.{Ready, Pending}
use Rattle.tower_base.specs.declared.service.Service.{Ghosts as ServiceOf}
use Rattle.tower_limit.specs.Discover.{Found}
use Rattle.tower_pool.specs.Balance.{AfterChanges, AfterCheck, AfterPromotion, BalanceView, Chooses, IsReady, IterationAt, PickedOf, Polled, answer_of}
use Rattle.tower_pool.specs.ReadyCache.{At}
use Rattle.tower_pool.specs.declared.balance.error.Error.{Error}
use Rattle.tower_pool.specs.declared.ready_cache.error.Failed.{Failed}

picked_on : {E X : Type 0} → (index : Option ℕ) → ¬ (answer_of {A = Result (Unit {0}) (Error E X)} index ≡ Some (Ready (Ok tt)))
picked_on None = λ e. cc
picked_on (Some i) = λ e. cc

module _ {R K S M : Type 0} (loaded : S → M → Type 0) (cmp : M → M → Option Ordering) (drew : R → ℕ → R → Type 0) where
  -- If no endpoint is picked, none is ready.
  picked_none : (ready all : List (K × S)) (old : R) (index : Option ℕ) (new : R) → ready ≡ all → PickedOf loaded cmp drew ready all old index new → index ≡ None → all ≡ []
  picked_none [] all old index new is h e = sym is
  picked_none (u ∷ []) all old index new is h e = let f : index ≡ Some 0 = h.0 in cc
  picked_none (u ∷ v ∷ us) all old index new is h e = let f : index ≡ Some (if h.2 then h.0 else h.1) = h.5 in cc

module _ {D R K S Q A E G X M : Type 0} (eq : K → K → Bool) (s : ServiceOf S Q A E G) (loaded : S → M → Type 0) (cmp : M → M → Option Ordering) (drew : R → ℕ → R → Type 0) where
  checked_ok : (old : BalanceView D R K S) (i : ℕ) (inner : Result Bool (Failed K E)) (answer : Option (Poll (Result (Unit {0}) (Error E X)))) (new : BalanceView D R K S)
      → old.kept ≡ Some i → AfterCheck eq s loaded cmp drew old i inner answer new → answer ≡ Some (Ready (Ok tt)) → IsReady s.ready new
  checked_ok old i (Ok true) answer new kept h e = subst (IsReady s.ready) (sym h.2) (subst (λ k. MatchOption k ⊥ (λ i. At old.services.ready i (λ e. s.ready e.1))) (sym kept) h.0)
  checked_ok old i (Ok false) answer new kept h e = absurd (picked_on {E = E} {X = X} h.0 (sym h.3 ∙ e))
  checked_ok old i (Err x) answer new kept h e = absurd (picked_on {E = E} {X = X} h.0 (sym h.3 ∙ e))

  iteration_ok : (old : BalanceView D R K S) (kept : Option ℕ) → old.kept ≡ kept → (answer : Option (Poll (Result (Unit {0}) (Error E X)))) (new : BalanceView D R K S)
      → IterationAt eq s loaded cmp drew kept old answer new → answer ≡ Some (Ready (Ok tt)) → IsReady s.ready new
  iteration_ok old None is answer new h e = absurd (picked_on {E = E} {X = X} h.0 (sym h.3 ∙ e))
  iteration_ok old (Some i) is answer new h e = checked_ok (record old { services = h.1 }) i h.0 answer new is h.3 e

  promoted_ok : (inner : Result (Unit {0}) (Error E X)) (old : BalanceView D R K S) (answer : Poll (Result (Unit {0}) (Error E X))) (new : BalanceView D R K S)
      → AfterPromotion eq s loaded cmp drew inner old answer new → answer ≡ Ready (Ok tt) → IsReady s.ready new
  promoted_ok (Err x) old answer new h e = let f : answer ≡ Ready (Err x) = h.0 in cc
  promoted_ok (Ok u) old answer new h e = iteration_ok h.last h.last.kept refl (Some answer) new h.ends (ap Some e)

  changed_ok : (inner : Result (Unit {0}) (Error E X)) (old : BalanceView D R K S) (answer : Poll (Result (Unit {0}) (Error E X))) (new : BalanceView D R K S)
      → AfterChanges eq s loaded cmp drew inner old answer new → answer ≡ Ready (Ok tt) → IsReady s.ready new
  changed_ok (Err x) old answer new h e = let f : answer ≡ Ready (Err x) = h.0 in cc
  changed_ok (Ok u) old answer new h e = promoted_ok h.0 h.1 answer new h.3 e

  chosen_none : (old : BalanceView D R K S) (answer : Option (Poll (Result (Unit {0}) (Error E X)))) (new : BalanceView D R K S)
      → Chooses eq s loaded cmp drew old answer new → answer ≡ Some Pending → new.services.ready ≡ []
  chosen_none old answer new h e = by h.0 refl
    where
      by : (index : Option ℕ) → h.0 ≡ index → new.services.ready ≡ []
      by None is = ap (λ v. v.services.ready) h.4 ∙ picked_none loaded cmp drew old.services.ready old.services.ready old.rng h.0 h.1 refl h.2 is
      by (Some i) is = let f : answer ≡ None = h.3 ∙ ap answer_of is in cc

  iteration_none : (old : BalanceView D R K S) (kept : Option ℕ) (answer : Option (Poll (Result (Unit {0}) (Error E X)))) (new : BalanceView D R K S)
      → IterationAt eq s loaded cmp drew kept old answer new → answer ≡ Some Pending → new.services.ready ≡ []
  iteration_none old None answer new h e = chosen_none old answer new h e
  iteration_none old (Some i) answer new h e = by h.0 h.3
    where
      by : (inner : Result Bool (Failed K E)) → AfterCheck eq s loaded cmp drew (record old { services = h.1 }) i inner answer new → new.services.ready ≡ []
      by (Ok true) after = let f : answer ≡ Some (Ready (Ok tt)) = after.1 in cc
      by (Ok false) after = chosen_none (record old { services = h.1 }) answer new after e
      by (Err x) after = chosen_none (record old { services = h.1 }) answer new after e

  promoted_none : (inner : Result (Unit {0}) (Error E X)) (old : BalanceView D R K S) (answer : Poll (Result (Unit {0}) (Error E X))) (new : BalanceView D R K S)
      → AfterPromotion eq s loaded cmp drew inner old answer new → answer ≡ Pending → new.services.ready ≡ []
  promoted_none (Err x) old answer new h e = let f : answer ≡ Ready (Err x) = h.0 in cc
  promoted_none (Ok u) old answer new h e = iteration_none h.last h.last.kept (Some answer) new h.ends (ap Some e)

  changed_none : (inner : Result (Unit {0}) (Error E X)) (old : BalanceView D R K S) (answer : Poll (Result (Unit {0}) (Error E X))) (new : BalanceView D R K S)
      → AfterChanges eq s loaded cmp drew inner old answer new → answer ≡ Pending → new.services.ready ≡ []
  changed_none (Err x) old answer new h e = let f : answer ≡ Ready (Err x) = h.0 in cc
  changed_none (Ok u) old answer new h e = promoted_none h.0 h.1 answer new h.3 e

module _ {D R K S Q A E G X M : Type 0} {eq : K → K → Bool} {s : ServiceOf S Q A E G} {loaded : S → M → Type 0} {cmp : M → M → Option Ordering} {drew : R → ℕ → R → Type 0}
    {discovered : D → Found K S X → D → Type 0} where
  -- `Ok` leaves a ready balancer.
  pub polled_ok : (old : BalanceView D R K S) (new : BalanceView D R K S) → Polled eq s loaded cmp drew discovered old (Ready (Ok tt)) new → IsReady s.ready new
  polled_ok old new p = changed_ok eq s loaded cmp drew p.inner p.mid (Ready (Ok tt)) new p.goes refl

  -- `Pending` leaves no ready endpoint.
  pub polled_none : (old : BalanceView D R K S) (answer : Poll (Result (Unit {0}) (Error E X))) (new : BalanceView D R K S)
      → Polled eq s loaded cmp drew discovered old answer new → OnPending answer (new.services.ready ≡ [])
  polled_none old (Ready x) new p = tt
  polled_none old Pending new p = changed_none eq s loaded cmp drew p.inner p.mid Pending new p.goes refl
