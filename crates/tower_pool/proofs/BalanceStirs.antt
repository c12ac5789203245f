-- Why a poll of a balancer may ask for another, by its parts.
use Rattle.std.proofs.Common.{ℕ, ◌≡◌, ◌⊎◌, inl, inr, ⊎_elim, Bool, false, Option, Some, None, Result, Ok, Err}
use Rattle.std.specs.declared.cmp.Ordering.{Ordering}
use Rattle.futures.specs.declared.task.Poll.{Poll}
use Rattle.tower_base.specs.Quiet.{Ever}
use Rattle.tower_base.specs.declared.service.Service.{Ghosts as ServiceOf}
use Rattle.tower_limit.specs.Discover.{Found}
use Rattle.tower_pool.specs.Balance.{AfterChanges, BalanceView, IsIdle, ReadStirs, Stirs, push_kept}
use Rattle.tower_pool.specs.declared.balance.error.Error.{Error}

-- A push of what was kept doesn't end the discovery.
goes_on : {D R K S : Type 0} → (eq : K → K → Bool) (change : Option (K × S)) (old : BalanceView D R K S) → (push_kept eq change old).is_over ≡ false → old.is_over ≡ false
goes_on eq None old h = h
goes_on eq (Some e) old h = h

module _ {D R K S Q A E G X M : Type 0} (eq : K → K → Bool) (s : ServiceOf S Q A E G) (loaded : S → M → Type 0) (cmp : M → M → Option Ordering) (drew : R → ℕ → R → Type 0)
    (discovered : D → Found K S X → D → Type 0) (stirs : D → D → Type 0) where
  -- The changes failed, and the poll is over.
  pub stirs_failed : (old new : BalanceView D R K S) (e : Error E X) → ReadStirs discovered eq stirs (push_kept eq old.change old) (Err e) new
      → Stirs eq s loaded cmp drew discovered stirs old new
  stirs_failed old new e h = ⊎_elim (λ d. inl (goes_on eq old.change old d.0, d.1)) (λ l. let f : (let a : Result (Unit {0}) (Error E X) = Err e in a ≡ Ok tt) = l.0 in absurd (cc f)) h

  -- The changes are made, and the rest follows.
  pub stirs_changed : (old mid : BalanceView D R K S) (done : Result (Unit {0}) (Error E X)) (answer : Poll (Result (Unit {0}) (Error E X))) (new : BalanceView D R K S)
      → AfterChanges eq s loaded cmp drew (Ok tt) mid answer new → ReadStirs discovered eq stirs (push_kept eq old.change old) done mid
      → Stirs eq s loaded cmp drew discovered stirs old new
  stirs_changed old mid done answer new after h =
      ⊎_elim (λ d. inl (goes_on eq old.change old d.0, d.1)) (λ l. inr (inr (inr (mid, answer, l.1, after)))) h

  -- The rest is made.
  pub stirs_served : (old new : BalanceView D R K S) → Ever s.stirs ⊎ IsIdle new → Stirs eq s loaded cmp drew discovered stirs old new
  stirs_served old new h = ⊎_elim (λ e. inr (inl e)) (λ i. inr (inr (inl i))) h
