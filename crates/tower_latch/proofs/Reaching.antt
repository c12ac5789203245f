-- Runs of cores.
use Rattle.std.proofs.Common.{◌≡◌, ◌≤◌, ◌+◌, List, [], ◌∷◌, ◌++◌, refl, subst}
use Rattle.std.proofs.Math.Logic.{∥∥₁_map}
use Rattle.tower_latch.specs.Latch.{Serves, Reached}
use Rattle.tower_latch.specs.LockSteps.{CoreSteps}
use Rattle.tower_latch.specs.declared.Core.{Ghosts as CoreOf}

module _ {C S R : Type 0} (opens : C → Type 0) (steps : C → S → R → C → Type 0) where
  pub goes_on : (first old new : C) (s : S) (r : R) (served : List (S × R)) → Serves steps first served old → steps old s r new
      → Serves steps first (served ++ (s, r) ∷ []) new
  goes_on first old new s r [] serves step = (new, subst (λ (c : C). steps c s r new) serves step, refl)
  goes_on first old new s r (x ∷ rest) serves step = (serves.0, serves.1, goes_on serves.0 old new s r rest serves.2 step)

  -- a run goes on by one step
  pub reached_on : (old new : C) (s : S) (r : R) → steps old s r new → ∥ Reached opens steps old ∥₁ → ∥ Reached {S = S} {R = R} opens steps new ∥₁
  reached_on old new s r step had = ∥∥₁_map had (λ h. (h.0, h.1 ++ (s, r) ∷ [], h.2, goes_on h.0 old new s r h.1 h.3 step))

-- a step of a core that a run leads to
pub made_on : {C S R T : Type 0} (c : CoreOf C S R T) (old new : C) (s : S) (r : R) → ((made : c.steps old s r new) → (c.terms new ≡ c.terms old) × (c.out new + c.paid s r ≡ c.out old + c.gained r) × (c.out new ≤ c.size (c.terms new)))
    → ∥ Reached c.opens c.steps old ∥₁ → c.steps old s r new → CoreSteps c old s r new
made_on c old new s r counts had step = record { came = (old, new, had, step, refl); terms = (counts step).0; counted = (counts step).1 }
