-- Lemmas about runs, for the cores of crates above.
use Rattle.std.specs.Prelude.{◌≡◌, ◌≤◌, ◌+◌, ℕ, [], ◌∷◌}
use Rattle.std.proofs.Common.{refl, subst, sym, arith}
use Rattle.tower_latch.specs.Latch.{IsRun}

module _ {C M S R : Type 0} (stands : C → M → Type 0) (machine : M → S → R → M → Type 0) where
  -- Whatever a core serves is a run of its machine.
  pub is_run : IsRun stands machine
  is_run old new [] plain served held = (plain, refl, subst (λ (c : C). stands c plain) (sym served) held)
  is_run old new (step ∷ more) plain served held =
      let first = served.1.1 plain held in
      let rest = is_run served.0 new more first.0 served.2 first.2 in
      (rest.0, (first.0, first.1, rest.1), rest.2)

-- a core without places
pub none_held : {C : Type 0} (opens : C → Type 0) (core : C) → opens core → ◌≡◌ {A = ℕ} 0 0
none_held opens core opened = refl

pub no_places : {C S R T : Type 0} (terms : C → T) (steps : C → S → R → C → Type 0) → ((old : C) (step : S) (reply : R) (new : C) → steps old step reply new → terms new ≡ terms old)
    → (old : C) (step : S) (reply : R) (new : C) → steps old step reply new → (terms new ≡ terms old) × (◌≡◌ {A = ℕ} (0 + 0) (0 + 0)) × (0 ≤ 0)
no_places terms steps same old step reply new made = (same old step reply new made, refl, omega arith)

-- a core without places and without terms
pub no_terms : {C S R : Type 0} (steps : C → S → R → C → Type 0) (old : C) (step : S) (reply : R) (new : C) → steps old step reply new
    → (◌≡◌ {A = Unit {0}} tt tt) × (◌≡◌ {A = ℕ} (0 + 0) (0 + 0)) × (0 ≤ 0)
no_terms steps = no_places (λ _. tt) steps (λ old step reply new made. refl)
