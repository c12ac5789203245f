-- Lemmas about legal histories, for crates above.
use Rattle.std.proofs.Common.{◌≡◌, ℕ, zero, suc, List, [], ◌∷◌, take, Option, Some, refl, sym, subst, ◌∙◌}
use Rattle.std.specs.Prelude.{slice_get}
use Rattle.std.proofs.lemmas.Option.{same_Some}
use Rattle.tower_latch.specs.Latch.{Serves, StepsAs}
use Rattle.tower_latch.specs.LatchLemmas.{is_run}
use Rattle.tower_latch.specs.History.{IsLegal}

module _ {C S R : Type 0} (steps : C → S → R → C → Type 0) where
  -- The first steps of a run are a run.
  pub serves_first : (old new : C) (served : List (S × R)) (n : ℕ) → Serves steps old served new → (mid : C) × (Serves steps old (take n served) mid)
  serves_first old new served zero run = (old, refl)
  serves_first old new [] (suc n) run = (old, refl)
  serves_first old new (x ∷ rest) (suc n) run = let more = serves_first run.0 new rest n run.2 in (more.0, (run.0, run.1, more.1))

  -- A step of a run is made at the value to which the steps before it lead.
  pub serves_at : (old new : C) (served : List (S × R)) (n : ℕ) (s : S) (r : R) → Serves steps old served new → slice_get served n ≡ Some (s, r)
      → (mid : C) × (next : C) × (Serves steps old (take n served) mid) × steps mid s r next
  serves_at old new [] n s r run at = absurd (cc)
  serves_at old new (x ∷ rest) zero s r run at = (old, run.0, refl, subst (λ (y : S × R). steps old y.0 y.1 run.0) (same_Some x (s, r) at) run.1)
  serves_at old new (x ∷ rest) (suc n) s r run at =
      let more = serves_at run.0 new rest n s r run.2 at in
      (more.0, more.1, (run.0, run.1, more.2), more.3)

module _ {C M S R : Type 0} (opens : C → Type 0) (stands : C → M → Type 0) (machine : M → S → R → M → Type 0) where
  -- If the log opened with a core that stands for this plain value, the history is a run of the machine from that value.
  pub plain_run : (first : C) (plain : M) (opening : Option C) (history : List (S × R)) → stands first plain → opening ≡ Some first
      → IsLegal opens (StepsAs stands machine) opening history → (last : M) × (Serves machine plain history last)
  plain_run first plain opening history held is legal =
      let run = legal.1 in
      let same : first ≡ run.0 = same_Some first run.0 (sym is ∙ run.1) in
      let plain_run = is_run stands machine run.0 legal.0 history plain run.3 (subst (λ (c : C). stands c plain) same held) in
      (plain_run.0, plain_run.1)
