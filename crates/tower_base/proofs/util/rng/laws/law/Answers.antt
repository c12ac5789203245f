use Rattle.std.proofs.Common.{◌≡◌, ◌-◌, ℕ, [], ◌∷◌, inl, inr, true, false, eqb, arith}
use Rattle.std.proofs.lemmas.Bool.Decides.{nat_tests, eqb_tells}
use Rattle.tower_base.specs.Draw.{draw, IsOnto}
use Rattle.tower_base.proofs.util.rng.laws.law.Goals as goal

drawn_same : (n j : ℕ) → draw n j j ≡ (n - 1) ∷ j ∷ []
drawn_same n j = let same : eqb j j ≡ true = grind (arith, nat_tests) in rw same

drawn_apart : (n i j : ℕ) → eqb i j ≡ false → draw n i j ≡ i ∷ j ∷ []
drawn_apart n i j apart = rw apart

onto : IsOnto
onto n [] h = absurd h
onto n (i ∷ []) h = absurd h
onto n (i ∷ j ∷ k ∷ rest) h = absurd h
onto n (i ∷ j ∷ []) h =
    elim (eqb_tells i (n - 1)) [
      | inl last ↦ (j, j, omega (arith, h.1, h.2, last.1), h.1, rw (last.1, drawn_same n j))
      | inr low ↦ (i, j, omega (arith, h.0, low.1), h.1, drawn_apart n i j (grind (arith, nat_tests, h.2)))
    ]

pub returns-clause-onto : goal.returns-clause-onto
returns-clause-onto c = onto
