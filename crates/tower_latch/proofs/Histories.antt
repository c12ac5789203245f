-- A history goes on by one step.
use Rattle.std.proofs.Common.{◌≡◌, ℕ, ◌+◌, ◌<◌, List, [], ◌∷◌, ◌++◌, length, Option, Some, ap, ⊎_elim, arith, length-append}
use Rattle.std.specs.Prelude.{slice_get}
use Rattle.std.specs.List.{AllByRecursion}
use Rattle.std.proofs.lemmas.Option.{slice_get_within}
use Rattle.tower_latch.specs.History.{LeadsTo, Stand, Rises}
use Rattle.tower_latch.proofs.Moves.{get_place}
use Rattle.tower_latch.proofs.Reaching.{goes_on}

module _ {C S R : Type 0} (opens : C → Type 0) (steps : C → S → R → C → Type 0) where
  pub legal_on : (opening : Option C) (mid to : C) (history : List (S × R)) (s : S) (r : R) → LeadsTo opens steps opening history mid → steps mid s r to → LeadsTo opens steps opening (history ++ (s, r) ∷ []) to
  legal_on opening mid to history s r h st = (h.0, h.1, h.2, goes_on opens steps h.0 mid to s r history h.3 st)

module _ {A : Type 0} where
  pub length_on : (xs : List A) (x : A) (n : ℕ) → n ≡ length xs → n + 1 ≡ length (xs ++ x ∷ [])
  length_on xs x n e = omega (arith, e, length-append xs (x ∷ []))

module _ {S R : Type 0} where
  pub rises_on : (history : List (S × R)) (claims : List (ℕ × S × R)) (n : ℕ) (s : S) (r : R) → n ≡ length history → Stand history claims → Rises claims → Rises (claims ++ (n, s, r) ∷ [])
  rises_on history claims n s r is stand rises i j a b less at-i at-j =
      ⊎_elim
      (λ (old-j : slice_get claims j ≡ Some b). ⊎_elim
      (λ (old-i : slice_get claims i ≡ Some a). rises i j a b less old-i old-j)
      (λ (new-i : (i ≡ length claims) × ((n, s, r) ≡ a)). absurd (let p = slice_get_within claims j b old-j in let q = new-i.0 in omega (arith, p, q, less)))
      (get_place claims (n, s, r) a i at-i))
      (λ (new-j : (j ≡ length claims) × ((n, s, r) ≡ b)). ⊎_elim
      (λ (old-i : slice_get claims i ≡ Some a).
      let p : a.0 < length history = slice_get_within history a.0 (a.1, a.2) (stand i a old-i) in
      let q : n ≡ b.0 = ap (λ (x : ℕ × S × R). x.0) new-j.1 in
      omega (arith, p, q, is))
      (λ (new-i : (i ≡ length claims) × ((n, s, r) ≡ a)). absurd (let q = new-i.0 in let p = new-j.0 in omega (arith, p, q, less)))
      (get_place claims (n, s, r) a i at-i))
      (get_place claims (n, s, r) b j at-j)

  pub rises_none : Rises {S = S} {R = R} []
  rises_none i j a b less at-i at-j = absurd (cc)

module _ {A : Type 0} (P : A → Type 0) where
  pub all_on : (xs : List A) (x : A) → AllByRecursion P xs → P x → AllByRecursion P (xs ++ x ∷ [])
  all_on [] x h p = (p, tt)
  all_on (y ∷ ys) x h p = (h.0, all_on ys x h.1 p)
