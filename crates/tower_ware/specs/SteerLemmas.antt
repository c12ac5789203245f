-- If all indexes are listed, nothing needs to be known of the services' readiness.
use Rattle.std.proofs.Common.{All, ℕ, zero, suc, ◌<◌, ◌≤◌, List, [], ◌∷◌, ◌++◌, inl, inr, ⊎_elim, length, refl, sym, subst, arith}
use Rattle.std.proofs.lemmas.Grind.{common_steps}
use Rattle.std.proofs.lemmas.Bool.Decides.{eqb_tells}
use Rattle.std.proofs.lemmas.List.Elements.{All-append, AllZip-get_or, length_all_zip}
use Rattle.std.specs.List.{AllZip}
use Rattle.tower_ware.specs.Steer.{IsClone, Listed, Rested, Sound, SteerView, upto}

pub all_upto : (n m : ℕ) → n ≤ m → All (λ i. i < m) (upto n)
all_upto zero m below = λ k d at. absurd (omega arith)
all_upto (suc n) m below = All-append (λ i. i < m) (upto n) (n ∷ []) (all_upto n m (omega arith)) (λ k d at. grind (arith, common_steps))

listed_last : (is : List ℕ) (n : ℕ) → Listed (is ++ n ∷ []) n
listed_last [] n = inl refl
listed_last (i ∷ is) n = inr (listed_last is n)

listed_more : (is : List ℕ) (n j : ℕ) → Listed is j → Listed (is ++ n ∷ []) j
listed_more [] n j h = absurd h
listed_more (i ∷ is) n j h = ⊎_elim inl (λ x. inr (listed_more is n j x)) h

listed_upto : (n j : ℕ) → j < n → Listed (upto n) j
listed_upto zero j below = absurd (omega arith)
listed_upto (suc n) j below =
    ⊎_elim (λ t. subst (Listed (upto (suc n))) (sym t.1) (listed_last (upto n) n))
    (λ f. let less : j < n = (let other = f.1 in omega arith) in listed_more (upto n) n j (listed_upto n j less)) (eqb_tells j n)

-- All services are listed at first.
pub rested_new : {S : Type 0} (ready : S → Type 0) (ss : List S) → Rested ready ss (upto (length ss))
rested_new ready ss = λ j v below there. inr (listed_upto (length ss) j below)

-- A clone is sound if clones of its parts are.
module _ {S F : Type 0} (picker : F → F → Type 0) (service : S → S → Type 0) (chooses : F → Type 0) (sound ready : S → Type 0) where
  each_sound : ((x y : S) → service x y → sound x → sound y) → (xs ys : List S) → AllZip service xs ys → All sound xs → All sound ys
  each_sound keeps xs ys zip h = λ k d below.
      let size = length_all_zip service xs ys zip in
      let inside : k < length xs = omega arith in
      keeps _ _ (AllZip-get_or service xs ys k d d zip inside) (h k d inside)

  pub cloned_sound : ((x y : F) → picker x y → chooses x → chooses y) → ((x y : S) → service x y → sound x → sound y)
      → (old new : SteerView S F) → IsClone picker service old new → Sound chooses sound ready old → Sound chooses sound ready new
  cloned_sound picks keeps old new cloned h = record {
    chooses = picks _ _ cloned.chooses h.chooses;
    each = each_sound keeps old.services new.services cloned.services h.each;
    rested = rw cloned.listed (rested_new ready new.services);
  }
