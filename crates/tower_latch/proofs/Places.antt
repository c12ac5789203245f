-- Receipts that weigh as much as the history: one at each place.
use Rattle.std.proofs.Common.{◌≡◌, ◌≢◌, ℕ, zero, suc, ◌+◌, ◌<◌, ◌≤◌, List, [], ◌∷◌, ◌++◌, length, Some, refl, sym, ap, ◌∙◌, subst, ⊎_elim, arith}
use native.Mathlib.Decide.{ℕ_discrete}
use Rattle.std.specs.Prelude.{slice_get}
use Rattle.std.specs.List.{sum_by, AllByRecursion}
use Rattle.std.proofs.lemmas.Bool.{cases_lt}
use Rattle.std.proofs.lemmas.List.Sums.{sum_by-cons, sum_by-append}
use Rattle.std.proofs.lemmas.Option.{same_Some, slice_get_within}
use Rattle.tower_latch.specs.declared.logged.rule.View.{View}
use Rattle.tower_latch.specs.History.{Stand, Rises, EachFits, IsReceipt, HaveOneEach, numbered, Weighs}
use Rattle.tower_latch.specs.Tokens.{claimed, Accounts}
use Rattle.tower_latch.proofs.Moves.{get_front}

-- 1 where two numbers are the same, else 0
abbrev same : ℕ → ℕ → ℕ
same zero zero = 1
same zero (suc b) = 0
same (suc a) zero = 0
same (suc a) (suc b) = same a b

same_here : (a : ℕ) → same a a ≡ 1
same_here zero = refl
same_here (suc a) = same_here a

same_only : (a b : ℕ) → 0 < same a b → b ≡ a
same_only zero zero p = refl
same_only zero (suc b) p = absurd (omega (arith, p))
same_only (suc a) zero p = absurd (omega (arith, p))
same_only (suc a) (suc b) p = ap suc (same_only a b p)

same_most : (a b : ℕ) → same a b ≤ 1
same_most zero zero = omega arith
same_most zero (suc b) = omega arith
same_most (suc a) zero = omega arith
same_most (suc a) (suc b) = same_most a b

same_apart : (a b : ℕ) → b ≢ a → same a b ≡ 0
same_apart a b n = ⊎_elim (λ (p : 0 < same a b). absurd (n (same_only a b p))) (λ (p : same a b ≤ 0). omega (arith, p)) (cases_lt 0 (same a b))

-- sums over lists
module _ {A : Type 0} where
  abbrev pub joined : List (List A) → List A
  joined [] = []
  joined (xs ∷ xss) = xs ++ joined xss

  joined_sums : (f : A → ℕ) (xss : List (List A)) → sum_by f (joined xss) ≡ sum_by (sum_by f) xss
  joined_sums f [] = refl
  joined_sums f (xs ∷ xss) = sum_by-append f xs (joined xss) ∙ ap (λ (n : ℕ). sum_by f xs + n) (joined_sums f xss) ∙ sym (sum_by-cons (sum_by f) xs xss)

  abbrev one : A → ℕ
  one a = 1

  ones : (xs : List A) → sum_by one xs ≡ length xs
  ones [] = refl
  ones (x ∷ xs) = more _ _ _ (sum_by-cons one x xs) (ones xs)
    where
      more : (y s n : ℕ) → y ≡ 1 + s → s ≡ n → y ≡ suc n
      more y s n p q = omega (arith, p, q)

  ones_each : (xss : List (List A)) → sum_by (sum_by one) xss ≡ sum_by length xss
  ones_each [] = refl
  ones_each (xs ∷ xss) = both _ _ _ _ _ _ (sum_by-cons (sum_by one) xs xss) (ones xs) (ones_each xss) (sum_by-cons length xs xss)
    where
      both : (y a s z b t : ℕ) → y ≡ a + s → a ≡ b → s ≡ t → z ≡ b + t → y ≡ z
      both y a s z b t p q r u = omega (arith, p, q, r, u)

  none_weighs : (f : A → ℕ) (xs : List A) → sum_by one xs ≡ 0 → sum_by f xs ≡ 0
  none_weighs f [] e = refl
  none_weighs f (x ∷ xs) e = absurd (some _ _ (sum_by-cons one x xs) e)
    where
      some : (y s : ℕ) → y ≡ 1 + s → y ≡ 0 → ⊥
      some y s p q = omega (arith, p, q)

  at_least : (f : A → ℕ) (xs : List A) (i : ℕ) (a : A) → slice_get xs i ≡ Some a → f a ≤ sum_by f xs
  at_least f [] i a e = absurd (cc)
  at_least f (x ∷ xs) zero a e = here _ _ _ _ (sum_by-cons f x xs) (ap f (same_Some x a e))
    where
      here : (y s x a : ℕ) → y ≡ x + s → x ≡ a → a ≤ y
      here y s x a p q = omega (arith, p, q)
  at_least f (x ∷ xs) (suc i) a e = there _ _ _ _ (sum_by-cons f x xs) (at_least f xs i a e)
    where
      there : (y s x a : ℕ) → y ≡ x + s → a ≤ s → a ≤ y
      there y s x a p q = omega (arith, p, q)

  at_least_two : (f : A → ℕ) (xs : List A) (i j : ℕ) (a b : A) → i ≢ j → slice_get xs i ≡ Some a → slice_get xs j ≡ Some b → f a + f b ≤ sum_by f xs
  at_least_two f [] i j a b n e d = absurd (cc)
  at_least_two f (x ∷ xs) zero zero a b n e d = absurd (n refl)
  at_least_two f (x ∷ xs) zero (suc j) a b n e d = first _ _ _ _ _ (sum_by-cons f x xs) (ap f (same_Some x a e)) (at_least f xs j b d)
    where
      first : (y s x a b : ℕ) → y ≡ x + s → x ≡ a → b ≤ s → a + b ≤ y
      first y s x a b p q r = omega (arith, p, q, r)
  at_least_two f (x ∷ xs) (suc i) zero a b n e d = second _ _ _ _ _ (sum_by-cons f x xs) (ap f (same_Some x b d)) (at_least f xs i a e)
    where
      second : (y s x a b : ℕ) → y ≡ x + s → x ≡ b → a ≤ s → a + b ≤ y
      second y s x a b p q r = omega (arith, p, q, r)
  at_least_two f (x ∷ xs) (suc i) (suc j) a b n e d = further _ _ _ _ (sum_by-cons f x xs) (at_least_two f xs i j a b (λ k. n (ap suc k)) e d)
    where
      further : (y s x t : ℕ) → y ≡ x + s → t ≤ s → t ≤ y
      further y s x t p q = omega (arith, p, q)

  found : (f : A → ℕ) (xs : List A) → 0 < sum_by f xs → (i : ℕ) × (a : A) × (slice_get xs i ≡ Some a) × (0 < f a)
  found f [] p = absurd (omega (arith, p))
  found f (x ∷ xs) p =
      ⊎_elim
      (λ (q : 0 < f x). (zero, x, refl, q))
      (λ (q : f x ≤ 0). let r = found f xs (rest _ _ _ (sum_by-cons f x xs) p q) in (suc r.0, r.1, r.2, r.3))
      (cases_lt 0 (f x))
    where
      rest : (y x s : ℕ) → y ≡ x + s → 0 < y → x ≤ 0 → 0 < s
      rest y x s p q r = omega (arith, p, q, r)

  get_back : (xs ys : List A) (k : ℕ) (a : A) → slice_get ys k ≡ Some a → (j : ℕ) × (slice_get (xs ++ ys) j ≡ Some a)
  get_back [] ys k a e = (k, e)
  get_back (x ∷ xs) ys k a e = let r = get_back xs ys k a e in (suc r.0, r.1)

module _ {S R : Type 0} where
  -- what stands joined stands in each pass
  pub stand_each : (history : List (S × R)) (passes : List (List (ℕ × S × R))) → Stand history (joined passes) → AllByRecursion Rises passes → EachFits history passes
  stand_each history [] h r = tt
  stand_each history (p ∷ ps) h r =
      (((λ k c e. h k c (get_front p (joined ps) k c e)), r.0), stand_each history ps (λ k c e. let b = get_back p (joined ps) k c e in h b.0 c b.1) r.1)

  nothing : (weight : ℕ × S × R → ℕ) (views : List (View S R)) → sum_by (claimed one) views ≡ 0 → sum_by (claimed weight) views ≡ 0
  nothing weight [] e = refl
  nothing weight (v ∷ vs) e =
      let c : sum_by (claimed one) (v ∷ vs) ≡ claimed one v + sum_by (claimed one) vs = sum_by-cons (claimed one) v vs in
      both _ _ _ (sum_by-cons (claimed weight) v vs) (none_weighs weight v.claims (fst _ _ _ c e)) (nothing weight vs (snd _ _ _ c e))
    where
      fst : (y a s : ℕ) → y ≡ a + s → y ≡ 0 → a ≡ 0
      fst y a s p q = omega (arith, p, q)

      snd : (y a s : ℕ) → y ≡ a + s → y ≡ 0 → s ≡ 0
      snd y a s p q = omega (arith, p, q)

      both : (y a s : ℕ) → y ≡ a + s → a ≡ 0 → s ≡ 0 → y ≡ 0
      both y a s p q r = omega (arith, p, q, r)

  numbered_length : (from : ℕ) (es : List (S × R)) → length (numbered from es) ≡ length es
  numbered_length from [] = refl
  numbered_length from (e ∷ es) = ap suc (numbered_length (from + 1) es)

  -- as many receipts as entries: no other token claims any
  pub weighs_of : (history : List (S × R)) (passes : List (List (ℕ × S × R))) → Accounts history (joined passes) → length history ≡ sum_by length passes → Weighs history passes
  weighs_of history passes accounts count weight =
      let none : sum_by (claimed one) accounts.0 ≡ 0 =
      others _ _ _ _ (accounts.1 one) (joined_sums one passes ∙ ones_each passes) (ones (numbered 0 history) ∙ numbered_length 0 history) count in
      whole _ _ _ _ (accounts.1 weight) (joined_sums weight passes) (nothing weight accounts.0 none)
    where
      others : (a o n c : ℕ) {h : ℕ} → a + o ≡ n → a ≡ c → n ≡ h → h ≡ c → o ≡ 0
      others a o n c p q r s = omega (arith, p, q, r, s)

      whole : (a o n b : ℕ) → a + o ≡ n → a ≡ b → o ≡ 0 → b ≡ n
      whole a o n b p q r = omega (arith, p, q, r)

  -- what weighs 1 at a place
  abbrev at_place : ℕ → ℕ × S × R → ℕ
  at_place place c = same place c.0

  above : (place from : ℕ) (es : List (S × R)) → place < from → sum_by (at_place place) (numbered from es) ≡ 0
  above place from [] p = refl
  above place from (e ∷ es) p =
      both _ _ _ (sum_by-cons (at_place place) (from, e.0, e.1) (numbered (from + 1) es)) (same_apart place from (λ q. omega (arith, p, q))) (above place (from + 1) es (omega (arith, p)))
    where
      both : (y a s : ℕ) → y ≡ a + s → a ≡ 0 → s ≡ 0 → y ≡ 0
      both y a s p q r = omega (arith, p, q, r)

  most : (place from : ℕ) (es : List (S × R)) → sum_by (at_place place) (numbered from es) ≤ 1
  most place from [] = omega arith
  most place from (e ∷ es) =
      let c = sum_by-cons (at_place place) (from, e.0, e.1) (numbered (from + 1) es) in
      ⊎_elim
      (λ (p : place < from + 1). first _ _ _ c (same_most place from) (above place (from + 1) es p))
      (λ (p : from + 1 ≤ place). later _ _ _ c (same_apart place from (λ q. omega (arith, p, q))) (most place (from + 1) es))
      (cases_lt place (from + 1))
    where
      first : (y a s : ℕ) → y ≡ a + s → a ≤ 1 → s ≡ 0 → y ≤ 1
      first y a s p q r = omega (arith, p, q, r)

      later : (y a s : ℕ) → y ≡ a + s → a ≡ 0 → s ≤ 1 → y ≤ 1
      later y a s p q r = omega (arith, p, q, r)

  least : (place from : ℕ) (es : List (S × R)) → from ≤ place → place < from + length es → 0 < sum_by (at_place place) (numbered from es)
  least place from [] p q = absurd (omega (arith, p, q))
  least place from (e ∷ es) p q =
      let c = sum_by-cons (at_place place) (from, e.0, e.1) (numbered (from + 1) es) in
      ⊎_elim
      (λ (l : place < from + 1). let is : from ≡ place = omega (arith, p, l) in first _ _ _ c (ap (same place) is ∙ same_here place))
      (λ (l : from + 1 ≤ place). later _ _ _ c (least place (from + 1) es l (omega (arith, q))))
      (cases_lt place (from + 1))
    where
      first : (y a s : ℕ) → y ≡ a + s → a ≡ 1 → 0 < y
      first y a s p q = omega (arith, p, q)

      later : (y a s : ℕ) → y ≡ a + s → 0 < s → 0 < y
      later y a s p q = omega (arith, p, q)

  covers : (history : List (S × R)) (passes : List (List (ℕ × S × R))) (place : ℕ) → Weighs history passes → place < length history
      → (i : ℕ) × (k : ℕ) × (a : ℕ × S × R) × IsReceipt passes i k a × (a.0 ≡ place)
  covers history passes place weighs within =
      let all : 0 < sum_by (at_place place) (numbered 0 history) = least place 0 history (omega arith) (omega (arith, within)) in
      let outer = found (sum_by (at_place place)) passes (subst (λ (n : ℕ). 0 < n) (sym (weighs (at_place place))) all) in
      let inner = found (at_place place) outer.1 outer.3 in
      (outer.0, inner.0, inner.1, (outer.1, outer.2, inner.2), same_only place inner.1.0 inner.3)

  apart : (history : List (S × R)) (passes : List (List (ℕ × S × R))) (i j k l : ℕ) (p q : List (ℕ × S × R)) (a b : ℕ × S × R) → Weighs history passes
      → slice_get passes i ≡ Some p → slice_get passes j ≡ Some q → slice_get p k ≡ Some a → slice_get q l ≡ Some b → a.0 ≡ b.0 → (i ≡ j) × (k ≡ l)
  apart history passes i j k l p q a b weighs at-i at-j at-k at-l is = of (ℕ_discrete i j)
    where
      f : ℕ × S × R → ℕ
      f = at_place a.0

      at-a : f a ≡ 1
      at-a = same_here a.0

      at-b : f b ≡ 1
      at-b = ap (same a.0) (sym is) ∙ same_here a.0

      small : sum_by (sum_by f) passes ≤ 1
      small = subst (λ (n : ℕ). n ≤ 1) (sym (weighs f)) (most a.0 0 history)

      two : (x y s t u : ℕ) → x ≡ 1 → y ≡ 1 → x ≤ s → y ≤ t → s + t ≤ u → u ≤ 1 → ⊥
      two x y s t u c d e g h m = omega (arith, c, d, e, g, h, m)

      twice : (x y s u : ℕ) → x ≡ 1 → y ≡ 1 → x + y ≤ s → s ≤ u → u ≤ 1 → ⊥
      twice x y s u c d e g m = omega (arith, c, d, e, g, m)

      inside : i ≡ j → slice_get p l ≡ Some b → Dec (k ≡ l) → (i ≡ j) × (k ≡ l)
      inside e at (yes d) = (e, d)
      inside e at (no n) = absurd (twice _ _ _ _ at-a at-b (at_least_two f p k l a b n at-k at) (at_least (sum_by f) passes i p at-i) small)

      of : Dec (i ≡ j) → (i ≡ j) × (k ≡ l)
      of (yes e) = inside e (subst (λ (x : List (ℕ × S × R)). slice_get x l ≡ Some b) (same_Some q p (sym at-j ∙ subst (λ (n : ℕ). slice_get passes n ≡ Some p) e at-i)) at-l) (ℕ_discrete k l)
      of (no n) = absurd (two _ _ _ _ _ at-a at-b (at_least f p k a at-k) (at_least f q l b at-l) (at_least_two (sum_by f) passes i j p q n at-i at-j) small)

  fits_at : (history : List (S × R)) (passes : List (List (ℕ × S × R))) (i : ℕ) (p : List (ℕ × S × R)) → EachFits history passes → slice_get passes i ≡ Some p → Stand history p
  fits_at history [] i p fits at = absurd (cc)
  fits_at history (x ∷ xs) zero p fits at = subst (Stand history) (same_Some x p at) fits.0.0
  fits_at history (x ∷ xs) (suc i) p fits at = fits_at history xs i p fits.1 at

  -- as many receipts as entries, each in its place: each entry has one
  pub one_each : (history : List (S × R)) (passes : List (List (ℕ × S × R))) → EachFits history passes → Weighs history passes → HaveOneEach history passes
  one_each history passes fits weighs place entry at =
      let found = covers history passes place weighs (slice_get_within history place entry at) in
      let receipt : ℕ × S × R = found.2 in
      let of = found.3 in
      let stands : slice_get history receipt.0 ≡ Some (receipt.1, receipt.2) = fits_at history passes found.0 of.0 fits of.1 found.1 receipt of.2 in
      let here : slice_get history place ≡ Some (receipt.1, receipt.2) = subst (λ (n : ℕ). slice_get history n ≡ Some (receipt.1, receipt.2)) found.4 stands in
      let is : (receipt.1, receipt.2) ≡ entry = same_Some _ _ (sym here ∙ at) in
      let whole : receipt ≡ (place, entry.0, entry.1) = λ i. (found.4 i, (is i).0, (is i).1) in (
        found.0,
        found.1,
        subst (IsReceipt passes found.0 found.1) whole of,
        λ p n other that same. apart history passes p found.0 n found.1 that.0 of.0 other receipt weighs that.1 of.1 that.2 of.2 (same ∙ sym found.4),
      )
