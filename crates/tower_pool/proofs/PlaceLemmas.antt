-- Entries at an index, and what `swap_remove` leaves.
use Rattle.std.proofs.Common.{All, ℕ, zero, suc, ◌+◌, ◌-◌, ◌<◌, ◌≡◌, ◌≢◌, Bool, List, [], ◌∷◌, Option, Some, None, length, slice_set, slice_get, slice_index_or, position, take, refl, sym, ap, ◌∙◌, subst, ⊎_elim, arith, unwrap_or, is_some, true≢false, if◌then◌else◌, IfSome}
use Rattle.std.specs.List.{swap_remove, AllByRecursion}
use Rattle.std.specs.Map.{keys_of, values_of}
use Rattle.std.specs.Option.{option_map, option_map_or}
use Rattle.std.proofs.lemmas.List.Elements.{All-set, All-take, All-from_recursion, recursion_from_All}
use Rattle.std.proofs.lemmas.Bool.Decides.{eqb_tells}
use Rattle.indexmap.specs.IndexMap.{set_value_at, swap_remove_entry}

module _ {X : Type 0} (P : X → Type 0) where
  pub All-swap_remove : (xs : List X) (i : ℕ) (d : X) → 0 < length xs → All P xs → All P (swap_remove xs i d)
  All-swap_remove xs i d some h = All-take P (length xs - 1) _ (All-set P xs i _ (h (length xs - 1) d (omega arith)) h)

module _ {K S : Type 0} where
  pub All-swap_remove_entry : (P : K × S → Type 0) (t : K → Bool) (es : List (K × S)) → All P es → All P (swap_remove_entry t es)
  All-swap_remove_entry P t [] h = h
  All-swap_remove_entry P t (e ∷ es) h = by (position t (keys_of (e ∷ es)))
    where
      by : (r : Option ℕ) → All P (option_map_or (λ i. swap_remove (e ∷ es) i e) r (e ∷ es))
      by None = h
      by (Some i) = All-swap_remove P (e ∷ es) i e (omega arith) h

  set_over : (es : List (K × S)) (i : ℕ) (w : S) (x : K × S) → slice_set (set_value_at es i w) i x ≡ slice_set es i x
  set_over [] i w x = refl
  set_over (e ∷ es) zero w x = refl
  set_over (e ∷ es) (suc i) w x = ap (λ l. e ∷ l) (set_over es i w x)

  pub as_long : (es : List (K × S)) (i : ℕ) (w : S) → length (set_value_at es i w) ≡ length es
  as_long [] i w = refl
  as_long (e ∷ es) zero w = refl
  as_long (e ∷ es) (suc i) w = ap suc (as_long es i w)

  other : (es : List (K × S)) (i n : ℕ) (w : S) (d u : K × S) → n ≢ i → n < length es → slice_index_or (set_value_at es i w) n d ≡ slice_index_or es n u
  other [] i n w d u apart below = absurd (omega arith)
  other (e ∷ es) zero zero w d u apart below = absurd (apart refl)
  other (e ∷ es) zero (suc n) w d u apart below = default es n d u (omega arith)
    where
      default : (es : List (K × S)) (n : ℕ) (d u : K × S) → n < length es → slice_index_or es n d ≡ slice_index_or es n u
      default [] n d u below = absurd (omega arith)
      default (e ∷ es) zero d u below = refl
      default (e ∷ es) (suc n) d u below = default es n d u (omega arith)
  other (e ∷ es) (suc i) zero w d u apart below = refl
  other (e ∷ es) (suc i) (suc n) w d u apart below = other es i n w d u (λ e. apart (ap suc e)) (omega arith)

  before : (es : List (K × S)) (i : ℕ) (x : K × S) → take i (slice_set es i x) ≡ take i es
  before [] i x = refl
  before (e ∷ es) zero x = refl
  before (e ∷ es) (suc i) x = ap (λ l. e ∷ l) (before es i x)

  -- what is removed may be written first
  pub swap_written : (es : List (K × S)) (i : ℕ) (w : S) (d u : K × S) → i < length es → swap_remove (set_value_at es i w) i d ≡ swap_remove es i u
  swap_written es i w d u below =
      (λ j. take (as_long es i w j - 1) (slice_set (set_value_at es i w) i (slice_index_or (set_value_at es i w) (as_long es i w j - 1) d)))
      ∙ ap (take (length es - 1)) (set_over es i w _)
      ∙ ⊎_elim (λ t. last t.1) (λ f. ap (λ x. take (length es - 1) (slice_set es i x)) (other es i (length es - 1) w d u f.1 (omega arith)))
      (eqb_tells (length es - 1) i)
    where
      last : length es - 1 ≡ i → take (length es - 1) (slice_set es i (slice_index_or (set_value_at es i w) (length es - 1) d))
          ≡ take (length es - 1) (slice_set es i (slice_index_or es (length es - 1) u))
      last e =
          subst (λ n. (x y : K × S) → take n (slice_set es i x) ≡ take n (slice_set es i y)) (sym e) (λ x y. before es i x ∙ sym (before es i y)) _ _

  -- what stands at an index after a write there
  pub at_written : (es : List (K × S)) (i : ℕ) (k : K) (v w : S) → slice_get es i ≡ Some (k, v) → slice_get (set_value_at es i w) i ≡ Some (k, w)
  at_written [] i k v w h = absurd (true≢false (sym (ap is_some h)))
  at_written (e ∷ es) zero k v w h = ap (λ r. Some ((unwrap_or r e).0, w)) h
  at_written (e ∷ es) (suc i) k v w h = at_written es i k v w h

module _ {X : Type 0} where
  pub taken : (xs : List X) (i : ℕ) (x y : X) → slice_get xs i ≡ Some x → slice_get xs i ≡ Some y → y ≡ x
  taken xs i x y h e = ap (λ r. unwrap_or r x) (sym e ∙ h)

  pub inside : (xs : List X) (i : ℕ) (x : X) → slice_get xs i ≡ Some x → 0 < length xs
  inside [] i x h = absurd (true≢false (sym (ap is_some h)))
  inside (y ∷ ys) i x h = omega arith

  pub one_less : (r : Option X) (x : X) (a b : ℕ) → r ≡ Some x → a + (if is_some r then 1 else 0) ≡ b → a + 1 ≡ b
  one_less r x a b e h = subst (λ r. a + (if is_some r then 1 else 0) ≡ b) e h

  pub for_some : (r : Option X) (x : X) (P : X → Type 0) → r ≡ Some x → IfSome r P → P x
  for_some r x P e h = subst (λ r. IfSome r P) e h

module _ {K S : Type 0} (P : S → Type 0) where
  each_written : (es : List (K × S)) (i : ℕ) (w : S) → P w → AllByRecursion (λ e. P e.1) es → AllByRecursion (λ e. P e.1) (set_value_at es i w)
  each_written [] i w now h = h
  each_written (e ∷ es) zero w now h = (now, h.1)
  each_written (e ∷ es) (suc i) w now h = (h.0, each_written es i w now h.1)

  pub All-written : (es : List (K × S)) (i : ℕ) (w : S) → P w → All (λ e. P e.1) es → All (λ e. P e.1) (set_value_at es i w)
  All-written es i w now h = All-from_recursion _ _ (each_written es i w now (recursion_from_All _ es h))

module _ {X : Type 0} where
  pub within : (xs : List X) (i : ℕ) (x : X) → slice_get xs i ≡ Some x → i < length xs
  within [] i x h = absurd (true≢false (sym (ap is_some h)))
  within (y ∷ ys) zero x h = omega arith
  within (y ∷ ys) (suc i) x h = omega (arith, within ys i x h)

module _ {K S : Type 0} where
  -- the service at an index
  pub value_there : (es : List (K × S)) (i : ℕ) → slice_get (values_of es) i ≡ option_map (λ e. e.1) (slice_get es i)
  value_there [] i = refl
  value_there (e ∷ es) zero = refl
  value_there (e ∷ es) (suc i) = value_there es i
