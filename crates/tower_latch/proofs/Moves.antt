-- Each step at a log keeps what its tokens know.
use Rattle.std.proofs.Common.{◌≡◌, ◌≢◌, ◌⊎◌, ℕ, zero, suc, ◌+◌, List, [], ◌∷◌, ◌++◌, length, set, Option, Some, true, false, true≢false, refl, sym, ap, ◌∙◌, subst, inl, inr, ⊎_elim, arith}
use Rattle.std.specs.List.{sum_by}
use Rattle.std.proofs.lemmas.List.Sums.{sum_by-cons, sum_by_push, sum_by-append}
use Rattle.std.specs.Prelude.{slice_get}
use mathlib.Core.Option.{some, some-ne-none, some-injective}
use lib.ListN.{get_elem?}
use Rattle.crossbeam_utils.specs.Register.{Turns, Forks, Merges}
use Rattle.atomic_table.proofs.Lists.{at_set, at_snoc, set_again}
use Rattle.tower_latch.specs.declared.logged.rule.View.{View}
use Rattle.tower_latch.specs.History.{Stand, numbered}
use Rattle.tower_latch.specs.Tokens.{knower, claimer, shown, gathered, claimed, Balanced, Accounts, kept_part, claims_part, Agree, Appended, Compared}

-- lists read by `slice_get`
module _ {A : Type 0} where
  pub get_front : (xs ys : List A) (k : ℕ) (a : A) → slice_get xs k ≡ Some a → slice_get (xs ++ ys) k ≡ Some a
  get_front [] ys k a e = absurd (cc)
  get_front (x ∷ xs) ys zero a e = e
  get_front (x ∷ xs) ys (suc k) a e = get_front xs ys k a e

  pub get_last : (xs : List A) (a : A) → slice_get (xs ++ a ∷ []) (length xs) ≡ Some a
  get_last [] a = refl
  get_last (x ∷ xs) a = get_last xs a

  pub get_snoc : (xs : List A) (a b : A) (k : ℕ) → slice_get (xs ++ a ∷ []) k ≡ Some b → (slice_get xs k ≡ Some b) ⊎ (a ≡ b)
  get_snoc [] a b zero e = inr cc
  get_snoc [] a b (suc k) e = absurd (cc)
  get_snoc (x ∷ xs) a b zero e = inl e
  get_snoc (x ∷ xs) a b (suc k) e = get_snoc xs a b k e

  pub get_place : (xs : List A) (a b : A) (k : ℕ) → slice_get (xs ++ a ∷ []) k ≡ Some b → (slice_get xs k ≡ Some b) ⊎ ((k ≡ length xs) × (a ≡ b))
  get_place [] a b zero e = inr (refl, cc)
  get_place [] a b (suc k) e = absurd (cc)
  get_place (x ∷ xs) a b zero e = inl e
  get_place (x ∷ xs) a b (suc k) e = ⊎_elim (λ t. inl t) (λ t. inr (ap suc t.0, t.1)) (get_place xs a b k e)

  pub sum_set : (f : A → ℕ) (xs : List A) (i : ℕ) (a b : A) → get_elem? xs i ≡ some a → sum_by f (set xs i b) + f a ≡ sum_by f xs + f b
  sum_set f [] i a b e = absurd (some-ne-none a (sym e))
  sum_set f (x ∷ xs) zero a b e = here _ _ _ _ _ _ (sum_by-cons f b xs) (sum_by-cons f x xs) (ap f (some-injective x a e))
    where
      here : (y z s x a b : ℕ) → y ≡ b + s → z ≡ x + s → x ≡ a → y + a ≡ z + b
      here y z s x a b p q r = omega (arith, p, q, r)
  sum_set f (x ∷ xs) (suc i) a b e = there _ _ _ _ _ _ _ (sum_by-cons f x (set xs i b)) (sum_by-cons f x xs) (sum_set f xs i a b e)
    where
      there : (y z s t x a b : ℕ) → y ≡ x + s → z ≡ x + t → s + a ≡ t + b → y + a ≡ z + b
      there y z s t x a b p q r = omega (arith, p, q, r)

-- sums when a view changes, when one is cut in two, and when one takes in another
grew : (new old v w n m k : ℕ) → new + v ≡ old + w → old ≡ n → w ≡ v + k → m ≡ n + k → new ≡ m
grew new old v w n m k a b c d = omega (arith, a, b, c, d)

forked : (all left old v n : ℕ) → all ≡ left + v → left + v ≡ old + 0 → old ≡ n → all ≡ n
forked all left old v n a b c = omega (arith, a, b, c)

merged : (new mid old v u both n : ℕ) → mid + v ≡ old + both → new + u ≡ mid + 0 → both ≡ u + v → old ≡ n → new ≡ n
merged new mid old v u both n a b c d = omega (arith, a, b, c, d)

beside : (left old v n : ℕ) → left + v ≡ old + 0 → old ≡ n → v + left ≡ n
beside left old v n a b = omega (arith, a, b)

alone : (u v : ℕ) → v ≡ 0 → u ≡ u + v
alone u v e = omega (arith, e)

off : false ≡ true → ⊥
off e = true≢false (sym e)

module _ {S R : Type 0} where
  pub stand_none : (history : List (S × R)) → Stand history []
  stand_none history k c e = absurd (cc)

  pub stand_more : (history : List (S × R)) (e : S × R) (claims : List (ℕ × S × R)) → Stand history claims → Stand (history ++ e ∷ []) claims
  stand_more history e claims h k c at = get_front history (e ∷ []) c.0 (c.1, c.2) (h k c at)

  pub stand_added : (history : List (S × R)) (s : S) (r : R) (claims : List (ℕ × S × R)) → Stand history claims → Stand (history ++ (s, r) ∷ []) (claims ++ (length history, s, r) ∷ [])
  stand_added history s r claims h k c at =
      ⊎_elim
      (λ (old : slice_get claims k ≡ Some c). stand_more history (s, r) claims h k c old)
      (λ (new : (length history, s, r) ≡ c). subst (λ (x : ℕ × S × R). slice_get (history ++ (s, r) ∷ []) x.0 ≡ Some (x.1, x.2)) new (get_last history (s, r)))
      (get_snoc claims (length history, s, r) c k at)

  numbered_on : (from : ℕ) (es : List (S × R)) (s : S) (r : R) → numbered from (es ++ (s, r) ∷ []) ≡ numbered from es ++ (from + length es, s, r) ∷ []
  numbered_on from [] s r = let z : from ≡ from + 0 = omega arith in ap (λ (n : ℕ). (n, s, r) ∷ []) z
  numbered_on from (e ∷ es) s r =
      let m : from + 1 + length es ≡ from + suc (length es) = omega arith in
      ap (λ (l : List (ℕ × S × R)). (from, e.0, e.1) ∷ l) (numbered_on (from + 1) es s r ∙ ap (λ (n : ℕ). numbered (from + 1) es ++ (n, s, r) ∷ []) m)

  numbered_sum : (weight : ℕ × S × R → ℕ) (es : List (S × R)) (s : S) (r : R) → sum_by weight (numbered 0 (es ++ (s, r) ∷ [])) ≡ sum_by weight (numbered 0 es) + weight (length es, s, r)
  numbered_sum weight es s r =
      let z : 0 + length es ≡ length es = omega arith in
      ap (sum_by weight) (numbered_on 0 es s r) ∙ sum_by_push weight (numbered 0 es) (0 + length es, s, r) ∙ ap (λ (n : ℕ). sum_by weight (numbered 0 es) + weight (n, s, r)) z

  balanced_on : (history : List (S × R)) (views : List (View S R)) (by : ℕ) (v w : View S R) (s : S) (r : R) → Balanced history views → get_elem? views by ≡ some v
      → ((weight : ℕ × S × R → ℕ) → claimed weight w ≡ claimed weight v + weight (length history, s, r)) → Balanced (history ++ (s, r) ∷ []) (set views by w)
  balanced_on history views by v w s r balance at more weight =
      grew _ _ _ _ _ _ _ (sum_set (claimed weight) views by v w at) (balance weight) (more weight) (numbered_sum weight history s r)

  balanced_forked : (history : List (S × R)) (views : List (View S R)) (by : ℕ) (v : View S R) → Balanced history views → get_elem? views by ≡ some v → Balanced history (set views by (kept_part v) ++ claims_part v ∷ [])
  balanced_forked history views by v balance at weight =
      forked _ _ _ _ _ (sum_by_push (claimed weight) (set views by (kept_part v)) (claims_part v)) (sum_set (claimed weight) views by v (kept_part v) at) (balance weight)

  balanced_merged : (history : List (S × R)) (views : List (View S R)) (by : ℕ) (v : View S R) (other : ℕ) (u both : View S R) → Balanced history views → get_elem? views by ≡ some v → get_elem? (set views by both) other ≡ some u
      → ((weight : ℕ × S × R → ℕ) → claimed weight both ≡ claimed weight u + claimed weight v) → Balanced history (set (set views by both) other (claimer []))
  balanced_merged history views by v other u both balance at there sums weight =
      merged _ _ _ _ _ _ _ (sum_set (claimed weight) views by v both at) (sum_set (claimed weight) (set views by both) other u (claimer []) there) (sums weight) (balance weight)

  accounts : (history : List (S × R)) (views : List (View S R)) (by : ℕ) (v : View S R) → Balanced history views → get_elem? views by ≡ some v → Accounts history v.claims
  accounts history views by v balance at =
      (set views by (kept_part v), λ weight. beside _ _ _ _ (sum_set (claimed weight) views by v (kept_part v) at) (balance weight))

  stand_both : (history : List (S × R)) (xs ys : List (ℕ × S × R)) → Stand history xs → Stand history ys → Stand history (xs ++ ys)
  stand_both history [] ys h g k c at = g k c at
  stand_both history (x ∷ xs) ys h g zero c at = h zero c at
  stand_both history (x ∷ xs) ys h g (suc k) c at = stand_both history xs ys (λ j d e. h (suc j) d e) g k c at

  -- what the rule says of one view
  abbrev Holds : ℕ → List (S × R) → ℕ → View S R → Type 0
  Holds seat history by v = (v.keeps ≡ true → (by ≡ seat) × (v.all ≡ history)) × Stand history v.claims

  fits_set : (seat : ℕ) (history : List (S × R)) (views : List (View S R)) (by : ℕ) (w : View S R) → ((j : ℕ) (u : View S R) → j ≢ by → get_elem? views j ≡ some u → Holds seat history j u) → Holds seat history by w → (j : ℕ) (u : View S R) → get_elem? (set views by w) j ≡ some u → Holds seat history j u
  fits_set seat history views by w others mine j u e =
      ⊎_elim
      (λ (x : (j ≡ by) × (w ≡ u)). subst (λ (y : ℕ × View S R). Holds seat history y.0 y.1) (λ i. (sym x.0 i, x.1 i)) mine)
      (λ (x : (j ≢ by) × (get_elem? views j ≡ some u)). others j u x.0 x.1)
      (at_set views by j w u e)

  pub begins : (words : List ℕ) → Agree words (knower {S = S} {R = R} [] ∷ [])
  begins words = (0, [], one, λ weight. refl)
    where
      one : (by : ℕ) (v : View S R) → get_elem? (knower {S = S} {R = R} [] ∷ []) by ≡ some v → Holds 0 [] by v
      one zero v e = subst (Holds 0 [] 0) (some-injective _ _ e) ((λ _. (refl, refl)), stand_none [])
      one (suc by) v e = absurd (some-ne-none v (sym e))

  pub appends : (by : ℕ) (v : View S R) (entry : Option (S × R)) (s : S) (r : R) → v.keeps ≡ true → entry ≡ Some (s, r) → Turns Agree by v (λ x. x) (Appended entry)
  appends by v entry s r keeps is words views h at =
      let mine = h.2 by v at in
      let known = mine.0 keeps in
      let w : View S R = record { keeps = v.keeps; all = v.all ++ (s, r) ∷ []; claims = v.claims ++ (length v.all, s, r) ∷ [] } in
      let stand : Stand v.all v.claims = subst (λ l. Stand l v.claims) (sym known.1) mine.1 in (
        w,
        (
          h.0,
          h.1 ++ (s, r) ∷ [],
          fits_set h.0 (h.1 ++ (s, r) ∷ []) views by w
              (λ j u apart e. ((λ k. absurd (apart (((h.2 j u e).0 k).0 ∙ sym known.0))), stand_more h.1 (s, r) u.claims (h.2 j u e).1)) (
                (λ _. (known.0, ap (λ l. l ++ (s, r) ∷ []) known.1)),
                subst (λ l. Stand (l ++ (s, r) ∷ []) (v.claims ++ (length v.all, s, r) ∷ [])) known.1 (stand_added v.all s r v.claims stand),
              ),
          balanced_on h.1 views by v w s r h.3 at (λ weight. sum_by_push weight v.claims (length v.all, s, r) ∙ ap (λ (l : List (S × R)). sum_by weight v.claims + weight (length l, s, r)) known.1),
        ),
        (stand, λ e same. let f : S × R → View S R = λ d. record { keeps = v.keeps; all = v.all ++ d ∷ []; claims = v.claims ++ (length v.all, d.0, d.1) ∷ [] } in ap f (Some-same (sym is ∙ same))),
      )
    where
      Some-same : {a b : S × R} → Some a ≡ Some b → a ≡ b
      Some-same e = cc

  pub compares : (by : ℕ) (v : View S R) → v.keeps ≡ true → Turns Agree by v (λ x. x) Compared
  compares by v keeps words views h at =
      let mine = h.2 by v at in
      let known = mine.0 keeps in (
        v,
        subst (Agree words) (sym (set_again views by v at)) h,
        (refl, subst (λ l. Stand l v.claims) (sym known.1) mine.1, subst (λ l. Accounts l v.claims) (sym known.1) (accounts h.1 views by v h.3 at)),
      )

  -- the claims of a token go to another
  pub hands_over : (by : ℕ) (v : View S R) → Forks Agree by v (kept_part v) (claims_part v)
  hands_over by v words views h at =
      let mine = h.2 by v at in
      let w = kept_part v in (
        h.0,
        h.1,
        λ j u e. ⊎_elim
            (λ was. fits_set h.0 h.1 views by w (λ i y _ e'. h.2 i y e') (mine.0, stand_none h.1) j u was)
            (λ (same : claims_part v ≡ u). subst (Holds h.0 h.1 j) same ((λ k. absurd (off k)), mine.1))
            (at_snoc (set views by w) (claims_part v) u j e),
        balanced_forked h.1 views by v h.3 at,
      )

  -- a token's view, after it took in another's claims
  took : (by : ℕ) (v : View S R) (other : ℕ) (u w : View S R) → w.keeps ≡ v.keeps → w.all ≡ v.all → ((history : List (S × R)) → Stand history v.claims → Stand history u.claims → Stand history w.claims)
      → ((weight : ℕ × S × R → ℕ) → claimed weight w ≡ claimed weight u + claimed weight v) → Merges Agree by v other u w (claimer [])
  took by v other u w keeps all stand sums words views h at apart there =
      let mine = h.2 by v at in
      let theirs = ⊎_elim (λ (t : (other ≡ by) × (w ≡ u)). absurd (apart t.0)) (λ (t : (other ≢ by) × (get_elem? views other ≡ some u)). h.2 other u t.1) (at_set views by other w u there) in
      let now : Holds h.0 h.1 by w = ((λ k. let known = mine.0 (sym keeps ∙ k) in (known.0, all ∙ known.1)), stand h.1 mine.1 theirs.1) in (
        h.0,
        h.1,
        fits_set h.0 h.1 (set views by w) other (claimer []) (λ j y _ e. fits_set h.0 h.1 views by w (λ i z _ e'. h.2 i z e') now j y e) ((λ k. absurd (off k)), stand_none h.1),
        balanced_merged h.1 views by v other u w h.3 at there sums,
      )

  pub takes_in : (by : ℕ) (v : View S R) (other : ℕ) (u : View S R) → v.claims ≡ [] → Merges Agree by v other u (shown v u) (claimer [])
  takes_in by v other u none = took by v other u (shown v u) refl refl (λ _ _ g. g) (λ weight. alone _ _ (ap (sum_by weight) none))

  pub gathers : (by : ℕ) (v : View S R) (other : ℕ) (u : View S R) → Merges Agree by v other u (gathered v u) (claimer [])
  gathers by v other u = took by v other u (gathered v u) refl refl (λ history h g. stand_both history u.claims v.claims g h) (λ weight. sum_by-append weight u.claims v.claims)
