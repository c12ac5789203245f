-- Each step at a core's place keeps its rule.
use Rattle.std.proofs.Common.{◌≡◌, ◌≢◌, ◌≤◌, ℕ, zero, suc, ◌+◌, ◌-◌, List, [], ◌∷◌, ◌++◌, set, true, false, true≢false, refl, sym, ap, ◌∙◌, subst, ⊎_elim, arith, slice_index, slice_set}
use Rattle.std.specs.List.{sum_by}
use Rattle.std.proofs.lemmas.List.Sums.{sum_by-cons, sum_by_push}
use mathlib.Core.Option.{Option, none, some, some-ne-none, some-injective}
use lib.ListN.{get_elem?}
use Rattle.atomic_table.specs.Table.{Me, Act, step, Valid, stepped, rest, homes_after, carried_after, Allows, Arrives, Joins, keeps, takes, gives, opening}
use Rattle.atomic_table.proofs.Lists.{at_set, at_snoc, set_again}
use Rattle.tower_latch.specs.declared.guarded.table.View.{View}
use Rattle.tower_latch.specs.BadgeViews.{out_by}
use Rattle.tower_latch.specs.CoreTable.{initial, with_those, one_if, has_of, out_of, Agree, Holds, HoldsBadge, Taken, left, Freed, HasCore, MayFree, LeavesBadge}

sum_set : (f : View → ℕ) (xs : List View) (i : ℕ) (a b : View) → get_elem? xs i ≡ some a → sum_by f (set xs i b) + f a ≡ sum_by f xs + f b
sum_set f [] i a b e = absurd (some-ne-none a (sym e))
sum_set f (x ∷ xs) zero a b e = here _ _ _ _ _ _ (sum_by-cons f b xs) (sum_by-cons f x xs) (ap f (some-injective x a e))
  where
    here : (y z s x a b : ℕ) → y ≡ b + s → z ≡ x + s → x ≡ a → y + a ≡ z + b
    here y z s x a b p q r = omega (arith, p, q, r)
sum_set f (x ∷ xs) (suc i) a b e = there _ _ _ _ _ _ _ (sum_by-cons f x (set xs i b)) (sum_by-cons f x xs) (sum_set f xs i a b e)
  where
    there : (y z s t x a b : ℕ) → y ≡ x + s → z ≡ x + t → s + a ≡ t + b → y + a ≡ z + b
    there y z s t x a b p q r = omega (arith, p, q, r)

-- one view counts no more than all together
within : (f : View → ℕ) → f initial ≡ 0 → (xs : List View) (i : ℕ) (a : View) → get_elem? xs i ≡ some a → f a ≤ sum_by f xs
within f none_there xs i a e = lemma _ _ _ _ (sum_set f xs i a initial e) none_there
  where
    lemma : (x a s z : ℕ) → x + a ≡ s + z → z ≡ 0 → a ≤ s
    lemma x a s z h o = omega (arith, h, o)

off : false ≡ true → ⊥
off e = true≢false (sym e)

-- who has the core knows how many tokens all have
abbrev Knows : ℕ → List View → Type 0
Knows sum views = (by : ℕ) (v : View) → get_elem? views by ≡ some v → v.has ≡ true → v.held ≡ sum

-- nobody has it
nobody : (sum : ℕ) (views : List View) → sum_by has_of views ≡ 0 → Knows sum views
nobody sum views none_has by v e has = absurd (lemma _ _ (within has_of refl views by v e) none_has (ap one_if has))
  where
    lemma : (x y : ℕ) → x ≤ y → y ≡ 0 → x ≡ 1 → ⊥
    lemma x y a b c = omega (arith, a, b, c)

know_push : (sum more : ℕ) (views : List View) (u : View) → Knows sum views → more ≡ sum → (u.has ≡ true → u.held ≡ more) → Knows more (views ++ u ∷ [])
know_push sum more views u know same mine by v e has = ⊎_elim
    (λ was. know by v was has ∙ sym same)
    (λ (it : u ≡ v). subst (λ (x : View). x.has ≡ true → x.held ≡ more) it mine has)
    (at_snoc views u v by e)

know_set : (sum more : ℕ) (views : List View) (i : ℕ) (u : View) → Knows sum views → more ≡ sum → (u.has ≡ true → u.held ≡ more) → Knows more (set views i u)
know_set sum more views i u know same mine by v e has = ⊎_elim
    (λ (t : (by ≡ i) × (u ≡ v)). subst (λ (x : View). x.has ≡ true → x.held ≡ more) t.1 mine has)
    (λ (t : (by ≢ i) × (get_elem? views by ≡ some v)). know by v t.1 has ∙ sym same)
    (at_set views i by u v e)

word_is : (words : List ℕ) (w : ℕ) → words ≡ w ∷ [] → slice_index words 0 ≡ w
word_is words w e = ap (λ (l : List ℕ). slice_index l 0) e

words_set : (words : List ℕ) (w n : ℕ) → words ≡ w ∷ [] → slice_set words 0 n ≡ n ∷ []
words_set words w n e = ap (λ (l : List ℕ). slice_set l 0 n) e

module _ {K : Type 0} where
  homes_set : (homes : List (Option K)) (h n : Option K) → homes ≡ h ∷ [] → slice_set homes 0 n ≡ n ∷ []
  homes_set homes h n e = ap (λ (l : List (Option K)). slice_set l 0 n) e

  home_is : (homes : List (Option K)) (h : Option K) → homes ≡ h ∷ [] → get_elem? homes 0 ≡ some h
  home_is homes h e = ap (λ (l : List (Option K)). get_elem? l 0) e

module _ {K : Type 0} (is : K → Type 0) (out : K → ℕ) where
  abbrev At : ℕ → Option K → List View → Type 0
  At w h views = (w ≡ 0 → (sum_by has_of views ≡ 0) × ((k : K) × (h ≡ some k) × is k × (out k ≡ sum_by out_of views)))

  pub begins : (k : K) → is k → out k ≡ 0 → Agree is out (opening (0 ∷ []) (k ∷ []) initial)
  begins k its nothing = (
    0,
    some k,
    refl,
    refl,
    (λ e. (lemma _ (sum_by-cons has_of initial []), (k, refl, its, nothing ∙ sym (lemma _ (sum_by-cons out_of initial []))))),
    (λ no. absurd (no refl)),
    nobody _ (initial ∷ []) (lemma _ (sum_by-cons has_of initial [])),
  )
    where
      lemma : (x : ℕ) → x ≡ 0 + 0 → x ≡ 0
      lemma x e = omega (arith, e)

  pub arrives : (told : K → Type 0) → ((k : K) → is k → told k) → Arrives (Agree is out) 1 0 (λ n. 1) (Taken told out (step 1 0 1 0 none) (initial, []))
  arrives told tells s h len small = at h.0 h.1 h.2 h.3 h.4 h.5
    where
      Goal : Type 0
      Goal = (w : View) × (a : Act K) × Valid s.homes [] a
          × Agree is out record { words = slice_set s.words 0 1; homes = homes_after s.homes [] a; views = s.views ++ w ∷ [] }
          × Taken told out (step 1 0 1 0 none) (initial, []) (slice_index s.words 0) (w, carried_after [] a)

      zeros : (x y : ℕ) → x ≡ y + 0 → x ≡ y
      zeros x y a = omega (arith, a)

      at : (w : ℕ) (o : Option K) → s.words ≡ w ∷ [] → s.homes ≡ o ∷ [] → At w o s.views → (w ≢ 0 → sum_by has_of s.views ≡ 1) → Goal
      at zero o words homes free taken =
          let it = free refl in
          let k : K = it.1.0 in
          let u : View = record initial { has = true; held = out k } in
          let sums : sum_by out_of (s.views ++ u ∷ []) ≡ sum_by out_of s.views = zeros _ _ (sum_by_push out_of s.views u) in (
            u,
            takes 0 k,
            home_is s.homes o homes ∙ ap (λ (x : Option K). some x) it.1.1,
            (
              1,
              none,
              words_set s.words zero 1 words,
              homes_set s.homes o none homes,
              (λ e. absurd (one_not e)),
              (λ no. one _ _ (sum_by_push has_of s.views u) it.0),
              know_push _ _ s.views u (nobody (sum_by out_of s.views) s.views it.0) sums (λ e. it.1.3 ∙ sym sums),
            ),
            ((λ e. (k, refl, tells k it.1.2)), (λ no. absurd (no (word_is s.words zero words)))),
          )
        where
          one : (x y : ℕ) → x ≡ y + 1 → y ≡ 0 → x ≡ 1
          one x y a b = omega (arith, a, b)

          one_not : ◌≡◌ {A = ℕ} 1 0 → ⊥
          one_not e = omega (arith, e)
      at (suc w) o words homes free taken =
          let sums : sum_by out_of (s.views ++ initial ∷ []) ≡ sum_by out_of s.views = zeros _ _ (sum_by_push out_of s.views initial) in (
            initial,
            keeps,
            tt,
            (
              1,
              o,
              words_set s.words (suc w) 1 words,
              homes,
              (λ e. absurd (one_not e)),
              (λ no. zeros _ _ (sum_by_push has_of s.views initial) ∙ taken (λ e. some_word _ e)),
              know_push _ _ s.views initial h.6 sums (λ e. absurd (off e)),
            ),
            ((λ e. absurd (apart _ _ e (word_is s.words (suc w) words))), (λ no. refl)),
          )
        where
          one_not : ◌≡◌ {A = ℕ} 1 0 → ⊥
          one_not e = omega (arith, e)

          some_word : (x : ℕ) → suc x ≡ 0 → ⊥
          some_word x e = omega (arith, e)

          apart : (f k : ℕ) → f ≡ 0 → f ≡ suc k → ⊥
          apart f k a b = omega (arith, a, b)

  -- a seat without the core takes it, if it is free
  retakes : (told : K → Type 0) → ((k : K) → is k → told k) → (id n : ℕ) (v : View) → v.has ≡ false → n ≢ 0 → Allows (Agree is out) 1 id (v, []) 0 (λ x. n) (Taken told out (step 1 0 n 0 none) (v, []))
  retakes told tells id n v without some_word s h len mine small = at h.0 h.1 h.2 h.3 h.4 h.5
    where
      Goal : Type 0
      Goal = (w : View) × (a : Act K) × Valid s.homes [] a
          × Agree is out (stepped s 0 n id [] w a)
          × Taken told out (step 1 0 n 0 none) (v, []) (slice_index s.words 0) (w, carried_after [] a)

      same : (x y z : ℕ) → x + z ≡ y + z → x ≡ y
      same x y z a = omega (arith, a)

      at : (w : ℕ) (o : Option K) → s.words ≡ w ∷ [] → s.homes ≡ o ∷ [] → At w o s.views → (w ≢ 0 → sum_by has_of s.views ≡ 1) → Goal
      at zero o words homes free taken =
          let it = free refl in
          let k : K = it.1.0 in
          let u : View = record v { has = true; held = out k } in
          let sums : sum_by out_of (set s.views id u) ≡ sum_by out_of s.views = same _ _ _ (sum_set out_of s.views id v u mine) in (
            u,
            takes 0 k,
            home_is s.homes o homes ∙ ap (λ (x : Option K). some x) it.1.1,
            (
              n,
              none,
              words_set s.words zero n words,
              homes_set s.homes o none homes,
              (λ e. absurd (some_word e)),
              (λ no. one _ _ _ (sum_set has_of s.views id v u mine) it.0 (ap one_if without)),
              know_set _ _ s.views id u (nobody (sum_by out_of s.views) s.views it.0) sums (λ e. it.1.3 ∙ sym sums),
            ),
            ((λ e. (k, refl, tells k it.1.2)), (λ no. absurd (no (word_is s.words zero words)))),
          )
        where
          one : (x y z : ℕ) → x + z ≡ y + 1 → y ≡ 0 → z ≡ 0 → x ≡ 1
          one x y z a b c = omega (arith, a, b, c)
      at (suc w) o words homes free taken = (
        v,
        keeps,
        tt,
        subst (λ (l : List View). Agree is out record { words = slice_set s.words 0 n; homes = s.homes; views = l }) (sym (set_again s.views id v mine))
            (n, o, words_set s.words (suc w) n words, homes, (λ e. absurd (some_word e)), (λ no. taken (λ e. a_word _ e)), h.6),
        ((λ e. absurd (apart _ _ e (word_is s.words (suc w) words))), (λ no. refl)),
      )
        where
          a_word : (x : ℕ) → suc x ≡ 0 → ⊥
          a_word x e = omega (arith, e)

          apart : (f k : ℕ) → f ≡ 0 → f ≡ suc k → ⊥
          apart f k a b = omega (arith, a, b)

  -- who has the core puts it back
  returns : (id : ℕ) (v : View) (k : K) → v.has ≡ true → is k → v.held ≤ v.out + out k → Allows (Agree is out) 1 id (v, (0, k) ∷ []) 0 (λ x. 0) (Freed out (step 1 0 0 0 none) (v, (0, k) ∷ []))
  returns id v k having its enough s h len mine small = at h.0 h.1 h.2 h.3 h.4 h.5
    where
      u : View
      u = left out v k

      Goal : Type 0
      Goal = (w : View) × (a : Act K) × Valid s.homes ((0, k) ∷ []) a
          × Agree is out (stepped s 0 0 id ((0, k) ∷ []) w a)
          × Freed out (step 1 0 0 0 none) (v, (0, k) ∷ []) (slice_index s.words 0) (w, carried_after ((0, k) ∷ []) a)

      at : (w : ℕ) (o : Option K) → s.words ≡ w ∷ [] → s.homes ≡ o ∷ [] → At w o s.views → (w ≢ 0 → sum_by has_of s.views ≡ 1) → Goal
      at zero o words homes free taken = absurd (none_has _ _ (within has_of refl s.views id v mine) (free refl).0 (ap one_if having))
        where
          none_has : (x y : ℕ) → x ≤ y → y ≡ 0 → x ≡ 1 → ⊥
          none_has x y a b c = omega (arith, a, b, c)
      at (suc w) o words homes free taken =
          let knows : v.held ≡ sum_by out_of s.views = h.6 id v mine having in
          let none_has : sum_by has_of (set s.views id u) ≡ 0 = rest _ _ _ (sum_set has_of s.views id v u mine) (taken (λ e. a_word _ e)) (ap one_if having) in
          let sums : out k ≡ sum_by out_of (set s.views id u) = total _ _ _ _ _ (sum_set out_of s.views id v u mine) knows enough in (
            u,
            gives,
            tt,
            (0, some k, words_set s.words (suc w) 0 words, homes_set s.homes o (some k) homes, (λ e. (none_has, (k, refl, its, sums))), (λ no. absurd (no refl)), nobody _ _ none_has),
            (k, refl, refl, subst (λ (x : ℕ). v.out ≤ x) (sym knows) (within out_of refl s.views id v mine)),
          )
        where
          a_word : (x : ℕ) → suc x ≡ 0 → ⊥
          a_word x e = omega (arith, e)

          rest : (x y z : ℕ) → x + z ≡ y + 0 → y ≡ 1 → z ≡ 1 → x ≡ 0
          rest x y z a b c = omega (arith, a, b, c)

          total : (x s o k h : ℕ) → x + o ≡ s + ((o + k) - h) → h ≡ s → h ≤ o + k → k ≡ x
          total x s o k h a b c = omega (arith, a, b, c)

  pub gathers : (id other : ℕ) (v u : View) → u.has ≡ false → Joins (Agree is out) id v other u (with_those v u) initial
  gathers id other v u without s h mine apart there =
      let mid : List View = set s.views id (with_those v u) in
      let has_sums = same _ _ _ _ _ (sum_set has_of s.views id v (with_those v u) mine) (sum_set has_of mid other u initial there) (ap one_if without) in
      let out_sums = moved _ _ _ _ _ (sum_set out_of s.views id v (with_those v u) mine) (sum_set out_of mid other u initial there) in
      let know_mid : Knows (sum_by out_of s.views) mid = know_set (sum_by out_of s.views) _ s.views id (with_those v u) h.6 refl (λ has. h.6 id v mine has) in (
        h.0,
        h.1,
        h.2,
        h.3,
        (λ e. let it = h.4 e in (has_sums ∙ it.0, (it.1.0, it.1.1, it.1.2, it.1.3 ∙ sym out_sums))),
        (λ no. has_sums ∙ h.5 no),
        know_set (sum_by out_of s.views) _ mid other initial know_mid out_sums (λ e. absurd (off e)),
      )
    where
      same : (new mid old a z : ℕ) → mid + a ≡ old + a → new + z ≡ mid + 0 → z ≡ 0 → new ≡ old
      same new mid old a z p q r = omega (arith, p, q, r)

      moved : (new mid old p q : ℕ) → mid + p ≡ old + (p + q) → new + q ≡ mid + 0 → new ≡ old
      moved new mid old p q a b = omega (arith, a, b)

  pub takes_at : (told : K → Type 0) → ((k : K) → is k → told k) → (id n : ℕ) (v : View) (me : Me K View) → me ≡ (v, []) → v.has ≡ false → n ≢ 0 → Allows (Agree is out) 1 id me 0 (λ x. n) (Taken told out (step 1 0 n 0 none) me)
  takes_at told tells id n v me same without some_word = subst (λ (x : Me K View). Allows (Agree is out) 1 id x 0 (λ y. n) (Taken told out (step 1 0 n 0 none) x)) (sym same) (retakes told tells id n v without some_word)

  pub frees_at : (id : ℕ) (v : View) (k : K) (me : Me K View) → me ≡ (v, (0, k) ∷ []) → v.has ≡ true → is k → v.held ≤ v.out + out k → Allows (Agree is out) 1 id me 0 (λ x. 0) (Freed out (step 1 0 0 0 none) me)
  frees_at id v k me same having its enough = subst (λ (x : Me K View). Allows (Agree is out) 1 id x 0 (λ y. 0) (Freed out (step 1 0 0 0 none) x)) (sym same) (returns id v k having its enough)

  -- the one slot of a seat
  pub has_slot : (l : List (ℕ × K)) (k : K) → l ≡ (0, k) ∷ [] → l ≡ (0, k) ∷ rest l
  has_slot l k e = e ∙ ap (λ (x : List (ℕ × K)). (0, k) ∷ rest x) (sym e)

  one_slot : (l : List (ℕ × K)) (k m : K) → l ≡ (0, k) ∷ [] → (0, m) ∷ rest l ≡ (0, m) ∷ []
  one_slot l k m e = ap (λ (x : List (ℕ × K)). (0, m) ∷ rest x) e

  first_of : K → List (ℕ × K) → K
  first_of k [] = k
  first_of k (x ∷ xs) = x.1

  same_slot : (l : List (ℕ × K)) (k m : K) → l ≡ (0, k) ∷ [] → l ≡ (0, m) ∷ rest l → m ≡ k
  unfolding first_of
  same_slot l k m e f = ap (first_of k) (sym f ∙ e)

  pub has_core : (v : View) (me : Me K View) → Holds is out v me → HasCore is out me
  has_core v me h = (h.0, ap (λ (m : Me K View). m.1) h.1, h.2, ap (λ (m : Me K View). m.0.held) h.1)

  -- so of a seat that was a badge, which has the places of the badge
  pub badge_core : (views : List View) (me : Me K View) → HoldsBadge is out views me → HasCore is out me × (me.0.out ≡ out_by views)
  badge_core views me h = (has_core h.0 me h.2, ap (λ (m : Me K View). m.0.out) h.2.1 ∙ sym (ap out_by h.1))

  -- the slot is lent, and unchanged so far
  pub still : (me : Me K View) (m : K) → HasCore is out me → me.1 ≡ (0, m) ∷ rest me.1 → HasCore is out (me.0, (0, m) ∷ rest me.1)
  still me m h lent =
      let same : m ≡ h.0 = same_slot me.1 h.0 m h.1 lent in
      (m, one_slot me.1 h.0 m h.1, subst is (sym same) h.2, h.3 ∙ ap out (sym same))

  pub it_is : (me : Me K View) (m : K) → HasCore is out me → me.1 ≡ (0, m) ∷ rest me.1 → is m
  it_is me m h lent = subst is (sym (same_slot me.1 h.0 m h.1 lent)) h.2

  -- after a step that counts its tokens the core may go back
  pub may_free : (me : Me K View) (m new : K) (paid gained : ℕ) → HasCore is out me → me.1 ≡ (0, m) ∷ rest me.1
      → (is m → is new) → out new + paid ≡ out m + gained → paid ≤ me.0.out → MayFree is out (me.0, (0, new) ∷ rest me.1)
  may_free me m new paid gained h lent stays counted enough =
      let same : m ≡ h.0 = same_slot me.1 h.0 m h.1 lent in
      (new, one_slot me.1 h.0 new h.1, stays (subst is (sym same) h.2), lemma _ _ _ _ _ (h.3 ∙ ap out (sym same)) counted enough)
    where
      lemma : (held o n was g : ℕ) → held ≡ was → n + paid ≡ was + g → paid ≤ o → held ≤ o + n
      lemma held o n was g a b c = omega (arith, a, b, c)

  -- what the badge has after a step that counts its places
  pub after_step : (me : Me K View) (m new : K) (after : List View) (paid gained : ℕ) → HasCore is out me → me.1 ≡ (0, m) ∷ rest me.1
      → out new + paid ≡ out m + gained → paid ≤ me.0.out → LeavesBadge out (me.0, (0, new) ∷ rest me.1) after → out_by after + paid ≡ me.0.out + gained
  after_step me m new after paid gained h lent counted enough leaves =
      let same : m ≡ h.0 = same_slot me.1 h.0 m h.1 lent in
      let which : leaves.0 ≡ new = sym (same_slot ((0, new) ∷ rest me.1) leaves.0 new leaves.1 refl) in
      lemma _ _ _ _ _ _ (ap out_by leaves.2) (h.3 ∙ ap out (sym same)) counted (ap out which) enough
    where
      lemma : (o held n k was a : ℕ) → a ≡ (o + k) - held → held ≡ was → n + paid ≡ was + gained → k ≡ n → paid ≤ o → a + paid ≡ o + gained
      lemma o held n k was a e b c d p = omega (arith, e, b, c, d, p)

  -- The core counted no fewer places than the seat had.
  pub held_before : (me : Me K View) (m new : K) (after : List View) → HasCore is out me → me.1 ≡ (0, m) ∷ rest me.1
      → LeavesBadge out (me.0, (0, new) ∷ rest me.1) after → me.0.out ≤ out m
  held_before me m new after h lent leaves = lemma _ _ _ leaves.3 (h.3 ∙ ap out (sym (same_slot me.1 h.0 m h.1 lent)))
    where
      lemma : (o held was : ℕ) → o ≤ held → held ≡ was → o ≤ was
      lemma o held was a b = omega (arith, a, b)

  same_first : (l : List (ℕ × K)) (k m : K) → l ≡ (0, k) ∷ [] → l ≡ (0, m) ∷ [] → m ≡ k
  unfolding first_of
  same_first l k m e f = ap (first_of k) (sym f ∙ e)

  -- what the badge of a seat has that had the core and puts it back unchanged
  pub after_none : (me : Me K View) (after : List View) → HasCore is out me → LeavesBadge out me after → out_by after ≡ me.0.out
  after_none me after h leaves =
      let which : leaves.0 ≡ h.0 = same_first me.1 h.0 leaves.0 h.1 leaves.1 in
      lemma _ _ _ _ (ap out_by leaves.2) h.3 (ap out which)
    where
      lemma : (o held k a : ℕ) → a ≡ (o + k) - held → held ≡ out h.0 → k ≡ out h.0 → a ≡ o
      lemma o held k a e b c = omega (arith, e, b, c)
