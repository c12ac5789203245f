-- Pending entries: marks, and distinct keys.
use Rattle.std.proofs.Common.{All, suc, ◌+◌, ◌≤◌, ◌≡◌, Bool, true, false, not, ◌&&◌, ◌||◌, List, [], ◌∷◌, ◌++◌, length, length-append, if◌then◌else◌, refl, sym, ap, ◌∙◌, subst, true≢false, arith}
use Rattle.std.specs.Cmp.{IsEquivalence}
use Rattle.std.specs.List.{AllByRecursion}
use Rattle.std.proofs.lemmas.List.Folds.{list_any-append}
use Rattle.std.proofs.lemmas.List.Elements.{All-from_recursion, recursion_from_All, All-append, All-cons, All-nil}
use Rattle.tower_pool.specs.ReadyCache.{PendingView}
use Rattle.tower_pool.specs.ReadyCache.{Apart, Askable, is_pending, cancel, put_back, pending_entry, is_entry_of}

pub left_false : (a b : Bool) → (a || b) ≡ false → a ≡ false
left_false true b h = absurd (true≢false h)
left_false false b h = refl

pub right_false : (a b : Bool) → (a || b) ≡ false → b ≡ false
right_false true b h = absurd (true≢false h)
right_false false b h = h

module _ {K S : Type 0} (eq : K → K → Bool) where
  module _ (k : K) where
    pub length-cancel : (ps : List (PendingView K S)) → length (cancel eq k ps) ≡ length ps
    length-cancel [] = refl
    length-cancel (p ∷ ps) = by (length-cancel ps) (is_entry_of eq k p)
      where
        by : length (cancel eq k ps) ≡ length ps → (b : Bool) → length (if b then (record p { cancelled = true }) ∷ ps else p ∷ cancel eq k ps) ≡ suc (length ps)
        by rest true = refl
        by rest false = ap suc rest

    each_cancel : (P : S → Type 0) (ps : List (PendingView K S)) → AllByRecursion (Askable P) ps → AllByRecursion (Askable P) (cancel eq k ps)
    each_cancel P [] h = h
    each_cancel P (p ∷ ps) h = by (each_cancel P ps h.1) (is_entry_of eq k p)
      where
        by : AllByRecursion (Askable P) (cancel eq k ps) → (b : Bool) → AllByRecursion (Askable P) (if b then (record p { cancelled = true }) ∷ ps else p ∷ cancel eq k ps)
        by rest true = (λ e. absurd (true≢false e), h.1)
        by rest false = (h.0, rest)

    -- the services stay, and one more of them may not be asked
    pub All-cancel : (P : S → Type 0) (ps : List (PendingView K S)) → All (Askable P) ps → All (Askable P) (cancel eq k ps)
    All-cancel P ps h = All-from_recursion _ _ (each_cancel P ps (recursion_from_All _ ps h))

    -- also with a new one behind
    pub All-new : (P : S → Type 0) (s : S) (ps : List (PendingView K S)) → P s → All (Askable P) ps → All (Askable P) (cancel eq k ps ++ pending_entry k s ∷ [])
    All-new P s ps now h =
        All-append (Askable P) (cancel eq k ps) (pending_entry k s ∷ []) (All-cancel P ps h) (All-cons (Askable P) (pending_entry k s) [] (λ _. now) (All-nil (Askable P)))

    -- no other entry comes to wait
    still_none : (j : K) (ps : List (PendingView K S)) → is_pending eq j ps ≡ false → is_pending eq j (cancel eq k ps) ≡ false
    still_none j [] h = refl
    still_none j (p ∷ ps) h = by (still_none j ps (right_false (is_entry_of eq j p) (is_pending eq j ps) h)) (is_entry_of eq k p)
      where
        by : is_pending eq j (cancel eq k ps) ≡ false → (b : Bool) → is_pending eq j (if b then (record p { cancelled = true }) ∷ ps else p ∷ cancel eq k ps) ≡ false
        by rest true = right_false (is_entry_of eq j p) (is_pending eq j ps) h
        by rest false = (λ i. left_false (is_entry_of eq j p) (is_pending eq j ps) h i || rest i)

    pub apart_cancel : (ps : List (PendingView K S)) → Apart eq ps → Apart eq (cancel eq k ps)
    apart_cancel [] h = h
    apart_cancel (p ∷ ps) h = by (apart_cancel ps h.1) (is_entry_of eq k p)
      where
        by : Apart eq (cancel eq k ps) → (b : Bool) → Apart eq (if b then (record p { cancelled = true }) ∷ ps else p ∷ cancel eq k ps)
        by rest true = (λ e. absurd (true≢false e), h.1)
        by rest false = (λ e. still_none p.key ps (h.0 e), rest)

  module _ (laws : IsEquivalence eq) where
    -- equal keys wait alike
    pub alike : (j k : K) (ps : List (PendingView K S)) → eq j k ≡ true → is_pending eq j ps ≡ is_pending eq k ps
    alike j k [] e = refl
    alike j k (p ∷ ps) e = (λ i. (not p.cancelled && laws.congr j k p.key e i) || alike j k ps e i)

    abbrev after : K → PendingView K S → List (PendingView K S) → Bool → Bool → Type 0
    after k p ps c b = is_pending eq k (if not c && b then (record p { cancelled = true }) ∷ ps else p ∷ cancel eq k ps) ≡ false

    -- after the mark none waits
    pub none_after : (k : K) (ps : List (PendingView K S)) → Apart eq ps → is_pending eq k (cancel eq k ps) ≡ false
    none_after k [] h = refl
    none_after k (p ∷ ps) h = by (none_after k ps h.1) p.cancelled refl (eq k p.key) refl
      where
        by : is_pending eq k (cancel eq k ps) ≡ false → (c : Bool) → p.cancelled ≡ c → (b : Bool) → eq k p.key ≡ b → after k p ps p.cancelled (eq k p.key)
        by rest true c b e = subst (λ x. after k p ps x (eq k p.key)) (sym c) (λ i. (not (c i) && eq k p.key) || rest i)
        by rest false c true e = subst (λ x. after k p ps x (eq k p.key)) (sym c) (subst (after k p ps false) (sym e) (alike k p.key ps e ∙ h.0 c))
        by rest false c false e = subst (λ x. after k p ps x (eq k p.key)) (sym c) (subst (after k p ps false) (sym e) (λ i. (not (c i) && e i) || rest i))

    pub apart_push : (ps : List (PendingView K S)) (q : PendingView K S) → is_pending eq q.key ps ≡ false → Apart eq ps → Apart eq (ps ++ q ∷ [])
    apart_push [] q none h = (λ c. refl, tt)
    apart_push (p ∷ ps) q none h = (
      λ c. list_any-append (is_entry_of eq p.key) ps (q ∷ []) ∙ (λ i. h.0 c i || (other c i || false)),
      apart_push ps q (right_false (is_entry_of eq q.key p) (is_pending eq q.key ps) none) h.1,
    )
      where
        apart : p.cancelled ≡ false → eq p.key q.key ≡ false
        apart c = laws.symm p.key q.key ∙ (let e = left_false (is_entry_of eq q.key p) (is_pending eq q.key ps) none in rw c at e)

        other : p.cancelled ≡ false → is_entry_of eq p.key q ≡ false
        other c = by q.cancelled
          where
            by : (b : Bool) → (not b && eq p.key q.key) ≡ false
            by true = refl
            by false = apart c

    -- a new entry, after the mark
    pub apart_new : (k : K) (s : S) (ps : List (PendingView K S)) → Apart eq ps → Apart eq (cancel eq k ps ++ pending_entry k s ∷ [])
    apart_new k s ps h = apart_push (cancel eq k ps) (pending_entry k s) (none_after k ps h) (apart_cancel k ps h)

    -- one that comes back
    pub apart_back : (k : K) (s : S) (ps : List (PendingView K S)) → Apart eq ps → Apart eq (put_back eq k s ps)
    apart_back k s ps h = by (is_pending eq k ps) refl
      where
        by : (b : Bool) → is_pending eq k ps ≡ b → Apart eq (if b then ps else ps ++ pending_entry k s ∷ [])
        by true e = h
        by false e = apart_push ps (pending_entry k s) e h

    -- it has room
    pub length-put_back : (k : K) (s : S) (ps : List (PendingView K S)) → length (put_back eq k s ps) ≤ length ps + 1
    length-put_back k s ps = by (is_pending eq k ps)
      where
        by : (b : Bool) → length (if b then ps else ps ++ pending_entry k s ∷ []) ≤ length ps + 1
        by true = omega arith
        by false = omega (arith, length-append ps (pending_entry k s ∷ []))

    -- and its service is sound
    pub All-put_back : (P : S → Type 0) (k : K) (s : S) (ps : List (PendingView K S)) → P s → All (Askable P) ps → All (Askable P) (put_back eq k s ps)
    All-put_back P k s ps now h = by (is_pending eq k ps)
      where
        by : (b : Bool) → All (Askable P) (if b then ps else ps ++ pending_entry k s ∷ [])
        by true = h
        by false = All-append (Askable P) ps (pending_entry k s ∷ []) h (All-cons (Askable P) (pending_entry k s) [] (λ _. now) (All-nil (Askable P)))
