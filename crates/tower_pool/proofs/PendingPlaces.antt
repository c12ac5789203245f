-- What a slab in the order of waiting stands for, with the places of keys.
use Rattle.std.proofs.Common.{◌≤◌, ◌<◌, unwrap_or, Result, Ok, Err, OnOk, OnErr, slice_index_or, count_by, ℕ, suc, ◌+◌, ◌≡◌, ◌≢◌, ◌⊎◌, Bool, true, false, cond, not, ◌&&◌, ◌||◌, eqb, List, [], ◌∷◌, ◌++◌, Option, Some, None, is_some, IsSomeAnd, IfNone, IfSome, length, length-append, if◌then◌else◌, refl, sym, ap, ◌∙◌, subst, ⊎_elim, inl, inr, true≢false, arith}
use Rattle.std.proofs.Math.Nat.{le-min, min-le_left, min-le_right}
use Rattle.std.proofs.lemmas.Bool.Decides.{eqb_tells}
use Rattle.std.proofs.lemmas.Bool.{cases_order, eq-eqb}
use Rattle.std.proofs.lemmas.List.Folds.{list_any-append}
use Rattle.std.specs.Cmp.{IsEquivalence}
use Rattle.std.specs.HashMap.{HashMap, Updates as HashUpdates}
use Rattle.std.specs.Map.{lookup, set_value}
use Rattle.std.specs.Result.{is_ok}
use Rattle.slab.specs.Slab.{HasRoomFor, Updates, get, slab_len}
use Rattle.tower_base.specs.Links.{LinksView}
use Rattle.tower_base.specs.Order.{Apart as NoneTwice, first_or, has, without}
use Rattle.tower_latch.proofs.KeysLemmas.{apart_push, has_append, has_first, or_right, without_first}
use Rattle.tower_pool.specs.ReadyCache.{Apart, PendingView, is_pending, cancel, is_entry_of, pending_entry}
use Rattle.tower_pool.specs.Pending.{Placed, Stands, entry_of, item_at, items_of, last_of, marked, names, names_one, room_of, seen, stored}
use Rattle.tower_pool.proofs.PendingLemmas.{alike, left_false, right_false}

abbrev Places : Type 0 → Type 0
Places K = K → Option (Option ℕ)

or_false : (b : Bool) → (b || false) ≡ b
or_false true = refl
or_false false = refl

or_left : (a b : Bool) → a ≡ true → (a || b) ≡ true
or_left a b h = λ t. h t || b

and_no : (a b : Bool) → b ≡ false → (a && b) ≡ false
and_no true b h = h
and_no false b h = refl

names_none : (i : ℕ) (o : Option (Option ℕ)) → names_one o ≡ false → names i o ≡ false
names_none i None h = refl
names_none i (Some None) h = refl
names_none i (Some (Some j)) h = absurd (true≢false h)

named_is : (i : ℕ) (o : Option (Option ℕ)) → names i o ≡ true → o ≡ Some (Some i)
named_is i None h = absurd (true≢false (sym h))
named_is i (Some None) h = absurd (true≢false (sym h))
named_is i (Some (Some j)) h = ⊎_elim (λ l. ap (λ n. Some (Some n)) l.1) (λ r. absurd (true≢false (sym h ∙ r.0))) (eqb_tells j i)

absent : {X : Type 0} → (o : Option X) → o ≡ None → is_some o ≡ true → ⊥
absent o e t = true≢false (sym t ∙ ap is_some e)

-- equal keys have one place
pub like : {K X : Type 0} → (eq : K → K → Bool) → IsEquivalence eq → (es : List (K × X)) → (j k : K) → eq j k ≡ true → lookup (eq j) es ≡ lookup (eq k) es
like eq laws es j k e = λ t. lookup (λ z. laws.congr j k z e t) es

module _ {K S : Type 0} where
  pub length-items : (place : Places K) (entry : ℕ → Option (K × S)) (order : List ℕ) → ((i : ℕ) → has order i ≡ true → is_some (entry i) ≡ true) → length (items_of place entry order) ≡ length order
  length-items place entry [] h = refl
  length-items place entry (i ∷ order) h = by (length-items place entry order (λ j t. h j (or_right (eqb j i) (has order j) t))) (entry i) (h i (has_first i order))
    where
      by : length (items_of place entry order) ≡ length order → (o : Option (K × S)) → is_some o ≡ true → length (item_at place i o (items_of place entry order)) ≡ suc (length order)
      by rest None e = absurd (true≢false (sym e))
      by rest (Some u) e = ap suc rest

  -- what the numbers in the order don't see
  pub same_items : (place place' : Places K) (entry entry' : ℕ → Option (K × S)) (order : List ℕ) → ((i : ℕ) → has order i ≡ true → entry' i ≡ entry i)
      → ((i : ℕ) (u : K × S) → has order i ≡ true → entry i ≡ Some u → names i (place' u.0) ≡ names i (place u.0)) → items_of place' entry' order ≡ items_of place entry order
  same_items place place' entry entry' [] h n = refl
  same_items place place' entry entry' (i ∷ order) h n =
      ap (λ o. item_at place' i o (items_of place' entry' order)) (h i (has_first i order))
      ∙ by (same_items place place' entry entry' order (λ j t. h j (or_right (eqb j i) (has order j) t)) (λ j u t e. n j u (or_right (eqb j i) (has order j) t) e)) (entry i) refl
    where
      by : items_of place' entry' order ≡ items_of place entry order → (o : Option (K × S)) → entry i ≡ o → item_at place' i o (items_of place' entry' order) ≡ item_at place i o (items_of place entry order)
      by rest None e = rest
      by rest (Some u) e = λ j. record { key = u.0; service = u.1; cancelled = not (n i u (has_first i order) e j) } ∷ rest j

  pub items_append : (place : Places K) (entry : ℕ → Option (K × S)) (a b : List ℕ) → items_of place entry (a ++ b) ≡ items_of place entry a ++ items_of place entry b
  items_append place entry [] b = refl
  items_append place entry (i ∷ a) b = ap (item_at place i (entry i)) (items_append place entry a b) ∙ by (entry i)
    where
      by : (o : Option (K × S)) → item_at place i o (items_of place entry a ++ items_of place entry b) ≡ item_at place i o (items_of place entry a) ++ items_of place entry b
      by None = refl
      by (Some u) = refl

  module _ (eq : K → K → Bool) (place : Places K) (entry : ℕ → Option (K × S)) (k : K) where
    pending_here : (order : List ℕ) (i : ℕ) (u : K × S) → has order i ≡ true → entry i ≡ Some u → eq k u.0 ≡ true → names i (place u.0) ≡ true → is_pending eq k (items_of place entry order) ≡ true
    pending_here [] i u t e same n = absurd (true≢false (sym t))
    pending_here (j ∷ order) i u t e same n =
        ⊎_elim (λ l. here (ap entry (sym l.1) ∙ e) (ap (λ m. names m (place u.0)) (sym l.1) ∙ n))
        (λ r. later (entry j) (pending_here order i u (ap (λ b. b || has order i) (sym r.0) ∙ t) e same n)) (eqb_tells i j)
      where
        rest : List (PendingView K S)
        rest = items_of place entry order

        here : entry j ≡ Some u → names j (place u.0) ≡ true → is_pending eq k (item_at place j (entry j) rest) ≡ true
        here at named = subst (λ o. is_pending eq k (item_at place j o rest) ≡ true) (sym at) (λ l. (not (not (named l)) && same l) || is_pending eq k rest)

        later : (o : Option (K × S)) → is_pending eq k rest ≡ true → is_pending eq k (item_at place j o rest) ≡ true
        later None h = h
        later (Some v) h = or_right (is_entry_of eq k (seen place j v)) (is_pending eq k rest) h

    pending_none : (order : List ℕ) → ((i : ℕ) (u : K × S) → has order i ≡ true → entry i ≡ Some u → eq k u.0 ≡ true → names i (place u.0) ≡ false) → is_pending eq k (items_of place entry order) ≡ false
    pending_none [] h = refl
    pending_none (j ∷ order) h = by (entry j) refl (pending_none order (λ i u t e. h i u (or_right (eqb i j) (has order i) t) e))
      where
        by : (o : Option (K × S)) → entry j ≡ o → is_pending eq k (items_of place entry order) ≡ false → is_pending eq k (item_at place j o (items_of place entry order)) ≡ false
        by None e rest = rest
        by (Some u) e rest = one (eq k u.0) refl
          where
            one : (b : Bool) → eq k u.0 ≡ b → is_pending eq k (item_at place j (Some u) (items_of place entry order)) ≡ false
            one true same = λ l. (not (not (h j u (has_first j order) e same l)) && eq k u.0) || rest l
            one false differs = λ l. and_no (not (not (names j (place u.0)))) (eq k u.0) differs l || rest l

  module _ (eq : K → K → Bool) (laws : IsEquivalence eq) (es : List (K × Option ℕ)) (links : LinksView (K × S)) (kept : Placed eq (λ k. lookup (eq k) es) links) where
    abbrev here_of : Places K
    here_of k = lookup (eq k) es

    -- a key is pending if its place names an entry
    pub pending_items : (k : K) → is_pending eq k (items_of here_of (get links.entries) links.order) ≡ names_one (lookup (eq k) es)
    pending_items k = by (lookup (eq k) es) refl
      where
        found : (i : ℕ) → lookup (eq k) es ≡ Some (Some i) → has links.order i ≡ true → (o : Option (K × S)) → get links.entries i ≡ o → IsSomeAnd o (λ u. eq k u.0 ≡ true)
            → is_pending eq k (items_of here_of (get links.entries) links.order) ≡ true
        found i e t None at h = absurd h
        found i e t (Some u) at same =
            pending_here eq here_of (get links.entries) k links.order i u t at same (ap (names i) (sym (like eq laws es k u.0 same) ∙ e) ∙ eq-eqb i i refl)

        by : (o : Option (Option ℕ)) → lookup (eq k) es ≡ o → is_pending eq k (items_of here_of (get links.entries) links.order) ≡ names_one o
        by None e = pending_none eq here_of (get links.entries) k links.order (λ i u t at same. ap (names i) (sym (like eq laws es k u.0 same) ∙ e))
        by (Some None) e = pending_none eq here_of (get links.entries) k links.order (λ i u t at same. ap (names i) (sym (like eq laws es k u.0 same) ∙ e))
        by (Some (Some i)) e = let t = kept.told k i e in found i e t.0 (get links.entries i) refl t.1

    pub length-waiters : length (items_of here_of (get links.entries) links.order) ≡ length links.order
    length-waiters = length-items here_of (get links.entries) links.order kept.present

    -- another place for one key, that names no entry
    module _ (key : K) (w : Option (Option ℕ)) (none : names_one w ≡ false) (fs : List (K × Option ℕ)) (now : (q : K) → lookup (eq q) fs ≡ cond (eq key q) w (lookup (eq q) es)) where
      pub placed_marked : Placed eq (λ k. lookup (eq k) fs) links
      placed_marked = record { apart = kept.apart; present = kept.present; count = kept.count; told = λ k i e. kept.told k i (by k i (eq key k) (sym (now k) ∙ e)) }
        where
          by : (k : K) (i : ℕ) (b : Bool) → cond b w (lookup (eq k) es) ≡ Some (Some i) → lookup (eq k) es ≡ Some (Some i)
          by k i true e = absurd (true≢false (sym (ap names_one e) ∙ none))
          by k i false e = e

      abbrev mark_all : List (PendingView K S) → List (PendingView K S)
      mark_all [] = []
      mark_all (p ∷ ps) = (if eq key p.key then record p { cancelled = true } else p) ∷ mark_all ps

      items_marked : (order : List ℕ) → items_of (λ k. lookup (eq k) fs) (get links.entries) order ≡ mark_all (items_of here_of (get links.entries) order)
      items_marked [] = refl
      items_marked (i ∷ order) = by (items_marked order) (get links.entries i)
        where
          one : (u : K × S) (b : Bool) → (let p : PendingView K S = record { key = u.0; service = u.1; cancelled = not (names i (cond b w (lookup (eq u.0) es))) } in
              p ≡ (if b then record (seen here_of i u) { cancelled = true } else seen here_of i u))
          one u true = λ j. record { key = u.0; service = u.1; cancelled = not (names_none i w none j) }
          one u false = refl

          by : items_of (λ k. lookup (eq k) fs) (get links.entries) order ≡ mark_all (items_of here_of (get links.entries) order) → (o : Option (K × S))
              → item_at (λ k. lookup (eq k) fs) i o (items_of (λ k. lookup (eq k) fs) (get links.entries) order) ≡ mark_all (item_at here_of i o (items_of here_of (get links.entries) order))
          by rest None = rest
          by rest (Some u) = λ j. ((λ t. record { key = u.0; service = u.1; cancelled = not (names i (now u.0 t)) }) ∙ one u (eq key u.0)) j ∷ rest j

      marks_none : (ps : List (PendingView K S)) → is_pending eq key ps ≡ false → mark_all ps ≡ ps
      marks_none [] h = refl
      marks_none (p ∷ ps) h = by (marks_none ps (right_false (is_entry_of eq key p) (is_pending eq key ps) h)) p.cancelled refl (eq key p.key) (left_false (is_entry_of eq key p) (is_pending eq key ps) h)
        where
          by : mark_all ps ≡ ps → (c : Bool) → p.cancelled ≡ c → (b : Bool) → (not p.cancelled && b) ≡ false → ((if b then record p { cancelled = true } else p) ∷ mark_all ps) ≡ p ∷ ps
          by rest true e true h = λ j. (record p { cancelled = sym e j }) ∷ rest j
          by rest false e true h = absurd (true≢false ((λ j. not (sym e j) && true) ∙ h))
          by rest c e false h = λ j. p ∷ rest j

      mark_one : (ps : List (PendingView K S)) → Apart eq ps → mark_all ps ≡ cancel eq key ps
      mark_one [] h = refl
      mark_one (p ∷ ps) h = by (mark_one ps h.1) p.cancelled refl (eq key p.key) refl
        where
          by : mark_all ps ≡ cancel eq key ps → (c : Bool) → p.cancelled ≡ c → (b : Bool) → eq key p.key ≡ b
              → ((if b then record p { cancelled = true } else p) ∷ mark_all ps) ≡ (if not p.cancelled && b then (record p { cancelled = true }) ∷ ps else p ∷ cancel eq key ps)
          by rest true e true same =
              subst (λ b. (record p { cancelled = true }) ∷ mark_all ps ≡ (if not b && true then (record p { cancelled = true }) ∷ ps else p ∷ cancel eq key ps)) (sym e) (λ j. (record p { cancelled = sym e j }) ∷ rest j)
          by rest false e true same =
              subst (λ b. (record p { cancelled = true }) ∷ mark_all ps ≡ (if not b && true then (record p { cancelled = true }) ∷ ps else p ∷ cancel eq key ps)) (sym e)
              (λ j. (record p { cancelled = true }) ∷ marks_none ps (alike eq laws key p.key ps same ∙ h.0 e) j)
          by rest c e false same =
              subst (λ b. p ∷ mark_all ps ≡ (if b then (record p { cancelled = true }) ∷ ps else p ∷ cancel eq key ps)) (sym (and_no (not p.cancelled) false refl)) (λ j. p ∷ rest j)

      pub items_cancelled : Apart eq (items_of here_of (get links.entries) links.order)
          → items_of (λ k. lookup (eq k) fs) (get links.entries) links.order ≡ cancel eq key (items_of here_of (get links.entries) links.order)
      items_cancelled h = items_marked links.order ∙ mark_one (items_of here_of (get links.entries) links.order) h

      -- one that named none before
      pub items_same : names_one (lookup (eq key) es) ≡ false → items_of (λ k. lookup (eq k) fs) (get links.entries) links.order ≡ items_of here_of (get links.entries) links.order
      items_same h = items_marked links.order ∙ marks_none (items_of here_of (get links.entries) links.order) (pending_items key ∙ h)

    -- a place that may have been refused
    module _ {X E : Type 0} (key : K) (fs : List (K × Option ℕ)) (r : Result X E) (put : OnOk r ((q : K) → lookup (eq q) fs ≡ cond (eq key q) (Some None) (lookup (eq q) es))) (kept_as : OnErr r (fs ≡ es)) where
      pub placed_put : Placed eq (λ k. lookup (eq k) fs) links
      placed_put = by r put kept_as
        where
          by : (r : Result X E) → OnOk r ((q : K) → lookup (eq q) fs ≡ cond (eq key q) (Some None) (lookup (eq q) es)) → OnErr r (fs ≡ es) → Placed eq (λ k. lookup (eq k) fs) links
          by (Ok x) h same = placed_marked key (Some None) refl fs h
          by (Err e) h same = subst (λ l. Placed eq (λ k. lookup (eq k) l) links) (sym same) kept

      pub items_put : Apart eq (items_of here_of (get links.entries) links.order) → items_of (λ k. lookup (eq k) fs) (get links.entries) links.order
          ≡ (if is_ok r then cancel eq key (items_of here_of (get links.entries) links.order) else items_of here_of (get links.entries) links.order)
      items_put apart = by r put kept_as
        where
          by : (r : Result X E) → OnOk r ((q : K) → lookup (eq q) fs ≡ cond (eq key q) (Some None) (lookup (eq q) es)) → OnErr r (fs ≡ es) → items_of (λ k. lookup (eq k) fs) (get links.entries) links.order
              ≡ (if is_ok r then cancel eq key (items_of here_of (get links.entries) links.order) else items_of here_of (get links.entries) links.order)
          by (Ok x) h same = items_cancelled key (Some None) refl fs h apart
          by (Err e) h same = ap (λ l. items_of (λ k. lookup (eq k) l) (get links.entries) links.order) same

    -- more room
    module _ (new : LinksView (K × S)) (order : new.order ≡ links.order) (slots : new.entries.slots ≡ links.entries.slots) where
      pub placed_room : Placed eq (λ k. lookup (eq k) es) new
      placed_room = record {
        apart = subst NoneTwice (sym order) kept.apart;
        present = λ i t. ap (λ l. is_some (slice_index_or l i None)) slots ∙ kept.present i (sym (ap (λ l. has l i) order) ∙ t);
        count = ap (count_by is_some) slots ∙ kept.count ∙ ap length (sym order);
        told = λ k i e. (ap (λ l. has l i) order ∙ (kept.told k i e).0, subst (λ l. IsSomeAnd (slice_index_or l i None) (λ u. eq k u.0 ≡ true)) (sym slots) (kept.told k i e).1);
      }

      pub items_room : items_of here_of (get new.entries) new.order ≡ items_of here_of (get links.entries) links.order
      items_room = λ j. items_of here_of (λ i. slice_index_or (slots j) i None) (order j)

    -- an entry that a key's place doesn't name, though it might
    apart_from : (i j : ℕ) → j ≢ i → names i (Some (Some j)) ≡ false
    apart_from i j apart = ⊎_elim (λ l. absurd (apart l.1)) (λ r. r.0) (eqb_tells j i)

    -- a new entry, the last one
    module _ (new : LinksView (K × S)) (i : ℕ) (u : K × S) (vacant : get links.entries i ≡ None) (order : new.order ≡ links.order ++ i ∷ []) (more : Updates links.entries new.entries i (Some u)) where
      lacks : has links.order i ≡ false
      lacks = by (has links.order i) refl
        where
          by : (b : Bool) → has links.order i ≡ b → has links.order i ≡ false
          by true e = absurd (absent (get links.entries i) vacant (kept.present i e))
          by false e = e

      other : (j : ℕ) → has links.order j ≡ true → j ≢ i
      other j t same = true≢false (sym t ∙ ap (has links.order) same ∙ lacks)

      unnamed : (k : K) → names i (lookup (eq k) es) ≡ false
      unnamed k = by (lookup (eq k) es) refl
        where
          by : (o : Option (Option ℕ)) → lookup (eq k) es ≡ o → names i o ≡ false
          by None e = refl
          by (Some None) e = refl
          by (Some (Some j)) e = apart_from i j (other j (kept.told k j e).0)

      has_more : (j : ℕ) → has new.order j ≡ (has links.order j || has (i ∷ []) j)
      has_more j = ap (λ l. has l j) order ∙ has_append links.order (i ∷ []) j

      module _ (fs : List (K × Option ℕ)) where
        module _ (len : slab_len new.entries ≡ slab_len links.entries + 1) (tells : (k : K) (j : ℕ) → lookup (eq k) fs ≡ Some (Some j) → (lookup (eq k) es ≡ Some (Some j)) ⊎ ((j ≡ i) × (eq k u.0 ≡ true))) where
          placed_more : Placed eq (λ k. lookup (eq k) fs) new
          placed_more = record {
            apart = subst NoneTwice (sym order) (apart_push links.order i kept.apart lacks);
            present = λ j t. ⊎_elim (λ l. ap is_some (ap (get new.entries) l.1 ∙ more.changed))
                (λ r. ap is_some (more.others j r.1) ∙ kept.present j (sym (or_false (has links.order j)) ∙ (λ z. has links.order j || (sym r.0 z || false)) ∙ sym (has_more j) ∙ t)) (eqb_tells j i);
            count = len ∙ ap (λ n. n + 1) kept.count ∙ sym (ap length order ∙ length-append links.order (i ∷ []));
            told = λ k j e. ⊎_elim
                (λ l. let t = kept.told k j l in (has_more j ∙ or_left (has links.order j) (has (i ∷ []) j) t.0, subst (λ o. IsSomeAnd o (λ v. eq k v.0 ≡ true)) (sym (more.others j (other j t.0))) t.1))
                (λ r. (has_more j ∙ or_right (has links.order j) (has (i ∷ []) j) (ap (has (i ∷ [])) r.0 ∙ has_first i []), subst (λ o. IsSomeAnd o (λ v. eq k v.0 ≡ true)) (sym (ap (get new.entries) r.0 ∙ more.changed)) r.1))
                (tells k j e);
          }

        items_more : ((j : ℕ) (v : K × S) → has links.order j ≡ true → get links.entries j ≡ Some v → names j (lookup (eq v.0) fs) ≡ names j (lookup (eq v.0) es))
            → items_of (λ k. lookup (eq k) fs) (get new.entries) new.order ≡ items_of here_of (get links.entries) links.order ++ seen (λ k. lookup (eq k) fs) i u ∷ []
        items_more h =
            ap (items_of (λ k. lookup (eq k) fs) (get new.entries)) order ∙ items_append (λ k. lookup (eq k) fs) (get new.entries) links.order (i ∷ [])
            ∙ (λ t. same_items here_of (λ k. lookup (eq k) fs) (get links.entries) (get new.entries) links.order (λ j t. more.others j (other j t)) h t ++ item_at (λ k. lookup (eq k) fs) i (more.changed t) [])

      -- which is cancelled
      pub placed_cancelled : slab_len new.entries ≡ slab_len links.entries + 1 → Placed eq here_of new
      placed_cancelled len = placed_more es len (λ k j e. inl e)

      pub items_with_cancelled : (p : PendingView K S) → p.cancelled ≡ true → u ≡ (p.key, p.service) → items_of here_of (get new.entries) new.order ≡ items_of here_of (get links.entries) links.order ++ p ∷ []
      items_with_cancelled p c is = items_more es (λ j v t at. refl) ∙ (λ t. items_of here_of (get links.entries) links.order ++ last t ∷ [])
        where
          last : seen here_of i u ≡ p
          last = λ t. record { key = (is t).0; service = (is t).1; cancelled = ((λ z. not (unnamed u.0 z)) ∙ sym c) t }

      -- which its key's place names
      module _ (fs : List (K × Option ℕ)) (none : names_one (lookup (eq u.0) es) ≡ false) (now : (q : K) → lookup (eq q) fs ≡ cond (eq u.0 q) (Some (Some i)) (lookup (eq q) es)) where
        pub placed_named : slab_len new.entries ≡ slab_len links.entries + 1 → Placed eq (λ k. lookup (eq k) fs) new
        placed_named len = placed_more fs len (λ k j e. by k j (eq u.0 k) refl (sym (now k) ∙ e))
          where
            by : (k : K) (j : ℕ) (b : Bool) → eq u.0 k ≡ b → cond b (Some (Some i)) (lookup (eq k) es) ≡ Some (Some j) → (lookup (eq k) es ≡ Some (Some j)) ⊎ ((j ≡ i) × (eq k u.0 ≡ true))
            by k j true same e = inr (sym (ap (λ o. unwrap_or (unwrap_or o None) i) e), laws.symm k u.0 ∙ same)
            by k j false same e = inl e

        pub items_with_named : (p : PendingView K S) → p.cancelled ≡ false → u ≡ (p.key, p.service)
            → items_of (λ k. lookup (eq k) fs) (get new.entries) new.order ≡ items_of here_of (get links.entries) links.order ++ p ∷ []
        items_with_named p c is = items_more fs (λ j v t at. ap (names j) (now v.0) ∙ by j v t (eq u.0 v.0) refl) ∙ (λ t. items_of here_of (get links.entries) links.order ++ last t ∷ [])
          where
            by : (j : ℕ) (v : K × S) → has links.order j ≡ true → (b : Bool) → eq u.0 v.0 ≡ b → names j (cond b (Some (Some i)) (lookup (eq v.0) es)) ≡ names j (lookup (eq v.0) es)
            by j v t true same = apart_from j i (λ e. other j t (sym e)) ∙ sym (names_none j (lookup (eq v.0) es) (ap names_one (sym (like eq laws es u.0 v.0 same)) ∙ none))
            by j v t false same = refl

            named : names i (lookup (eq u.0) fs) ≡ true
            named = ap (names i) (now u.0 ∙ (λ z. cond (laws.refl u.0 z) (Some (Some i)) (lookup (eq u.0) es))) ∙ eq-eqb i i refl

            last : seen (λ k. lookup (eq k) fs) i u ≡ p
            last = λ t. record { key = (is t).0; service = (is t).1; cancelled = ((λ z. not (named z)) ∙ sym c) t }

    -- without its first entry
    module _ (new : LinksView (K × S)) (i : ℕ) (rest : List ℕ) (u : K × S) (first : links.order ≡ i ∷ rest) (at : get links.entries i ≡ Some u) (left : new.order ≡ without links.order i)
        (less : Updates links.entries new.entries i None) where
      twice : NoneTwice (i ∷ rest)
      twice = subst NoneTwice first kept.apart

      order_less : new.order ≡ rest
      order_less = left ∙ ap (λ l. without l i) first ∙ without_first i rest twice.0

      in_rest : (j : ℕ) → has rest j ≡ true → j ≢ i
      in_rest j t same = true≢false (sym t ∙ ap (has rest) same ∙ twice.0)

      module _ (fs : List (K × Option ℕ)) where
        module _ (len : slab_len new.entries + 1 ≡ slab_len links.entries) (tells : (k : K) (j : ℕ) → lookup (eq k) fs ≡ Some (Some j) → (lookup (eq k) es ≡ Some (Some j)) × (j ≢ i)) where
          placed_less : Placed eq (λ k. lookup (eq k) fs) new
          placed_less = record {
            apart = subst NoneTwice (sym order_less) twice.1;
            present = λ j t. let r = sym (ap (λ l. has l j) order_less) ∙ t in
                ap is_some (less.others j (in_rest j r)) ∙ kept.present j (ap (λ l. has l j) first ∙ or_right (eqb j i) (has rest j) r);
            count = omega (arith, len, kept.count, ap length first, ap length order_less);
            told = λ k j e. let t = tells k j e in let o = kept.told k j t.0 in
                (ap (λ l. has l j) order_less ∙ beside j t.1 (sym (ap (λ l. has l j) first) ∙ o.0), subst (λ x. IsSomeAnd x (λ v. eq k v.0 ≡ true)) (sym (less.others j t.1)) o.1);
          }
            where
              beside : (j : ℕ) → j ≢ i → (eqb j i || has rest j) ≡ true → has rest j ≡ true
              beside j apart t = sym (λ z. apart_from i j apart z || has rest j) ∙ t

        items_less : ((j : ℕ) (v : K × S) → has rest j ≡ true → get links.entries j ≡ Some v → names j (lookup (eq v.0) fs) ≡ names j (lookup (eq v.0) es))
            → items_of here_of (get links.entries) links.order ≡ seen here_of i u ∷ items_of (λ k. lookup (eq k) fs) (get new.entries) new.order
        items_less h =
            ap (items_of here_of (get links.entries)) first ∙ ap (λ o. item_at here_of i o (items_of here_of (get links.entries) rest)) at
            ∙ (λ t. seen here_of i u ∷ sym (ap (items_of (λ k. lookup (eq k) fs) (get new.entries)) order_less
            ∙ same_items here_of (λ k. lookup (eq k) fs) (get links.entries) (get new.entries) rest (λ j t. less.others j (in_rest j t)) h) t)

      -- whose key's place names it, and then no entry
      module _ (named : lookup (eq u.0) es ≡ Some (Some i)) (fs : List (K × Option ℕ)) (now : (q : K) → lookup (eq q) fs ≡ cond (eq u.0 q) (Some None) (lookup (eq q) es)) where
        pub placed_taken : slab_len new.entries + 1 ≡ slab_len links.entries → Placed eq (λ k. lookup (eq k) fs) new
        placed_taken len = placed_less fs len (λ k j e. by k j (eq u.0 k) refl (sym (now k) ∙ e))
          where
            by : (k : K) (j : ℕ) (b : Bool) → eq u.0 k ≡ b → cond b (Some None) (lookup (eq k) es) ≡ Some (Some j) → (lookup (eq k) es ≡ Some (Some j)) × (j ≢ i)
            by k j true same e = absurd (true≢false (sym (ap names_one e)))
            by k j false same e = (e, λ is. true≢false (sym (subst (λ o. IsSomeAnd o (λ v. eq k v.0 ≡ true)) (ap (get links.entries) is ∙ at) (kept.told k j e).1) ∙ laws.symm k u.0 ∙ same))

        pub items_taken : items_of here_of (get links.entries) links.order ≡ pending_entry u.0 u.1 ∷ items_of (λ k. lookup (eq k) fs) (get new.entries) new.order
        items_taken = items_less fs (λ j v t there. ap (names j) (now v.0) ∙ by j v t (eq u.0 v.0) refl) ∙ (λ t. (record { key = u.0; service = u.1; cancelled = not ((ap (names i) named ∙ eq-eqb i i refl) t) }) ∷ items_of (λ k. lookup (eq k) fs) (get new.entries) new.order)
          where
            by : (j : ℕ) (v : K × S) → has rest j ≡ true → (b : Bool) → eq u.0 v.0 ≡ b → names j (cond b (Some None) (lookup (eq v.0) es)) ≡ names j (lookup (eq v.0) es)
            by j v t true same = sym (ap (names j) (sym (like eq laws es u.0 v.0 same) ∙ named) ∙ apart_from j i (λ e. in_rest j t (sym e)))
            by j v t false same = refl

      -- which is cancelled
      module _ (unnamed : names i (lookup (eq u.0) es) ≡ false) where
        pub placed_dropped : slab_len new.entries + 1 ≡ slab_len links.entries → Placed eq here_of new
        placed_dropped len = placed_less es len (λ k j e. (
          e,
          λ is.
              let same : eq k u.0 ≡ true = subst (λ o. IsSomeAnd o (λ v. eq k v.0 ≡ true)) (ap (get links.entries) is ∙ at) (kept.told k j e).1 in
              true≢false (sym (ap (names i) (sym (like eq laws es k u.0 same) ∙ e) ∙ ap (λ x. eqb x i) is ∙ eq-eqb i i refl) ∙ unnamed),
        ))

        pub items_dropped : items_of here_of (get links.entries) links.order ≡ (record (pending_entry u.0 u.1) { cancelled = true }) ∷ items_of here_of (get new.entries) new.order
        items_dropped = items_less es (λ j v t there. refl) ∙ (λ t. (record { key = u.0; service = u.1; cancelled = not (unnamed t) }) ∷ items_of here_of (get new.entries) new.order)

      -- whether its key's place names it or not
      module _ (b : Bool) (is : b ≡ names i (lookup (eq u.0) es)) (fs : List (K × Option ℕ)) (released : b ≡ true → (q : K) → lookup (eq q) fs ≡ cond (eq u.0 q) (Some None) (lookup (eq q) es)) (same : b ≡ false → fs ≡ es) where
        pub placed_left : slab_len new.entries + 1 ≡ slab_len links.entries → Placed eq (λ k. lookup (eq k) fs) new
        placed_left len = by b refl
          where
            by : (c : Bool) → b ≡ c → Placed eq (λ k. lookup (eq k) fs) new
            by true e = placed_taken (named_is i (lookup (eq u.0) es) (sym is ∙ e)) fs (released e) len
            by false e = subst (λ l. Placed eq (λ k. lookup (eq k) l) new) (sym (same e)) (placed_dropped (sym is ∙ e) len)

        pub items_left : (p : PendingView K S) → p ≡ record { key = u.0; service = u.1; cancelled = not b } → items_of here_of (get links.entries) links.order ≡ p ∷ items_of (λ k. lookup (eq k) fs) (get new.entries) new.order
        items_left p q = by b refl ∙ (λ t. sym q t ∷ items_of (λ k. lookup (eq k) fs) (get new.entries) new.order)
          where
            by : (c : Bool) → b ≡ c → (let r : PendingView K S = record { key = u.0; service = u.1; cancelled = not b } in
                items_of here_of (get links.entries) links.order ≡ r ∷ items_of (λ k. lookup (eq k) fs) (get new.entries) new.order)
            by true e = items_taken (named_is i (lookup (eq u.0) es) (sym is ∙ e)) fs (released e) ∙ (λ t. (record { key = u.0; service = u.1; cancelled = not (sym e t) }) ∷ items_of (λ k. lookup (eq k) fs) (get new.entries) new.order)
            by false e = items_dropped (sym is ∙ e) ∙ (λ t. (record { key = u.0; service = u.1; cancelled = not (sym e t) }) ∷ items_of (λ k. lookup (eq k) (sym (same e) t)) (get new.entries) new.order)

module _ {K S : Type 0} (eq : K → K → Bool) where
  pub apart_left : (ps qs : List (PendingView K S)) → Apart eq (ps ++ qs) → Apart eq ps
  apart_left [] qs h = tt
  apart_left (p ∷ ps) qs h = (λ alive. left_false (is_pending eq p.key ps) (is_pending eq p.key qs) (sym (list_any-append (is_entry_of eq p.key) ps qs) ∙ h.0 alive), apart_left ps qs h.1)

  -- a mark behind entries none of which waits for the key as well
  cancel_behind : (k : K) (ps qs : List (PendingView K S)) → (is_pending eq k ps ≡ true → cancel eq k qs ≡ qs) → cancel eq k (ps ++ qs) ≡ cancel eq k ps ++ cancel eq k qs
  cancel_behind k [] qs h = refl
  cancel_behind k (p ∷ ps) qs h = by (cancel_behind k ps qs (λ t. h (or_right (is_entry_of eq k p) (is_pending eq k ps) t))) (is_entry_of eq k p) refl
    where
      by : cancel eq k (ps ++ qs) ≡ cancel eq k ps ++ cancel eq k qs → (b : Bool) → is_entry_of eq k p ≡ b
          → (if b then (record p { cancelled = true }) ∷ (ps ++ qs) else p ∷ cancel eq k (ps ++ qs)) ≡ (if b then (record p { cancelled = true }) ∷ ps else p ∷ cancel eq k ps) ++ cancel eq k qs
      by rest true e = λ j. (record p { cancelled = true }) ∷ (ps ++ sym (h (or_left (is_entry_of eq k p) (is_pending eq k ps) e)) j)
      by rest false e = λ j. p ∷ rest j

  cancel_last : (k : K) (o : Option (K × S × Bool)) → cancel eq k (last_of o) ≡ last_of (marked eq k o)
  cancel_last k None = refl
  cancel_last k (Some (j, s, true)) = refl
  cancel_last k (Some (j, s, false)) = by (eq k j)
    where
      by : (b : Bool) → (if b then (record { key = j; service = s; cancelled = true }) ∷ [] else pending_entry j s ∷ []) ≡ (record { key = j; service = s; cancelled = b }) ∷ []
      by true = refl
      by false = refl

  -- a new one beside, whose key has a place that names no entry
  pub stands_with : (laws : IsEquivalence eq) (es : List (K × Option ℕ)) (links : LinksView (K × S)) → Placed eq (λ k. lookup (eq k) es) links → length links.order + 1 < 18446744073709551616 → (last : Option (K × S × Bool)) (e : K × S × Bool) → last ≡ Some e
      → (e.2 ≡ false → is_some (lookup (eq e.0) es) ≡ true) → (e.2 ≡ false → is_pending eq e.0 (stored eq es links) ≡ false) → Stands eq es links last
  stands_with laws es links placed small last e is known alone =
      subst (Stands eq es links) (sym is) (record { placed = placed; beside = λ alive. by (lookup (eq e.0) es) (known alive) (sym (pending_items eq laws es links placed e.0) ∙ alone alive); small = small })
    where
      by : (o : Option (Option ℕ)) → is_some o ≡ true → names_one o ≡ false → o ≡ Some None
      by None t n = absurd (true≢false (sym t))
      by (Some None) t n = refl
      by (Some (Some i)) t n = absurd (true≢false n)

  pub none_stored : (es : List (K × Option ℕ)) (links : LinksView (K × S)) (last : Option (K × S × Bool)) → Stands eq es links last → (e : K × S × Bool) → last ≡ Some e → e.2 ≡ false → names_one (lookup (eq e.0) es) ≡ false
  none_stored es links last h e some alive = ap names_one (subst (λ o. IfSome o (λ e. e.2 ≡ false → lookup (eq e.0) es ≡ Some None)) some h.beside alive)

  one_last : (o : Option (K × S × Bool)) → length (last_of o) ≤ 1
  one_last None = omega arith
  one_last (Some e) = omega arith

  pub length_last : (o : Option (K × S × Bool)) → length (last_of o) ≡ (if is_some o then 1 else 0)
  length_last None = refl
  length_last (Some e) = refl

  -- a place that names no entry any more
  pub beside_left : (es fs : List (K × Option ℕ)) (last : Option (K × S × Bool)) (k : K) (b : Bool) → (b ≡ true → (q : K) → lookup (eq q) fs ≡ cond (eq k q) (Some None) (lookup (eq q) es)) → (b ≡ false → fs ≡ es)
      → IfSome last (λ e. e.2 ≡ false → lookup (eq e.0) es ≡ Some None) → IfSome last (λ e. e.2 ≡ false → lookup (eq e.0) fs ≡ Some None)
  beside_left es fs None k b released same h = tt
  beside_left es fs (Some e) k true released same h = λ alive. released refl e.0 ∙ (λ j. cond (eq k e.0) (Some None) (h alive j)) ∙ either (eq k e.0)
    where
      free : Option (Option ℕ)
      free = Some None

      either : (c : Bool) → cond c free free ≡ free
      either true = refl
      either false = refl
  beside_left es fs (Some e) k false released same h = λ alive. (λ j. lookup (eq e.0) (same refl j)) ∙ h alive

  module _ (laws : IsEquivalence eq) (es : List (K × Option ℕ)) (links : LinksView (K × S)) (last : Option (K × S × Bool)) (h : Stands eq es links last) where
    -- a key is pending if its place names an entry, or the one beside is the key's
    pub pending_all : (k : K) → is_pending eq k (stored eq es links ++ last_of last) ≡ (names_one (lookup (eq k) es) || is_pending eq k (last_of last))
    pending_all k = list_any-append (is_entry_of eq k) (stored eq es links) (last_of last) ∙ (λ j. pending_items eq laws es links h.placed k j || is_pending eq k (last_of last))

    pub length_all : length (stored eq es links ++ last_of last) ≡ length links.order + length (last_of last)
    length_all = length-append (stored eq es links) (last_of last) ∙ ap (λ n. n + length (last_of last)) (length-waiters eq laws es links h.placed)

    -- one beside isn't the key's where the key's place names an entry
    last_apart : (k : K) → names_one (lookup (eq k) es) ≡ true → cancel eq k (last_of last) ≡ last_of last
    last_apart k named = by last h.beside
      where
        by : (o : Option (K × S × Bool)) → IfSome o (λ e. e.2 ≡ false → lookup (eq e.0) es ≡ Some None) → cancel eq k (last_of o) ≡ last_of o
        by None b = refl
        by (Some (j, s, true)) b = refl
        by (Some (j, s, false)) b = one (eq k j) refl
          where
            one : (c : Bool) → eq k j ≡ c → (if c then (record { key = j; service = s; cancelled = true }) ∷ [] else pending_entry j s ∷ []) ≡ pending_entry j s ∷ []
            one true e = absurd (true≢false (sym named ∙ ap names_one (like eq laws es k j e ∙ b refl)))
            one false e = refl

    pub cancel_all : (k : K) → cancel eq k (stored eq es links ++ last_of last) ≡ cancel eq k (stored eq es links) ++ last_of (marked eq k last)
    cancel_all k = cancel_behind k (stored eq es links) (last_of last) (λ t. last_apart k (sym (pending_items eq laws es links h.placed k) ∙ t)) ∙ (λ j. cancel eq k (stored eq es links) ++ cancel_last k last j)

    pub pending_named : (k : K) (i : ℕ) → lookup (eq k) es ≡ Some (Some i) → true ≡ is_pending eq k (stored eq es links ++ last_of last)
    pending_named k i is = sym (pending_all k ∙ ap (λ o. names_one o || is_pending eq k (last_of last)) is)

    pub not_pending : (k : K) (o : Option (Option ℕ)) → lookup (eq k) es ≡ o → names_one o ≡ false → is_pending eq k (last_of last) ≡ false → false ≡ is_pending eq k (stored eq es links ++ last_of last)
    not_pending k o is none other = sym (pending_all k ∙ (λ j. names_one (is j) || other j) ∙ or_false (names_one o) ∙ none)

    -- one that isn't the key's stays
    pub unmarked : (k : K) → is_pending eq k (last_of last) ≡ false → last ≡ marked eq k last
    unmarked k other = by last other
      where
        by : (o : Option (K × S × Bool)) → is_pending eq k (last_of o) ≡ false → o ≡ marked eq k o
        by None n = refl
        by (Some (j, s, true)) n = refl
        by (Some (j, s, false)) n = λ t. Some (j, s, sym (left_false (eq k j) false n) t)

    -- another place for one key, that names no entry, and a mark on one beside that is the key's
    module _ (key : K) (w : Option (Option ℕ)) (none : names_one w ≡ false) (fs : List (K × Option ℕ)) (now : (q : K) → lookup (eq q) fs ≡ cond (eq key q) w (lookup (eq q) es)) (o : Option (K × S × Bool)) (is : o ≡ marked eq key last) where
      pub stands_marked : Stands eq fs links o
      stands_marked = subst (Stands eq fs links) (sym is) (record { placed = placed_marked eq laws es links h.placed key w none fs now; beside = by last h.beside; small = h.small })
        where
          by : (l : Option (K × S × Bool)) → IfSome l (λ e. e.2 ≡ false → lookup (eq e.0) es ≡ Some None) → IfSome (marked eq key l) (λ e. e.2 ≡ false → lookup (eq e.0) fs ≡ Some None)
          by None b = tt
          by (Some (j, s, c)) b = λ alive. now j ∙ ap (λ t. cond t w (lookup (eq j) es)) (right_false c (eq key j) alive) ∙ b (left_false c (eq key j) alive)

      pub items_all : Apart eq (stored eq es links ++ last_of last) → stored eq fs links ++ last_of o ≡ cancel eq key (stored eq es links ++ last_of last)
      items_all apart = (λ j. items_cancelled eq laws es links h.placed key w none fs now (apart_left (stored eq es links) (last_of last) apart) j ++ last_of (is j)) ∙ sym (cancel_all key)

    -- more room
    module _ (new : LinksView (K × S)) (order : new.order ≡ links.order) (slots : new.entries.slots ≡ links.entries.slots) where
      pub stands_room : Stands eq es new last
      stands_room = record { placed = placed_room eq laws es links h.placed new order slots; beside = h.beside; small = omega (arith, ap length order, h.small) }

      pub fits_all : (items : List (PendingView K S)) (more : ℕ) → stored eq es links ++ last_of last ≡ items → length items + more < 18446744073709551616 → HasRoomFor new.entries more → length items + more ≤ room_of new.entries.capacity
      fits_all items more is small fits = le-min (omega (arith, ap length is, length_all, one_last last, ap length order, stands_room.placed.count, fits)) (omega (arith, small))

    -- room for so many was missing, if it was refused
    pub room_missed : (items : List (PendingView K S)) (more room : ℕ) → stored eq es links ++ last_of last ≡ items → room_of links.entries.capacity ≡ room
        → (HasRoomFor links.entries more → ⊥) → room ≤ length items + more
    room_missed items more room is fits refused = elim (cases_order (slab_len links.entries + more) links.entries.capacity) [
      | inl same ↦ absurd (refused (omega (arith, same)))
      | inr other ↦ elim other [
        | inl before ↦ absurd (refused (omega (arith, before)))
        | inr after ↦ omega (arith, after, ap length is, length_all, h.placed.count, fits, min-le_left (links.entries.capacity + 1) 18446744073709551615)
      ]
    ]

    -- there is room for it in the slab
    module _ (e : K × S × Bool) (some : last ≡ Some e) (items : List (PendingView K S)) (room : ℕ) (is : stored eq es links ++ last_of last ≡ items) (fits : room_of links.entries.capacity ≡ room) (less : length items < room) where
      pub has_room : HasRoomFor links.entries 1
      has_room = omega (arith, ap length is, length_all, ap (λ o. length (last_of o)) some, h.placed.count, fits, min-le_left (links.entries.capacity + 1) 18446744073709551615, less)

      pub small_more : (order : List ℕ) (i : ℕ) → order ≡ links.order ++ i ∷ [] → length order + 1 < 18446744073709551616
      small_more order i more = omega (arith, ap length is, length_all, ap (λ o. length (last_of o)) some, fits, min-le_right (links.entries.capacity + 1) 18446744073709551615, less, ap length more, length-append links.order (i ∷ []))

      -- once it stands there
      pub stored_last : (now : List (PendingView K S)) → now ≡ stored eq es links ++ entry_of e ∷ [] → now ≡ items
      stored_last now more = more ∙ (λ j. stored eq es links ++ last_of (sym some j)) ∙ is

pub when_none : {X : Type 0} {P : Type 0} → (o : Option X) → P → IfNone o P
when_none None h = h
when_none (Some x) h = tt

pub when_refused : {X E : Type 0} → (r : Result X E) (P : Type 0) → is_ok r ≡ false → OnErr r P → P
when_refused (Ok x) P e h = absurd (true≢false e)
when_refused (Err x) P e h = h

pub when_put : {X E : Type 0} → (r : Result X E) (P : Type 0) → is_ok r ≡ true → OnOk r P → P
when_put (Ok x) P e h = h
when_put (Err x) P e h = absurd (true≢false (sym e))

pub still_known : (b : Bool) (i : ℕ) (o : Option (Option ℕ)) → is_some o ≡ true → is_some (cond b (Some (Some i)) o) ≡ true
still_known true i o h = refl
still_known false i o h = h

-- the first of an order
pub front_of : (order : List ℕ) (i : ℕ) → first_or order None ≡ Some i → (rest : List ℕ) × (order ≡ i ∷ rest)
front_of [] i h = absurd (true≢false (sym (ap is_some h)))
front_of (j ∷ rest) i h = (rest, λ t. unwrap_or (h t) i ∷ rest)

-- what an insertion says of each key
pub put_of : {X E K V H : Type 0} → (eq : K → K → Bool) (m n : HashMap K V H) (k : K) (w : Option V) (r : Result X E) → OnOk r (HashUpdates eq m n k w)
    → OnOk r ((q : K) → lookup (eq q) n.entries ≡ cond (eq k q) w (lookup (eq q) m.entries))
put_of eq m n k w (Ok x) h = h.0
put_of eq m n k w (Err e) h = tt

-- a value written over itself
pub set_value_same : {K X : Type 0} → (test : K → Bool) (es : List (K × X)) (v : X) → lookup test es ≡ Some v → set_value test es v ≡ es
set_value_same test [] v h = refl
set_value_same test (e ∷ es) v h = by (set_value_same test es v) (test e.0) h
  where
    by : (lookup test es ≡ Some v → set_value test es v ≡ es) → (b : Bool) → cond b (Some e.1) (lookup test es) ≡ Some v → cond b ((e.0, v) ∷ es) (e ∷ set_value test es v) ≡ e ∷ es
    by rest true h = λ j. (e.0, unwrap_or (sym h j) v) ∷ es
    by rest false h = ap (λ l. e ∷ l) (rest h)
