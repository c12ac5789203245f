-- What holds of those who wait, and what a step leaves of them.
use Rattle.std.proofs.Common.{◌≡◌, ◌≢◌, ℕ, ◌<◌, ◌≤◌, zero, suc, Bool, true, false, ◌||◌, ◌&&◌, not, is_some, if◌then◌else◌, List, [], ◌∷◌, ◌++◌, length, Option, Some, None, slice_index_or, refl, sym, ap, subst, ◌∙◌, inl, inr, arith}
use Rattle.std.proofs.lemmas.Bool.Decides.{eqb_tells}
use Rattle.std.proofs.lemmas.Bool.{cases_order}
use Rattle.slab.specs.Slab.{get, Updates}
use Rattle.tower_base.specs.Links.{LinksView}
use Rattle.tower_base.specs.Order.{has, without, Apart}
use Rattle.tower_latch.specs.Waiters.{stands_outside, outside_below, outside, IsPresent, Waits}
use Rattle.tower_latch.proofs.KeysLemmas.{has_append, without_append, has_without_same, has_without_other, apart_without, apart_push, apart_join, apart_front, apart_back, apart_cross, append_assoc, same_length, without_first}

-- ---- the keys outside the order

beyond : {T : Type 0} (slots : List (Option T)) (key : ℕ) → length slots ≤ key → slice_index_or slots key None ≡ None
beyond [] key le = refl
beyond (slot ∷ slots) zero le = absurd (omega arith)
beyond (slot ∷ slots) (suc key) le = beyond slots key (omega arith)

module _ (waiters : LinksView (Unit {0})) where
  lacks_more : (b : Bool) (n key : ℕ) (rest : List ℕ) → suc n ≤ key → has rest key ≡ false → has (if b then n ∷ rest else rest) key ≡ false
  lacks_more false n key rest le h = h
  lacks_more true n key rest le h = elim (eqb_tells key n) [
    | inl same ↦ absurd (omega (arith, same.1))
    | inr differs ↦ rw differs.0 h
  ]

  below_lacks : (n key : ℕ) → n ≤ key → has (outside_below waiters n) key ≡ false
  below_lacks zero key le = refl
  below_lacks (suc n) key le = lacks_more (stands_outside waiters n) n key (outside_below waiters n) le (below_lacks n key (omega arith))

  apart_more : (b : Bool) (n : ℕ) (rest : List ℕ) → has rest n ≡ false → Apart rest → Apart (if b then n ∷ rest else rest)
  apart_more false n rest lacks h = h
  apart_more true n rest lacks h = (lacks, h)

  below_apart : (n : ℕ) → Apart (outside_below waiters n)
  below_apart zero = tt
  below_apart (suc n) = apart_more (stands_outside waiters n) n (outside_below waiters n) (below_lacks n n (omega arith)) (below_apart n)

  has_more : (b : Bool) (n key : ℕ) (rest : List ℕ) → stands_outside waiters n ≡ b → has rest n ≡ false → (key ≢ n → has rest key ≡ stands_outside waiters key)
      → has (if b then n ∷ rest else rest) key ≡ stands_outside waiters key
  has_more false n key rest is lacks less = elim (eqb_tells key n) [
    | inl same ↦ ap (has rest) same.1 ∙ lacks ∙ sym (ap (stands_outside waiters) same.1 ∙ is)
    | inr differs ↦ less differs.1
  ]
  has_more true n key rest is lacks less = elim (eqb_tells key n) [
    | inl same ↦ ap (λ b. b || has rest key) same.0 ∙ sym (ap (stands_outside waiters) same.1 ∙ is)
    | inr differs ↦ ap (λ b. b || has rest key) differs.0 ∙ less differs.1
  ]

  below_has : (n key : ℕ) → key < n → has (outside_below waiters n) key ≡ stands_outside waiters key
  below_has zero key lt = absurd (omega arith)
  below_has (suc n) key lt =
      has_more (stands_outside waiters n) n key (outside_below waiters n) refl (below_lacks n n (omega arith)) (λ ne. below_has n key (omega arith))

  outside_has : (key : ℕ) → has (outside waiters) key ≡ stands_outside waiters key
  outside_has key =
      let n = length waiters.entries.slots in
      elim (cases_order key n) [
        | inl same ↦ past (omega (arith, same))
        | inr other ↦ elim other [ inl before ↦ below_has n key before | inr after ↦ past (omega (arith, after)) ]
      ]
    where
      past : length waiters.entries.slots ≤ key → has (outside waiters) key ≡ stands_outside waiters key
      past le = below_lacks (length waiters.entries.slots) key le ∙ sym (ap (λ x. is_some x && not (has waiters.order key)) (beyond waiters.entries.slots key le))

  -- ---- who waits

  outside_or : (a b : Bool) → (b ≡ true → a ≡ true) → ((a && not b) || b) ≡ a
  outside_or false false h = refl
  outside_or false true h = absurd (cc (h refl))
  outside_or true false h = refl
  outside_or true true h = refl

  outside_not : (a b : Bool) → a && not b ≡ true → b ≡ false
  outside_not false b h = absurd (cc)
  outside_not true false h = refl
  outside_not true true h = absurd (cc)

  pub outside_waits : Apart waiters.order → IsPresent waiters → Waits (outside waiters) waiters
  outside_waits apart present = record {
    apart = apart_join (outside waiters) waiters.order (below_apart (length waiters.entries.slots)) apart
        (λ key h. outside_not (is_some (get waiters.entries key)) (has waiters.order key) (sym (outside_has key) ∙ h));
    present = λ key.
        has_append (outside waiters) waiters.order key
        ∙ ap (λ b. b || has waiters.order key) (outside_has key)
        ∙ outside_or (is_some (get waiters.entries key)) (has waiters.order key) (present key);
  }

  or_behind : (a b : Bool) → b ≡ true → a || b ≡ true
  or_behind false b h = h
  or_behind true b h = refl

  and_not : (a b c : Bool) → a || b ≡ c → (a ≡ true → b ≡ false) → a ≡ c && not b
  and_not false false false h cross = refl
  and_not false true true h cross = refl
  and_not true false true h cross = refl
  and_not true true c h cross = absurd (cc (cross refl))
  and_not false false true h cross = absurd (cc h)
  and_not false true false h cross = absurd (cc h)
  and_not true false false h cross = absurd (cc h)

  pub waits_apart : (granted : List ℕ) → Waits granted waiters → Apart waiters.order
  waits_apart granted w = apart_back granted waiters.order w.apart

  pub waits_present : (granted : List ℕ) → Waits granted waiters → IsPresent waiters
  waits_present granted w key h = sym (w.present key) ∙ has_append granted waiters.order key ∙ or_behind (has granted key) (has waiters.order key) h

  -- the granted keys are those outside the order
  pub granted_has : (granted : List ℕ) → Waits granted waiters → (key : ℕ) → has granted key ≡ stands_outside waiters key
  granted_has granted w key =
      and_not (has granted key) (has waiters.order key) (is_some (get waiters.entries key))
      (sym (has_append granted waiters.order key) ∙ w.present key) (apart_cross granted waiters.order key w.apart)

  pub waits_count : (granted : List ℕ) → Waits granted waiters → length (outside waiters) ≡ length granted
  waits_count granted w =
      same_length (outside waiters) granted (below_apart (length waiters.entries.slots)) (apart_front granted waiters.order w.apart)
      (λ key. outside_has key ∙ sym (granted_has granted w key))

-- ---- steps

module _ (granted : List ℕ) (old new : LinksView (Unit {0})) (waits : Waits granted old) where
  -- the entries are as they were
  pub grown : new.order ≡ old.order → ((key : ℕ) → get new.entries key ≡ get old.entries key) → Waits granted new
  grown order same = record {
    apart = rw order waits.apart;
    present = λ key. rw order (waits.present key) ∙ ap is_some (sym (same key));
  }

  pub pushed : (key : ℕ) → get old.entries key ≡ None → Updates old.entries new.entries key (Some tt) → new.order ≡ old.order ++ key ∷ [] → Waits granted new
  pushed key vacant updates order =
      let lacks : has (granted ++ old.order) key ≡ false = waits.present key ∙ ap is_some vacant in
      let keys : granted ++ new.order ≡ (granted ++ old.order) ++ key ∷ [] = ap (λ l. granted ++ l) order ∙ sym (append_assoc granted old.order (key ∷ [])) in
      record {
        apart = rw keys (apart_push (granted ++ old.order) key waits.apart lacks);
        present = λ other. ap (λ l. has l other) keys ∙ has_append (granted ++ old.order) (key ∷ []) other ∙ (elim (eqb_tells other key) [
          | inl same ↦ ap (λ b. has (granted ++ old.order) other || (b || false)) same.0 ∙ or_true (has (granted ++ old.order) other) ∙ sym (ap (λ k. is_some (get new.entries k)) same.1 ∙ ap is_some updates.changed)
          | inr differs ↦ ap (λ b. has (granted ++ old.order) other || (b || false)) differs.0 ∙ or_false (has (granted ++ old.order) other) ∙ waits.present other ∙ ap is_some (sym (updates.others other differs.1))
        ]);
      }
    where
      or_true : (a : Bool) → a || (true || false) ≡ true
      or_true false = refl
      or_true true = refl

      or_false : (a : Bool) → a || (false || false) ≡ a
      or_false false = refl
      or_false true = refl

  pub removed : (key : ℕ) → Updates old.entries new.entries key None → new.order ≡ without old.order key → Waits (without granted key) new
  removed key updates order =
      let keys : without granted key ++ new.order ≡ without (granted ++ old.order) key = ap (λ l. without granted key ++ l) order ∙ sym (without_append granted old.order key) in
      record {
        apart = rw keys (apart_without (granted ++ old.order) key waits.apart);
        present = λ other. ap (λ l. has l other) keys ∙ (elim (eqb_tells other key) [
          | inl same ↦ ap (has (without (granted ++ old.order) key)) same.1 ∙ has_without_same (granted ++ old.order) key ∙ sym (ap (λ k. is_some (get new.entries k)) same.1 ∙ ap is_some updates.changed)
          | inr differs ↦ has_without_other (granted ++ old.order) key other differs.0 ∙ waits.present other ∙ ap is_some (sym (updates.others other differs.1))
        ]);
      }

  -- the first in the order is granted, and stays where it is in the line
  pub admitted : (key : ℕ) (rest : List ℕ) → old.order ≡ key ∷ rest → new.order ≡ without old.order key → new.entries ≡ old.entries
      → (new.order ≡ rest) × ((granted ++ key ∷ []) ++ new.order ≡ granted ++ old.order) × Waits (granted ++ key ∷ []) new
  admitted key rest is order entries =
      let apart : Apart (key ∷ rest) = subst Apart is (apart_back granted old.order waits.apart) in
      let left : new.order ≡ rest = order ∙ ap (λ l. without l key) is ∙ without_first key rest apart.0 in
      let keys : (granted ++ key ∷ []) ++ new.order ≡ granted ++ old.order = append_assoc granted (key ∷ []) new.order ∙ ap (λ l. granted ++ l) (ap (λ l. key ∷ l) left ∙ sym is) in (
        left,
        keys,
        record {
          apart = rw keys waits.apart;
          present = λ other. ap (λ l. has l other) keys ∙ waits.present other ∙ ap (λ e. is_some (get e other)) (sym entries);
        },
      )
