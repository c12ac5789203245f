-- Lists of keys, of which no key stands twice.
use Rattle.std.proofs.Common.{◌≡◌, ℕ, ◌+◌, ◌<◌, ◌≤◌, zero, suc, Bool, true, false, ◌&&◌, ◌||◌, not, eqb, List, [], ◌∷◌, ◌++◌, length, Some, ◌⊎◌, slice_get, remove, refl, sym, ap, subst, ◌∙◌, inl, inr, arith}
use Rattle.std.proofs.lemmas.Bool.Decides.{eqb_tells}
use Rattle.std.proofs.lemmas.Bool.{eq-eqb}
use Rattle.std.proofs.lemmas.List.Folds.{list_any-append}
use Rattle.std.proofs.lemmas.List.Elements.{filter-append}
use Rattle.tower_base.specs.Order.{has, without, Apart}
use Rattle.tower_latch.specs.Waiters.{are_apart}
use Rattle.tower_latch.specs.declared.Wakes.TheVariants.{One}

-- that keys are apart, as a fact and as a `Bool`
pub apart_is : (keys : List ℕ) → are_apart keys ≡ true → Apart keys
apart_is [] e = tt
apart_is (first ∷ rest) e = let b = both (has rest first) (are_apart rest) e in (b.0, apart_is rest b.1)
  where
    both : (a b : Bool) → not a && b ≡ true → (a ≡ false) × (b ≡ true)
    both false b h = (refl, h)
    both true b h = absurd (cc)

pub is_apart : (keys : List ℕ) → Apart keys → are_apart keys ≡ true
is_apart [] h = refl
is_apart (first ∷ rest) h = ap (λ b. not b && are_apart rest) h.0 ∙ is_apart rest h.1

eqb_self : (n : ℕ) → eqb n n ≡ true
eqb_self n = eq-eqb n n refl

pub or_no : (a b : Bool) → a || b ≡ false → (a ≡ false) × (b ≡ false)
or_no false b h = (refl, h)
or_no true b h = absurd (cc)

pub or_right : (a b : Bool) → b ≡ true → a || b ≡ true
or_right false b h = h
or_right true b h = refl

pub not_both : (b : Bool) → b ≡ true → b ≡ false → ⊥
not_both b holds lacks = cc

-- a key of the list is no key outside it
pub other_key : (keys : List ℕ) (inside outside : ℕ) → has keys inside ≡ true → has keys outside ≡ false → eqb inside outside ≡ false
other_key keys inside outside holds lacks =
    elim (eqb_tells inside outside) [
      | inl same ↦ absurd (not_both (has keys inside) holds (ap (has keys) same.1 ∙ lacks))
      | inr apart ↦ apart.0
    ]

pub has_append : (a b : List ℕ) (key : ℕ) → has (a ++ b) key ≡ (has a key || has b key)
has_append a b key = list_any-append (eqb key) a b

pub without_append : (a b : List ℕ) (key : ℕ) → without (a ++ b) key ≡ without a key ++ without b key
without_append a b key = filter-append (λ other. not (eqb key other)) a b

-- ---- places

pub has_at : (keys : List ℕ) (i key : ℕ) → slice_get keys i ≡ Some key → has keys key ≡ true
has_at [] i key at = absurd (cc)
has_at (first ∷ rest) zero key at = let is : key ≡ first = cc in rw (eq-eqb key first is) refl
has_at (first ∷ rest) (suc i) key at = or_right _ _ (has_at rest i key at)

pub at_has : (keys : List ℕ) (key : ℕ) → has keys key ≡ true → (i : ℕ) × (slice_get keys i ≡ Some key)
at_has [] key h = absurd (cc)
at_has (first ∷ rest) key h =
    elim (eqb_tells key first) [
      | inl same ↦ (0, ap Some (sym same.1))
      | inr differs ↦ let r = at_has rest key (sym (ap (λ b. b || has rest key) differs.0) ∙ h) in (suc r.0, r.1)
    ]

pub in_front : (a b : List ℕ) (i key : ℕ) → slice_get (a ++ b) i ≡ Some key → has b key ≡ false → i < length a
in_front [] b i key at lacks = absurd (not_both (has b key) (has_at b i key at) lacks)
in_front (first ∷ a) b zero key at lacks = omega arith
in_front (first ∷ a) b (suc i) key at lacks = let r = in_front a b i key at lacks in omega arith

pub behind : (a b : List ℕ) (i key : ℕ) → slice_get (a ++ b) i ≡ Some key → has a key ≡ false → length a ≤ i
behind [] b i key at lacks = omega arith
behind (first ∷ a) b zero key at lacks = absurd (not_both (has (first ∷ a) key) (has_at (first ∷ a) 0 key at) lacks)
behind (first ∷ a) b (suc i) key at lacks = let r : length a ≤ i = behind a b i key at (or_no (eqb key first) (has a key) lacks).1 in omega arith

-- ---- a key taken out

pub without_lacks : (keys : List ℕ) (key : ℕ) → has keys key ≡ false → without keys key ≡ keys
without_lacks [] key lacks = refl
without_lacks (first ∷ rest) key lacks =
    let o = or_no (eqb key first) (has rest key) lacks in rw o.0 (ap (λ l. first ∷ l) (without_lacks rest key o.1))

pub without_first : (first : ℕ) (rest : List ℕ) → has rest first ≡ false → without (first ∷ rest) first ≡ rest
without_first first rest lacks = rw (eqb_self first) (without_lacks rest first lacks)

pub without_at : (keys : List ℕ) (i key : ℕ) → Apart keys → slice_get keys i ≡ Some key → without keys key ≡ remove keys i
without_at [] i key apart at = absurd (cc)
without_at (first ∷ rest) zero key apart at =
    let is : first ≡ key = cc in subst (λ (k : ℕ). without (first ∷ rest) k ≡ rest) is (without_first first rest apart.0)
without_at (first ∷ rest) (suc i) key apart at =
    rw (other_key rest key first (has_at rest i key at) apart.0) (ap (λ l. first ∷ l) (without_at rest i key apart.1 at))

pub has_without_same : (keys : List ℕ) (key : ℕ) → has (without keys key) key ≡ false
has_without_same [] key = refl
has_without_same (first ∷ rest) key =
    elim (eqb_tells key first) [
      | inl same ↦ rw same.0 (has_without_same rest key)
      | inr differs ↦ rw differs.0 (rw differs.0 (has_without_same rest key))
    ]

pub has_without_other : (keys : List ℕ) (key other : ℕ) → eqb other key ≡ false → has (without keys key) other ≡ has keys other
has_without_other [] key other differs = refl
has_without_other (first ∷ rest) key other differs =
    elim (eqb_tells key first) [
      | inl same ↦ rw same.0 (has_without_other rest key other differs ∙ ap (λ b. b || has rest other) (sym (sym (ap (eqb other) same.1) ∙ differs)))
      | inr apart ↦ rw apart.0 (ap (λ b. eqb other first || b) (has_without_other rest key other differs))
    ]

pub apart_without : (keys : List ℕ) (key : ℕ) → Apart keys → Apart (without keys key)
apart_without [] key apart = tt
apart_without (first ∷ rest) key apart =
    elim (eqb_tells key first) [
      | inl same ↦ rw same.0 (apart_without rest key apart.1)
      | inr differs ↦ rw differs.0 (kept (has_without_other rest key first (flip key first differs.0) ∙ apart.0), apart_without rest key apart.1)
    ]
  where
    kept : has (without rest key) first ≡ false → has (without rest key) first ≡ false
    kept h = h

    flip : (a b : ℕ) → eqb a b ≡ false → eqb b a ≡ false
    flip a b h = elim (eqb_tells b a) [ inl same ↦ absurd (not_both (eqb a b) (eq-eqb a b (sym same.1)) h) | inr differs ↦ differs.0 ]

pub length_without : (keys : List ℕ) (key : ℕ) → Apart keys → has keys key ≡ true → length keys ≡ length (without keys key) + 1
length_without [] key apart h = absurd (cc)
length_without (first ∷ rest) key apart h =
    elim (eqb_tells key first) [
      | inl same ↦ rw same.0 (
          let lacks : has rest key ≡ false = ap (has rest) same.1 ∙ apart.0 in
          omega (arith, ap length (without_lacks rest key lacks)))
      | inr differs ↦ rw differs.0 (
          let r = length_without rest key apart.1 (sym (ap (λ b. b || has rest key) differs.0) ∙ h) in omega arith)
    ]

pub apart_push : (keys : List ℕ) (key : ℕ) → Apart keys → has keys key ≡ false → Apart (keys ++ key ∷ [])
apart_push [] key apart lacks = (refl, tt)
apart_push (first ∷ rest) key apart lacks =
    let o = or_no (eqb key first) (has rest key) lacks in
    (has_append rest (key ∷ []) first ∙ rw (apart.0, flip key first o.0) refl, apart_push rest key apart.1 o.1)
  where
    flip : (a b : ℕ) → eqb a b ≡ false → eqb b a ≡ false
    flip a b h = elim (eqb_tells b a) [ inl same ↦ absurd (not_both (eqb a b) (eq-eqb a b (sym same.1)) h) | inr differs ↦ differs.0 ]

-- ---- two lists of the same keys

pub same_length : (a b : List ℕ) → Apart a → Apart b → ((key : ℕ) → has a key ≡ has b key) → length a ≡ length b
same_length [] [] apart others same = refl
same_length [] (first ∷ rest) apart others same = absurd (not_both (has (first ∷ rest) first) (has_at (first ∷ rest) 0 first refl) (sym (same first)))
same_length (first ∷ rest) b apart others same =
    let inside : has b first ≡ true = sym (same first) ∙ has_at (first ∷ rest) 0 first refl in
    let less = length_without b first others inside in
    let r = same_length rest (without b first) apart.1 (apart_without b first others) (λ key. elim (eqb_tells key first) [
      | inl is ↦ ap (has rest) is.1 ∙ apart.0 ∙ sym (ap (has (without b first)) is.1 ∙ has_without_same b first)
      | inr differs ↦ sym (ap (λ x. x || has rest key) differs.0) ∙ same key ∙ sym (has_without_other b first key differs.0)
    ]) in
    omega arith

-- ---- two lists, one behind the other

pub has_first : (first : ℕ) (rest : List ℕ) → has (first ∷ rest) first ≡ true
has_first first rest = rw (eqb_self first) refl

pub append_assoc : (a b c : List ℕ) → (a ++ b) ++ c ≡ a ++ (b ++ c)
append_assoc [] b c = refl
append_assoc (x ∷ a) b c = ap (λ l. x ∷ l) (append_assoc a b c)

pub apart_front : (a b : List ℕ) → Apart (a ++ b) → Apart a
apart_front [] b apart = tt
apart_front (x ∷ a) b apart = ((or_no (has a x) (has b x) (sym (has_append a b x) ∙ apart.0)).0, apart_front a b apart.1)

pub apart_back : (a b : List ℕ) → Apart (a ++ b) → Apart b
apart_back [] b apart = apart
apart_back (x ∷ a) b apart = apart_back a b apart.1

pub apart_cross : (a b : List ℕ) (key : ℕ) → Apart (a ++ b) → has a key ≡ true → has b key ≡ false
apart_cross [] b key apart h = absurd (cc)
apart_cross (x ∷ a) b key apart h =
    elim (eqb_tells key x) [
      | inl same ↦ ap (has b) same.1 ∙ (or_no (has a x) (has b x) (sym (has_append a b x) ∙ apart.0)).1
      | inr differs ↦ apart_cross a b key apart.1 (sym (ap (λ c. c || has a key) differs.0) ∙ h)
    ]

pub apart_join : (a b : List ℕ) → Apart a → Apart b → ((key : ℕ) → has a key ≡ true → has b key ≡ false) → Apart (a ++ b)
apart_join [] b apart others cross = others
apart_join (x ∷ a) b apart others cross =
    (has_append a b x ∙ rw (apart.0, cross x (has_first x a)) refl, apart_join a b apart.1 others (λ key h. cross key (or_right (eqb key x) (has a key) h)))

-- what is in a list is in it without a key, or is that key
pub still_in : (order : List ℕ) (key at : ℕ) (new : List ℕ) → new ≡ without order key → has order at ≡ true → (has new at ≡ true) ⊎ (key ≡ at)
still_in order key at new is had =
    elim (eqb_tells at key) [
      | inl same ↦ inr (sym same.1)
      | inr differs ↦ inl (ap (λ l. has l at) is ∙ has_without_other order key at differs.0 ∙ had)
    ]

-- the one that was taken out of a list isn't in it
pub one_gone : (old new : List ℕ) (gone : ℕ) → new ≡ without old gone → (key : ℕ) → One gone ≡ One key → ¬ (has new key ≡ true)
one_gone old new gone is key same h =
    let it : gone ≡ key = cc same in
    not_both (has new key) h (ap (λ l. has l key) is ∙ ap (has (without old gone)) (sym it) ∙ has_without_same old gone)

-- the one that was taken out of a list was in it, and isn't any longer
pub only_gone : (old new : List ℕ) (gone : ℕ) → new ≡ without old gone → has old gone ≡ true → (key : ℕ) → gone ≡ key → (has old key ≡ true) × ¬ (has new key ≡ true)
only_gone old new gone is had key same = (ap (has old) (sym same) ∙ had, one_gone old new gone is key (ap One same))

-- what is in a list without a key was in it before
pub was_in : (old new : List ℕ) (key at : ℕ) → new ≡ without old key → has new at ≡ true → has old at ≡ true
was_in old new key at is holds =
    elim (eqb_tells at key) [
      | inl same ↦ absurd (not_both (has new at) holds (ap (λ l. has l at) is ∙ ap (has (without old key)) same.1 ∙ has_without_same old key))
      | inr differs ↦ sym (has_without_other old key at differs.0) ∙ sym (ap (λ l. has l at) is) ∙ holds
    ]
