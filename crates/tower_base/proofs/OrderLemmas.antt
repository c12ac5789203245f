-- Lemmas on the order of a slab's entries, over plain functions and lists.
use Rattle.std.proofs.Common.{◌≡◌, ℕ, ◌+◌, ◌-◌, ◌<◌, ◌≤◌, Bool, true, false, ◌||◌, not, eqb, List, [], ◌∷◌, ◌++◌, length, Option, Some, None, refl, sym, ap, subst, ◌∙◌, inl, inr, arith, length-append}
use Rattle.std.proofs.lemmas.Bool.Decides.{eqb_tells}
use Rattle.std.proofs.lemmas.Bool.{eq-eqb}
use Rattle.std.proofs.lemmas.List.Folds.{list_any-append}
use Rattle.std.proofs.lemmas.List.Elements.{filter-append}
use Rattle.std.proofs.lemmas.Map.Steps.{length-le_from_distinct_below}
use Rattle.std.specs.List.{IsDistinct, AllByRecursion}
use Rattle.tower_base.specs.declared.links.cells.LinkState.{LinkState}
use Rattle.tower_base.specs.declared.links.cells.LinkState.TheVariants.{Linked, Outside}
use Rattle.tower_base.specs.Order.{LinkStates, has, without, Apart, with_next, with_previous, place_map, moved, is_linked, next_of, chain, first_or, last_or, IsChain, IsOrder, end_after}

eqb_self : (n : ℕ) → eqb n n ≡ true
eqb_self n = eq-eqb n n refl

or_no : (a b : Bool) → a || b ≡ false → (a ≡ false) × (b ≡ false)
or_no false b h = (refl, h)
or_no true b h = absurd (cc)

or_right : (a b : Bool) → b ≡ true → a || b ≡ true
or_right false b h = h
or_right true b h = refl

has-first : (key : ℕ) (rest : List ℕ) → has (key ∷ rest) key ≡ true
has-first key rest = rw (eqb_self key) refl

not_both : (b : Bool) → b ≡ true → b ≡ false → ⊥
not_both b holds lacks = cc

-- a key of the list is no key outside it
other_key : (keys : List ℕ) (inside outside : ℕ) → has keys inside ≡ true → has keys outside ≡ false → eqb inside outside ≡ false
other_key keys inside outside holds lacks =
    elim (eqb_tells inside outside) [
      | inl same ↦ absurd (not_both (has keys inside) holds (ap (has keys) same.1 ∙ lacks))
      | inr apart ↦ apart.0
    ]

has-append : (a b : List ℕ) (key : ℕ) → has (a ++ b) key ≡ (has a key || has b key)
has-append a b key = list_any-append (eqb key) a b

-- ---- changes of one place

pub moved_same : (P : LinkStates) (key : ℕ) (f : LinkState → LinkState) → moved P (Some key) f key ≡ place_map f (P key)
moved_same P key f = rw (eqb_self key) refl

pub moved_other : (P : LinkStates) (at key : ℕ) (f : LinkState → LinkState) → eqb key at ≡ false → moved P (Some at) f key ≡ P key
moved_other P at key f differs = rw differs refl

moved_last : (P : LinkStates) (f : LinkState → LinkState) (key first : ℕ) (rest : List ℕ) → has (first ∷ rest) key ≡ false → moved P (last_or rest (Some first)) f key ≡ P key
moved_last P f key first [] lacks = moved_other P first key f (or_no _ _ lacks).0
moved_last P f key first (second ∷ rest) lacks = moved_last P f key second rest (or_no _ _ lacks).1

moved_last_or : (P : LinkStates) (f : LinkState → LinkState) (key : ℕ) (keys : List ℕ) → has keys key ≡ false → moved P (last_or keys None) f key ≡ P key
moved_last_or P f key [] lacks = refl
moved_last_or P f key (first ∷ rest) lacks = moved_last P f key first rest lacks

moved_first_or : (P : LinkStates) (f : LinkState → LinkState) (key : ℕ) (keys : List ℕ) → has keys key ≡ false → moved P (first_or keys None) f key ≡ P key
moved_first_or P f key [] lacks = refl
moved_first_or P f key (first ∷ rest) lacks = moved_other P first key f (or_no _ _ lacks).0

linked-next : (q : Option LinkState) (next : Option ℕ) → is_linked (place_map (with_next next) q) ≡ is_linked q
linked-next None next = refl
linked-next (Some Outside) next = refl
linked-next (Some (Linked before after)) next = refl

linked-previous : (q : Option LinkState) (previous : Option ℕ) → is_linked (place_map (with_previous previous) q) ≡ is_linked q
linked-previous None previous = refl
linked-previous (Some Outside) previous = refl
linked-previous (Some (Linked before after)) previous = refl

linked_moved : (P : LinkStates) (at : Option ℕ) (f : LinkState → LinkState) (key : ℕ) → ((q : Option LinkState) → is_linked (place_map f q) ≡ is_linked q) → is_linked (moved P at f key) ≡ is_linked (P key)
linked_moved P None f key keeps = refl
linked_moved P (Some at) f key keeps =
    elim (eqb_tells key at) [
      | inl same ↦ rw same.0 (keeps (P key))
      | inr apart ↦ rw apart.0 refl
    ]

-- ---- chains

pub IsChain-same : (P Q : LinkStates) (before : Option ℕ) (keys : List ℕ) (after : Option ℕ) → ((key : ℕ) → has keys key ≡ true → Q key ≡ P key) → IsChain P before keys after → IsChain Q before keys after
IsChain-same P Q before [] after same c = tt
IsChain-same P Q before (key ∷ rest) after same c =
    (same key (has-first key rest) ∙ c.0, IsChain-same P Q (Some key) rest after (λ other h. same other (or_right _ _ h)) c.1)

first_or-append : (a b : List ℕ) (after : Option ℕ) → first_or (a ++ b) after ≡ first_or a (first_or b after)
first_or-append [] b after = refl
first_or-append (key ∷ rest) b after = refl

last_or-append : (a b : List ℕ) (before : Option ℕ) → last_or (a ++ b) before ≡ last_or b (last_or a before)
last_or-append [] b before = refl
last_or-append (key ∷ rest) b before = last_or-append rest b (Some key)

IsChain-join : (P : LinkStates) (before : Option ℕ) (a b : List ℕ) (after : Option ℕ) → IsChain P before a (first_or b after) → IsChain P (last_or a before) b after → IsChain P before (a ++ b) after
IsChain-join P before [] b after front back = back
IsChain-join P before (key ∷ rest) b after front back =
    (front.0 ∙ ap (λ x. Some (Linked before x)) (sym (first_or-append rest b after)), IsChain-join P (Some key) rest b after front.1 back)

IsChain-front : (P : LinkStates) (before : Option ℕ) (a b : List ℕ) (after : Option ℕ) → IsChain P before (a ++ b) after → IsChain P before a (first_or b after)
IsChain-front P before [] b after c = tt
IsChain-front P before (key ∷ rest) b after c =
    (c.0 ∙ ap (λ x. Some (Linked before x)) (first_or-append rest b after), IsChain-front P (Some key) rest b after c.1)

IsChain-back : (P : LinkStates) (before : Option ℕ) (a b : List ℕ) (after : Option ℕ) → IsChain P before (a ++ b) after → IsChain P (last_or a before) b after
IsChain-back P before [] b after c = c
IsChain-back P before (key ∷ rest) b after c = IsChain-back P (Some key) rest b after c.1

-- the last entry names another key after it
relink_next : (P : LinkStates) (before : Option ℕ) (keys : List ℕ) (after next : Option ℕ) → Apart keys → IsChain P before keys after → IsChain (moved P (last_or keys None) (with_next next)) before keys next
relink_next P before [] after next apart c = tt
relink_next P before (key ∷ []) after next apart c =
    (moved_same P key (with_next next) ∙ ap (place_map (with_next next)) c.0, tt)
relink_next P before (key ∷ second ∷ rest) after next apart c =
    (moved_last P (with_next next) key second rest apart.0 ∙ c.0, relink_next P (Some key) (second ∷ rest) after next apart.1 c.1)

-- the first entry names another key before it
relink_previous : (P : LinkStates) (before previous : Option ℕ) (keys : List ℕ) (after : Option ℕ) → Apart keys → IsChain P before keys after → IsChain (moved P (first_or keys None) (with_previous previous)) previous keys after
relink_previous P before previous [] after apart c = tt
relink_previous P before previous (key ∷ rest) after apart c = (
  moved_same P key (with_previous previous) ∙ ap (place_map (with_previous previous)) c.0,
  IsChain-same P _ (Some key) rest after (λ other h. moved_other P key other (with_previous previous) (other_key rest other key h apart.0)) c.1,
)

-- a chain's entries are linked
chained_linked : (P : LinkStates) (before : Option ℕ) (keys : List ℕ) (after : Option ℕ) (key : ℕ) → IsChain P before keys after → has keys key ≡ true → is_linked (P key) ≡ true
chained_linked P before [] after key c h = absurd (cc)
chained_linked P before (first ∷ rest) after key c h =
    elim (eqb_tells key first) [
      | inl same ↦ ap (λ k. is_linked (P k)) same.1 ∙ ap is_linked c.0
      | inr differs ↦ chained_linked P (Some first) rest after key c.1 (sym (ap (λ b. b || has rest key) differs.0) ∙ h)
    ]

chain_is : (P : LinkStates) (before : Option ℕ) (keys : List ℕ) → IsChain P before keys None → chain P (length keys) (first_or keys None) ≡ keys
chain_is P before [] c = refl
chain_is P before (key ∷ rest) c =
    ap (λ place. key ∷ chain P (length rest) (next_of place)) c.0 ∙ ap (λ keys. key ∷ keys) (chain_is P (Some key) rest c.1)

-- ---- lists of keys

split_at : (keys : List ℕ) (key : ℕ) → has keys key ≡ true → (a : List ℕ) × (b : List ℕ) × (keys ≡ a ++ key ∷ b)
split_at [] key h = absurd (cc)
split_at (first ∷ rest) key h =
    elim (eqb_tells key first) [
      | inl same ↦ ([], rest, ap (λ k. k ∷ rest) (sym same.1))
      | inr differs ↦
          let s = split_at rest key (sym (ap (λ b. b || has rest key) differs.0) ∙ h) in (first ∷ s.0, s.1, ap (λ keys. first ∷ keys) s.2)
    ]

Apart-front : (a b : List ℕ) → Apart (a ++ b) → Apart a
Apart-front [] b h = tt
Apart-front (key ∷ rest) b h = ((or_no _ _ (sym (has-append rest b key) ∙ h.0)).0, Apart-front rest b h.1)

Apart-back : (a b : List ℕ) → Apart (a ++ b) → Apart b
Apart-back [] b h = h
Apart-back (key ∷ rest) b h = Apart-back rest b h.1

Apart-cross : (a b : List ℕ) (key : ℕ) → Apart (a ++ b) → has a key ≡ true → has b key ≡ false
Apart-cross [] b key h holds = absurd (cc)
Apart-cross (first ∷ rest) b key h holds =
    elim (eqb_tells key first) [
      | inl same ↦ ap (has b) same.1 ∙ (or_no _ _ (sym (has-append rest b first) ∙ h.0)).1
      | inr differs ↦ Apart-cross rest b key h.1 (sym (ap (λ x. x || has rest key) differs.0) ∙ holds)
    ]

Apart-join : (a b : List ℕ) → Apart a → Apart b → ((key : ℕ) → has a key ≡ true → has b key ≡ false) → Apart (a ++ b)
Apart-join [] b x y cross = y
Apart-join (key ∷ rest) b x y cross = (
  has-append rest b key ∙ rw x.0 (cross key (has-first key rest)),
  Apart-join rest b x.1 y (λ other h. cross other (or_right _ _ h)),
)

without_fresh : (keys : List ℕ) (key : ℕ) → has keys key ≡ false → without keys key ≡ keys
without_fresh [] key lacks = refl
without_fresh (first ∷ rest) key lacks =
    let h = or_no (eqb key first) (has rest key) lacks in rw h.0 (ap (λ keys. first ∷ keys) (without_fresh rest key h.1))

without_split : (a b : List ℕ) (key : ℕ) → has a key ≡ false → has b key ≡ false → without (a ++ key ∷ b) key ≡ a ++ b
without_split a b key p q =
    filter-append (λ other. not (eqb key other)) a (key ∷ b) ∙ rw (without_fresh a key p, eqb_self key, without_fresh b key q) refl

distinct : (keys : List ℕ) → Apart keys → IsDistinct eqb keys
unfolding IsDistinct
distinct [] h = tt
distinct (key ∷ rest) h = (none rest h.0, distinct rest h.1)
  where
    none : (others : List ℕ) → has others key ≡ false → AllByRecursion (λ y. eqb key y ≡ false) others
    none [] lacks = tt
    none (first ∷ others) lacks = ((or_no _ _ lacks).0, none others (or_no _ _ lacks).1)

pub short : (keys : List ℕ) (n : ℕ) → Apart keys → ((key : ℕ) → has keys key ≡ true → key < n) → length keys ≤ n
short keys n apart below = length-le_from_distinct_below keys n (distinct keys apart) below

lacks_from : (b : Bool) → (b ≡ true → ⊥) → b ≡ false
lacks_from false h = refl
lacks_from true h = absurd (h refl)

or_left : (a b : Bool) → a ≡ true → a || b ≡ true
or_left false b h = absurd (cc)
or_left true b h = refl

or_mid : (a b c : Bool) → a || c ≡ true → a || (b || c) ≡ true
or_mid false false c h = h
or_mid false true c h = refl
or_mid true b c h = refl

last_some : (rest : List ℕ) (key : ℕ) → (last : ℕ) × (last_or rest (Some key) ≡ Some last)
last_some [] key = (key, refl)
last_some (second ∷ rest) key = last_some rest second

start_after : (a b : List ℕ) (key : ℕ) (first : Option ℕ) → first ≡ first_or (a ++ key ∷ b) None → end_after (last_or a None) (first_or b None) first ≡ first_or (a ++ b) None
start_after [] b key first h = refl
start_after (x ∷ rest) b key first h =
    let s = last_some rest x in ap (λ l. end_after l (first_or b None) first) s.1 ∙ h

finish_after : (a b : List ℕ) (key : ℕ) (last : Option ℕ) → last ≡ last_or (a ++ key ∷ b) None → end_after (first_or b None) (last_or a None) last ≡ last_or (a ++ b) None
finish_after a [] key last h = sym (last_or-append a [] None)
finish_after a (y ∷ rest) key last h =
    h ∙ last_or-append a (key ∷ y ∷ rest) None ∙ sym (last_or-append a (y ∷ rest) None)

start_pushed : (keys : List ℕ) (key : ℕ) (first : Option ℕ) → first ≡ first_or keys None → end_after (last_or keys None) (Some key) first ≡ first_or (keys ++ key ∷ []) None
start_pushed [] key first h = refl
start_pushed (x ∷ rest) key first h =
    let s = last_some rest x in ap (λ l. end_after l (Some key) first) s.1 ∙ h

pub order_is : (P : LinkStates) (keys : List ℕ) (first last : Option ℕ) (len capacity : ℕ) → IsOrder P keys first last len capacity → chain P len first ≡ keys
order_is P keys first last len capacity o =
    ap (λ n. chain P n first) o.counted ∙ ap (λ at. chain P (length keys) at) o.starts ∙ chain_is P None keys o.chained

-- the order has the keys whose entries are linked
pub has_is : (P : LinkStates) (keys : List ℕ) (first last : Option ℕ) (len capacity : ℕ) (key : ℕ) → IsOrder P keys first last len capacity → is_linked (P key) ≡ has keys key
has_is P keys first last len capacity key o = both (is_linked (P key)) (has keys key) (o.all key) (chained_linked P None keys None key o.chained)
  where
    both : (a b : Bool) → (a ≡ true → b ≡ true) → (b ≡ true → a ≡ true) → a ≡ b
    both false false f g = refl
    both false true f g = g refl
    both true b f g = sym (f refl)

-- the same places have the same order
pub IsOrder-same : (P Q : LinkStates) (keys : List ℕ) (first last : Option ℕ) (len capacity larger : ℕ) → ((key : ℕ) → Q key ≡ P key) → capacity ≤ larger → IsOrder P keys first last len capacity → IsOrder Q keys first last len larger
IsOrder-same P Q keys first last len capacity larger same grows o =
    record {
      starts = o.starts;
      ends = o.ends;
      counted = o.counted;
      apart = o.apart;
      chained = IsChain-same P Q None keys None (λ key h. same key) o.chained;
      all = λ key h. o.all key (ap is_linked (sym (same key)) ∙ h);
      in_range = λ key h. let below = o.in_range key h in omega arith;
    }

unlinked_mid : (P P1 Q : LinkStates) (a b : List ℕ) (key : ℕ) (first last : Option ℕ) (len capacity : ℕ) → IsOrder P (a ++ key ∷ b) first last len capacity → ((other : ℕ) → eqb other key ≡ false → P1 other ≡ P other) → is_linked (P1 key) ≡ false → ((other : ℕ) → Q other ≡ moved (moved P1 (last_or a None) (with_next (first_or b None))) (first_or b None) (with_previous (last_or a None)) other) → IsOrder Q (a ++ b) (end_after (last_or a None) (first_or b None) first) (end_after (first_or b None) (last_or a None) last) (len - 1) capacity
unlinked_mid P P1 Q a b key first last len capacity o same gone is =
    let next : Option ℕ = first_or b None in
    let previous : Option ℕ = last_or a None in
    let P2 : LinkStates = moved P1 previous (with_next next) in
    let P3 : LinkStates = moved P2 next (with_previous previous) in
    let apart_a : Apart a = Apart-front a (key ∷ b) o.apart in
    let apart_b : Apart (key ∷ b) = Apart-back a (key ∷ b) o.apart in
    let a_lacks : has a key ≡ false = lacks_from (has a key) (λ h. not_both (has (key ∷ b) key) (has-first key b) (Apart-cross a (key ∷ b) key o.apart h)) in
    let cross : (other : ℕ) → has a other ≡ true → has b other ≡ false = λ other h. (or_no (eqb other key) (has b other) (Apart-cross a (key ∷ b) other o.apart h)).1 in
    let back_cross : (other : ℕ) → has b other ≡ true → has a other ≡ false = λ other h. lacks_from (has a other) (λ inside. not_both (has b other) h (cross other inside)) in
    let front = IsChain-front P None a (key ∷ b) None o.chained in
    let back = IsChain-back P None a (key ∷ b) None o.chained in
    let a1 : IsChain P1 None a (Some key) = IsChain-same P P1 None a (Some key) (λ other h. same other (other_key a other key h a_lacks)) front in
    let a2 : IsChain P2 None a next = relink_next P1 None a (Some key) next apart_a a1 in
    let a3 : IsChain P3 None a next = IsChain-same P2 P3 None a next (λ other h. moved_first_or P2 (with_previous previous) other b (cross other h)) a2 in
    let b1 : IsChain P1 (Some key) b None = IsChain-same P P1 (Some key) b None (λ other h. same other (other_key b other key h apart_b.0)) back.1 in
    let b2 : IsChain P2 (Some key) b None = IsChain-same P1 P2 (Some key) b None (λ other h. moved_last_or P1 (with_next next) other a (back_cross other h)) b1 in
    let b3 : IsChain P3 previous b None = relink_previous P2 (Some key) previous b None apart_b.1 b2 in
    record {
      starts = start_after a b key first o.starts;
      ends = finish_after a b key last o.ends;
      counted = omega (arith, o.counted, length-append a (key ∷ b), length-append a b);
      apart = Apart-join a b apart_a apart_b.1 cross;
      chained = IsChain-same P3 Q None (a ++ b) None (λ other h. is other) (IsChain-join P3 None a b None a3 b3);
      all = λ other h.
          let was : is_linked (P1 other) ≡ true =
          sym (ap is_linked (is other) ∙ linked_moved P2 next (with_previous previous) other (λ q. linked-previous q previous) ∙ linked_moved P1 previous (with_next next) other (λ q. linked-next q next)) ∙ h in
          elim (eqb_tells other key) [
            | inl equal ↦ absurd (not_both (is_linked (P1 key)) (ap (λ k. is_linked (P1 k)) (sym equal.1) ∙ was) gone)
            | inr differs ↦
                has-append a b other
                ∙ sym (has-append a (key ∷ b) other ∙ ap (λ x. has a other || (x || has b other)) differs.0)
                ∙ o.all other (ap is_linked (sym (same other differs.0)) ∙ was)
          ];
      in_range = λ other h. o.in_range other (has-append a (key ∷ b) other ∙ or_mid (has a other) (eqb other key) (has b other) (sym (has-append a b other) ∙ h));
    }

previous_of : Option LinkState → Option ℕ
previous_of None = None
previous_of (Some Outside) = None
previous_of (Some (Linked before after)) = before

-- an entry is taken out of the order: the one before it and the one after it name each other
pub unlinked : (P P1 Q : LinkStates) (keys : List ℕ) (key : ℕ) (first last previous next : Option ℕ) (len capacity : ℕ) → IsOrder P keys first last len capacity → P key ≡ Some (Linked previous next) → ((other : ℕ) → eqb other key ≡ false → P1 other ≡ P other) → is_linked (P1 key) ≡ false → ((other : ℕ) → Q other ≡ moved (moved P1 previous (with_next next)) next (with_previous previous) other) → IsOrder Q (without keys key) (end_after previous next first) (end_after next previous last) (len - 1) capacity
unfolding previous_of
unlinked P P1 Q keys key first last previous next len capacity o stands same gone is =
    let s = split_at keys key (o.all key (ap is_linked stands)) in
    let a : List ℕ = s.0 in
    let b : List ℕ = s.1 in
    let o' : IsOrder P (a ++ key ∷ b) first last len capacity = subst (λ ks. IsOrder P ks first last len capacity) s.2 o in
    let back = IsChain-back P None a (key ∷ b) None o'.chained in
    let before : previous ≡ last_or a None = ap previous_of (sym stands ∙ back.0) in
    let after : next ≡ first_or b None = ap next_of (sym stands ∙ back.0) in
    let apart_b : Apart (key ∷ b) = Apart-back a (key ∷ b) o'.apart in
    let a_lacks : has a key ≡ false = lacks_from (has a key) (λ h. not_both (has (key ∷ b) key) (has-first key b) (Apart-cross a (key ∷ b) key o'.apart h)) in
    let left : without keys key ≡ a ++ b = ap (λ ks. without ks key) s.2 ∙ without_split a b key a_lacks apart_b.0 in
    let done = unlinked_mid P P1 Q a b key first last len capacity o' same gone (λ other. is other ∙ ap (λ x. moved (moved P1 x (with_next next)) next (with_previous x) other) before ∙ ap (λ y. moved (moved P1 (last_or a None) (with_next y)) y (with_previous (last_or a None)) other) after) in
    along Q (without keys key) (a ++ b) previous (last_or a None) next (first_or b None) first last (len - 1) capacity left before after done
  where
    along : (Q : LinkStates) (ks ks' : List ℕ) (p p' n n' first last : Option ℕ) (len capacity : ℕ) → ks ≡ ks' → p ≡ p' → n ≡ n' → IsOrder Q ks' (end_after p' n' first) (end_after n' p' last) len capacity → IsOrder Q ks (end_after p n first) (end_after n p last) len capacity
    along Q ks ks' p p' n n' first last len capacity e₁ e₂ e₃ o = rw (e₁, e₂, e₃) o

-- an entry is put behind the last
pub pushed : (P P1 Q : LinkStates) (keys : List ℕ) (key : ℕ) (first last : Option ℕ) (len capacity : ℕ) → IsOrder P keys first last len capacity → P key ≡ None → P1 key ≡ Some (Linked last None) → ((other : ℕ) → eqb other key ≡ false → P1 other ≡ P other) → key < capacity → ((other : ℕ) → Q other ≡ moved P1 last (with_next (Some key)) other) → IsOrder Q (keys ++ key ∷ []) (end_after last (Some key) first) (Some key) (len + 1) capacity
pushed P P1 Q keys key first last len capacity o vacant stands same within is =
    let lacks : has keys key ≡ false = lacks_from (has keys key) (λ h. not_both (is_linked (P key)) (chained_linked P None keys None key o.chained h) (ap is_linked vacant)) in
    let f : LinkState → LinkState = with_next (Some key) in
    let P2 : LinkStates = moved P1 (last_or keys None) f in
    let is2 : (other : ℕ) → Q other ≡ P2 other = λ other. is other ∙ ap (λ x. moved P1 x f other) o.ends in
    let a1 : IsChain P1 None keys None = IsChain-same P P1 None keys None (λ other h. same other (other_key keys other key h lacks)) o.chained in
    let a2 : IsChain P2 None keys (Some key) = relink_next P1 None keys None (Some key) o.apart a1 in
    let a3 : IsChain Q None keys (Some key) = IsChain-same P2 Q None keys (Some key) (λ other h. is2 other) a2 in
    let tail : Q key ≡ Some (Linked (last_or keys None) None) = is2 key ∙ moved_last_or P1 f key keys lacks ∙ stands ∙ ap (λ x. Some (Linked x None)) o.ends in
    record {
      starts = ap (λ x. end_after x (Some key) first) o.ends ∙ start_pushed keys key first o.starts;
      ends = sym (last_or-append keys (key ∷ []) None);
      counted = omega (arith, o.counted, length-append keys (key ∷ []));
      apart = Apart-join keys (key ∷ []) o.apart (refl, tt) (λ other h. rw (other_key keys other key h lacks) refl);
      chained = IsChain-join Q None keys (key ∷ []) None a3 (tail, tt);
      all = λ other h.
          has-append keys (key ∷ []) other ∙ elim (eqb_tells other key) [
            | inl equal ↦ or_right (has keys other) (has (key ∷ []) other) (rw equal.0 refl)
            | inr differs ↦
                or_left (has keys other) (has (key ∷ []) other) (o.all other (ap is_linked (sym (same other differs.0)) ∙ sym (ap is_linked (is2 other) ∙ linked_moved P1 (last_or keys None) f other (λ q. linked-next q (Some key))) ∙ h))
          ];
      in_range = λ other h.
          elim (eqb_tells other key) [
            | inl equal ↦ rw equal.1 within
            | inr differs ↦ o.in_range other (only_left (has keys other) (eqb other key) differs.0 (sym (has-append keys (key ∷ []) other) ∙ h))
          ];
    }
  where
    only_left : (a b : Bool) → b ≡ false → a || (b || false) ≡ true → a ≡ true
    only_left true b x h = refl
    only_left false b x h = cc

-- an entry outside the order leaves, and the order stays
pub stayed : (P P1 : LinkStates) (keys : List ℕ) (key : ℕ) (first last : Option ℕ) (len capacity : ℕ) → IsOrder P keys first last len capacity → is_linked (P key) ≡ false → ((other : ℕ) → eqb other key ≡ false → P1 other ≡ P other) → is_linked (P1 key) ≡ false → IsOrder P1 (without keys key) first last len capacity
stayed P P1 keys key first last len capacity o was same gone =
    let lacks : has keys key ≡ false = sym (has_is P keys first last len capacity key o) ∙ was in
    subst (λ ks. IsOrder P1 ks first last len capacity) (sym (without_fresh keys key lacks))
    (record {
      starts = o.starts;
      ends = o.ends;
      counted = o.counted;
      apart = o.apart;
      chained = IsChain-same P P1 None keys None (λ other h. same other (other_key keys other key h lacks)) o.chained;
      all = λ other h.
          elim (eqb_tells other key) [
            | inl equal ↦ absurd (not_both (is_linked (P1 key)) (ap (λ k. is_linked (P1 k)) (sym equal.1) ∙ h) gone)
            | inr differs ↦ o.all other (ap is_linked (sym (same other differs.0)) ∙ h)
          ];
      in_range = o.in_range;
    })

some_length : (keys : List ℕ) (key : ℕ) → has keys key ≡ true → 0 < length keys
some_length [] key h = absurd (cc)
some_length (first ∷ rest) key h = omega arith

-- where an entry is linked the order is not empty
pub not_empty : (P : LinkStates) (keys : List ℕ) (first last : Option ℕ) (len capacity : ℕ) (key : ℕ) → IsOrder P keys first last len capacity → is_linked (P key) ≡ true → 0 < len
not_empty P keys first last len capacity key o linked = rw o.counted (some_length keys key (o.all key linked))

pub len_within : (P : LinkStates) (keys : List ℕ) (first last : Option ℕ) (len capacity : ℕ) → IsOrder P keys first last len capacity → len ≤ capacity
len_within P keys first last len capacity o = rw o.counted (short keys capacity o.apart o.in_range)
