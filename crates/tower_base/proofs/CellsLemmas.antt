-- Lemmas on a slab of entries: its places, and its values alone.
use Rattle.std.proofs.Common.{◌≡◌, ℕ, zero, suc, Bool, true, false, eqb, cond, List, [], ◌∷◌, map, set, get_or, Option, Some, None, is_some, count_by, refl, sym, ap, ◌∙◌, inl, inr, arith}
use Rattle.std.proofs.lemmas.Bool.Decides.{eqb_tells}
use Rattle.std.proofs.lemmas.List.Sums.{sum_by-cons}
use Rattle.std.proofs.Math.ListN.{get_or-map}
use Rattle.slab.specs.Slab.{Slab, get, with_value, Updates, slab_len}
use Rattle.slab.proofs.SlabLemmas.{Updates-with_value}
use Rattle.tower_base.specs.declared.links.cells.LinkState.{LinkState}
use Rattle.tower_base.specs.declared.links.cells.Entry.{Entry}
use Rattle.tower_base.specs.Cells.{entry, place_of, value_of, place_at, values_of, with_place_if, with_place, with_place_at, bypassed}
use Rattle.tower_base.specs.Order.{LinkStates, moved, place_map, with_next, with_previous}
use Rattle.tower_base.proofs.OrderLemmas.{moved_same, moved_other}

abbrev the_none : (X : Type 0) → Option X
the_none X = None

moved_along : (P Q : LinkStates) (at : Option ℕ) (f : LinkState → LinkState) (other : ℕ) → P other ≡ Q other → moved P at f other ≡ moved Q at f other
moved_along P Q None f other same = same
moved_along P Q (Some key) f other same = ap (λ q. cond (eqb other key) (place_map f q) q) same

module _ {T : Type 0} where
  pub value_at_key : (s : Slab (Entry T)) (key : ℕ) → get (values_of s) key ≡ value_of (get s key)
  value_at_key s key = get_or-map value_of s.slots key None

  count_values : (slots : List (Option (Entry T))) → count_by is_some (map value_of slots) ≡ count_by is_some slots
  count_values [] = refl
  count_values (None ∷ rest) =
      omega (arith, count_values rest, sum_by-cons (λ o. cond (is_some o) 1 0) (the_none (Entry T)) rest, sum_by-cons (λ o. cond (is_some o) 1 0) (the_none T) (map value_of rest))
  count_values (Some e ∷ rest) =
      omega (arith, count_values rest, sum_by-cons (λ o. cond (is_some o) 1 0) (Some e) rest, sum_by-cons (λ o. cond (is_some o) 1 0) (Some e.value) (map value_of rest))

  pub len_of_values : (s : Slab (Entry T)) → slab_len (values_of s) ≡ slab_len s
  len_of_values s = count_values s.slots

  pub Updates-values : (old new : Slab (Entry T)) (key : ℕ) (slot : Option (Entry T)) → Updates old new key slot → Updates (values_of old) (values_of new) key (value_of slot)
  Updates-values old new key slot u =
      record {
        changed = value_at_key new key ∙ ap value_of u.changed;
        others = λ other differs. value_at_key new other ∙ ap value_of (u.others other differs) ∙ sym (value_at_key old other);
      }

  -- an update leaves the places of the other keys
  pub Updates-places : (old new : Slab (Entry T)) (key : ℕ) (slot : Option (Entry T)) → Updates old new key slot → (other : ℕ) → eqb other key ≡ false → place_at new other ≡ place_at old other
  Updates-places old new key slot u other differs =
      elim (eqb_tells other key) [
        | inl equal ↦ absurd (clash (eqb other key) equal.0 differs)
        | inr apart ↦ ap place_of (u.others other apart.1)
      ]
    where
      clash : (b : Bool) → b ≡ true → b ≡ false → ⊥
      clash b x y = cc

  with_place_if_at : (s : Slab (Entry T)) (key : ℕ) (f : LinkState → LinkState) (slot : Option (Entry T)) → get s key ≡ slot → (other : ℕ) → place_at (with_place_if s key f slot) other ≡ moved (place_at s) (Some key) f other
  with_place_if_at s key f None is other =
      elim (eqb_tells other key) [
        | inl equal ↦
            let vacant : place_at s other ≡ None = ap (place_at s) equal.1 ∙ ap place_of is in
            rw (equal.0, vacant) refl
        | inr apart ↦ rw apart.0 refl
      ]
  with_place_if_at s key f (Some e) is other =
      let u : Updates s (with_value s key (entry e.value (f e.place))) key (Some (entry e.value (f e.place))) =
      Updates-with_value s key (entry e.value (f e.place)) (rw is refl) in
      elim (eqb_tells other key) [
        | inl equal ↦
            ap (place_at (with_value s key (entry e.value (f e.place)))) equal.1 ∙ ap place_of u.changed
            ∙ sym (ap (moved (place_at s) (Some key) f) equal.1 ∙ moved_same (place_at s) key f ∙ ap (λ slot. place_map f (place_of slot)) is)
        | inr apart ↦ ap place_of (u.others other apart.1) ∙ sym (moved_other (place_at s) key other f apart.0)
      ]

  pub with_place_is : (s : Slab (Entry T)) (key : ℕ) (f : LinkState → LinkState) (other : ℕ) → place_at (with_place s key f) other ≡ moved (place_at s) (Some key) f other
  with_place_is s key f other = with_place_if_at s key f (get s key) refl other

  same_set : (slots : List (Option (Entry T))) (key : ℕ) (e : Entry T) (place : LinkState) → get_or slots key None ≡ Some e → map value_of (set slots key (Some (entry e.value place))) ≡ map value_of slots
  same_set [] key e place is = refl
  same_set (slot ∷ rest) zero e place is = ap (λ v. v ∷ map value_of rest) (sym (ap value_of is))
  same_set (slot ∷ rest) (suc key) e place is = ap (λ vs. value_of slot ∷ vs) (same_set rest key e place is)

  with_place_if_values : (s : Slab (Entry T)) (key : ℕ) (f : LinkState → LinkState) (slot : Option (Entry T)) → get s key ≡ slot → values_of (with_place_if s key f slot) ≡ values_of s
  with_place_if_values s key f None is = refl
  with_place_if_values s key f (Some e) is =
      ap (λ vs. record { slots = vs; vacant_key = s.vacant_key; capacity = s.capacity }) (same_set s.slots key e (f e.place) is)

  -- a change of places leaves the values
  pub with_place_values : (s : Slab (Entry T)) (key : ℕ) (f : LinkState → LinkState) → values_of (with_place s key f) ≡ values_of s
  with_place_values s key f = with_place_if_values s key f (get s key) refl

  pub with_place_at_values : (s : Slab (Entry T)) (at : Option ℕ) (f : LinkState → LinkState) → values_of (with_place_at s at f) ≡ values_of s
  with_place_at_values s None f = refl
  with_place_at_values s (Some key) f = with_place_values s key f

  pub with_place_at_is : (s : Slab (Entry T)) (at : Option ℕ) (f : LinkState → LinkState) (other : ℕ) → place_at (with_place_at s at f) other ≡ moved (place_at s) at f other
  with_place_at_is s None f other = refl
  with_place_at_is s (Some key) f other = with_place_is s key f other

  pub bypassed_values : (s : Slab (Entry T)) (previous next : Option ℕ) → values_of (bypassed s previous next) ≡ values_of s
  bypassed_values s previous next =
      with_place_at_values (with_place_at s previous (with_next next)) next (with_previous previous) ∙ with_place_at_values s previous (with_next next)

  pub bypassed_is : (s : Slab (Entry T)) (previous next : Option ℕ) (other : ℕ) → place_at (bypassed s previous next) other ≡ moved (moved (place_at s) previous (with_next next)) next (with_previous previous) other
  bypassed_is s previous next other =
      with_place_at_is (with_place_at s previous (with_next next)) next (with_previous previous) other
      ∙ moved_along _ _ next (with_previous previous) other (with_place_at_is s previous (with_next next) other)

  count_set : (slots : List (Option (Entry T))) (key : ℕ) (old new : Entry T) → get_or slots key None ≡ Some old → count_by is_some (set slots key (Some new)) ≡ count_by is_some slots
  count_set [] key old new is = refl
  count_set (None ∷ rest) zero old new is = absurd (cc)
  count_set (Some e ∷ rest) zero old new is =
      omega (arith, sum_by-cons (λ o. cond (is_some o) 1 0) (Some e) rest, sum_by-cons (λ o. cond (is_some o) 1 0) (Some new) rest)
  count_set (slot ∷ rest) (suc key) old new is =
      omega (arith, count_set rest key old new is, sum_by-cons (λ o. cond (is_some o) 1 0) slot rest, sum_by-cons (λ o. cond (is_some o) 1 0) slot (set rest key (Some new)))

  -- an entry with another value, in the same place
  pub len_of_replaced : (s : Slab (Entry T)) (key : ℕ) (old new : Entry T) → get s key ≡ Some old → slab_len (with_value s key new) ≡ slab_len s
  len_of_replaced s key old new is = count_set s.slots key old new is

  pub replaced_places : (s : Slab (Entry T)) (key : ℕ) (old : Entry T) (value : T) → get s key ≡ Some old → (other : ℕ) → place_at (with_value s key (entry value old.place)) other ≡ place_at s other
  replaced_places s key old value is other =
      let u : Updates s (with_value s key (entry value old.place)) key (Some (entry value old.place)) = Updates-with_value s key (entry value old.place) (rw is refl) in
      elim (eqb_tells other key) [
        | inl equal ↦ ap (place_at (with_value s key (entry value old.place))) equal.1 ∙ ap place_of u.changed ∙ sym (ap (place_at s) equal.1 ∙ ap place_of is)
        | inr apart ↦ ap place_of (u.others other apart.1)
      ]
