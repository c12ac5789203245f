-- What the calls of `Links` keep, over plain slabs and ends.
use Rattle.std.proofs.Common.{◌≡◌, ℕ, ◌+◌, ◌<◌, ◌≤◌, true, false, eqb, [], ◌∷◌, ◌++◌, length, Option, Some, None, refl, sym, ap, subst, ◌∙◌}
use Rattle.std.proofs.Common.{OnSome, IfNone, IsSome, arith}
use Rattle.slab.specs.Slab.{Slab, get, slab_len, ContainsKey, Updates, with_value}
use Rattle.slab.proofs.SlabLemmas.{Updates-with_value}
use Rattle.tower_base.specs.declared.links.cells.LinkState.{LinkState}
use Rattle.tower_base.specs.declared.links.cells.LinkState.TheVariants.{Linked, Outside}
use Rattle.tower_base.specs.declared.links.cells.Entry.{Entry}
use Rattle.tower_base.specs.declared.links.Ends.{Ends}
use Rattle.tower_base.specs.Cells.{entry, place_of, value_of, place_at, values_of, with_place, bypassed}
use Rattle.tower_base.specs.Order.{has, without, moved, place_map, is_linked, with_next, IsOrder}
use Rattle.tower_base.specs.Ends.{left_ends, pushed_ends, order_of, IsSound, left_slab, pushed_slab}
use Rattle.tower_base.proofs.OrderLemmas.{order_is, has_is, IsOrder-same, unlinked, pushed, stayed, not_empty, len_within, moved_same, moved_other}
use Rattle.tower_base.proofs.CellsLemmas.{bypassed_values, bypassed_is, with_place_at_values, with_place_at_is, with_place_is, with_place_values, value_at_key, len_of_values, len_of_replaced, replaced_places, Updates-places, Updates-values}

outside_unlinked : (q : Option LinkState) → is_linked (place_map (λ _. Outside) q) ≡ false
outside_unlinked None = refl
outside_unlinked (Some p) = refl

module _ {T : Type 0} where
  pub sound_has : (s : Slab (Entry T)) (e : Ends) (key : ℕ) → IsSound s e → is_linked (place_at s key) ≡ has (order_of s e) key
  sound_has s e key o =
      has_is (place_at s) o.0 e.first e.last e.len s.capacity key o.1 ∙ ap (λ ks. has ks key) (sym (order_is (place_at s) o.0 e.first e.last e.len s.capacity o.1))

  pub sound_not_empty : (s : Slab (Entry T)) (e : Ends) (key : ℕ) → IsSound s e → is_linked (place_at s key) ≡ true → 0 < e.len
  sound_not_empty s e key o linked = not_empty (place_at s) o.0 e.first e.last e.len s.capacity key o.1 linked

  pub sound_len : (s : Slab (Entry T)) (e : Ends) → IsSound s e → e.len ≡ length (order_of s e)
  sound_len s e o = o.1.counted ∙ ap length (sym (order_is (place_at s) o.0 e.first e.last e.len s.capacity o.1))

  -- the keys that a sound slab has are the chain's
  ordered : (s : Slab (Entry T)) (e : Ends) → IsSound s e → IsOrder (place_at s) (order_of s e) e.first e.last e.len s.capacity
  ordered s e o =
      subst (λ ks. IsOrder (place_at s) ks e.first e.last e.len s.capacity) (sym (order_is (place_at s) o.0 e.first e.last e.len s.capacity o.1)) o.1

  left_at : (s s1 : Slab (Entry T)) (key : ℕ) (e : Ends) (place : Option LinkState) → place_at s key ≡ place → IsSound s e → ((other : ℕ) → eqb other key ≡ false → place_at s1 other ≡ place_at s other) → is_linked (place_at s1 key) ≡ false → IsOrder (place_at (left_slab s1 place)) (without (order_of s e) key) (left_ends place e).first (left_ends place e).last (left_ends place e).len s.capacity
  left_at s s1 key e None is o same gone =
      stayed (place_at s) (place_at s1) (order_of s e) key e.first e.last e.len s.capacity (ordered s e o) (ap is_linked is) same gone
  left_at s s1 key e (Some Outside) is o same gone =
      stayed (place_at s) (place_at s1) (order_of s e) key e.first e.last e.len s.capacity (ordered s e o) (ap is_linked is) same gone
  left_at s s1 key e (Some (Linked previous next)) is o same gone =
      unlinked (place_at s) (place_at s1) (place_at (bypassed s1 previous next)) (order_of s e) key e.first e.last previous next e.len s.capacity (ordered s e o) is same gone (bypassed_is s1 previous next)

  left_values : (s1 : Slab (Entry T)) (place : Option LinkState) → values_of (left_slab s1 place) ≡ values_of s1
  left_values s1 None = refl
  left_values s1 (Some Outside) = refl
  left_values s1 (Some (Linked previous next)) = bypassed_values s1 previous next

  -- what stays where the entry at the key left the order
  pub record Left (s s1 s2 : Slab (Entry T)) (e e2 : Ends) (key : ℕ) : Type 0 where
    pub sound : IsSound s2 e2
    pub order : order_of s2 e2 ≡ without (order_of s e) key
    pub values : values_of s2 ≡ values_of s1

  pub left : (s s1 s2 : Slab (Entry T)) (e e2 : Ends) (key : ℕ) (place : Option LinkState) → IsSound s e → place ≡ place_at s key → ((other : ℕ) → eqb other key ≡ false → place_at s1 other ≡ place_at s other) → is_linked (place_at s1 key) ≡ false → s1.capacity ≡ s.capacity → s2 ≡ left_slab s1 place → e2 ≡ left_ends place e → Left s s1 s2 e e2 key
  left s s1 s2 e e2 key place o stood same gone capacity is ends =
      let order : IsOrder (place_at (left_slab s1 place)) (without (order_of s e) key) (left_ends place e).first (left_ends place e).last (left_ends place e).len s.capacity = left_at s s1 key e place (sym stood) o same gone in
      let larger : s.capacity ≡ (left_slab s1 place).capacity = sym (ap (λ v. v.capacity) (left_values s1 place) ∙ capacity) in
      let now : IsOrder (place_at (left_slab s1 place)) (without (order_of s e) key) (left_ends place e).first (left_ends place e).last (left_ends place e).len (left_slab s1 place).capacity =
      subst (λ n. IsOrder (place_at (left_slab s1 place)) (without (order_of s e) key) (left_ends place e).first (left_ends place e).last (left_ends place e).len n) larger order in
      rw (is, ends) (record {
        sound = (without (order_of s e) key, now);
        order = order_is (place_at (left_slab s1 place)) (without (order_of s e) key) (left_ends place e).first (left_ends place e).last (left_ends place e).len (left_slab s1 place).capacity now;
        values = left_values s1 place;
      })

  -- what holds where an entry came to the end of the order
  pub record Pushed (s s1 s2 : Slab (Entry T)) (e e2 : Ends) (key : ℕ) : Type 0 where
    pub sound : IsSound s2 e2
    pub order : order_of s2 e2 ≡ order_of s e ++ key ∷ []
    pub values : values_of s2 ≡ values_of s1

  pub pushed_order : (s s1 : Slab (Entry T)) (e : Ends) (key : ℕ) (value : T) → IsSound s e → get s key ≡ None → Updates s s1 key (Some (entry value (Linked e.last None))) → s1.capacity ≡ s.capacity → key < s1.capacity → IsOrder (place_at (pushed_slab s1 key e)) (order_of s e ++ key ∷ []) (pushed_ends key e).first (pushed_ends key e).last (pushed_ends key e).len s.capacity
  pushed_order s s1 e key value o vacant updates capacity within =
      pushed (place_at s) (place_at s1) (place_at (pushed_slab s1 key e)) (order_of s e) key e.first e.last e.len s.capacity (ordered s e o)
      (ap place_of vacant) (ap place_of updates.changed) (Updates-places s s1 key _ updates) (subst (λ n. key < n) capacity within) (with_place_at_is s1 e.last (with_next (Some key)))

  -- the length of the order grows within the capacity
  pub pushed_fits : (s s1 : Slab (Entry T)) (e : Ends) (key : ℕ) (value : T) → IsSound s e → get s key ≡ None → Updates s s1 key (Some (entry value (Linked e.last None))) → s1.capacity ≡ s.capacity → key < s1.capacity → e.len + 1 ≤ s.capacity
  pushed_fits s s1 e key value o vacant updates capacity within =
      len_within (place_at (pushed_slab s1 key e)) (order_of s e ++ key ∷ []) (pushed_ends key e).first (pushed_ends key e).last (e.len + 1) s.capacity (pushed_order s s1 e key value o vacant updates capacity within)

  pub pushed_all : (s s1 s2 : Slab (Entry T)) (e e2 : Ends) (key : ℕ) (value : T) → IsSound s e → get s key ≡ None → Updates s s1 key (Some (entry value (Linked e.last None))) → s1.capacity ≡ s.capacity → key < s1.capacity → s2 ≡ pushed_slab s1 key e → e2 ≡ pushed_ends key e → Pushed s s1 s2 e e2 key
  pushed_all s s1 s2 e e2 key value o vacant updates capacity within is ends =
      let values : values_of (pushed_slab s1 key e) ≡ values_of s1 = with_place_at_values s1 e.last (with_next (Some key)) in
      let larger : s.capacity ≡ (pushed_slab s1 key e).capacity = sym (ap (λ v. v.capacity) values ∙ capacity) in
      let now : IsOrder (place_at (pushed_slab s1 key e)) (order_of s e ++ key ∷ []) (pushed_ends key e).first (pushed_ends key e).last (pushed_ends key e).len (pushed_slab s1 key e).capacity =
      subst (λ n. IsOrder (place_at (pushed_slab s1 key e)) (order_of s e ++ key ∷ []) (pushed_ends key e).first (pushed_ends key e).last (pushed_ends key e).len n) larger (pushed_order s s1 e key value o vacant updates capacity within) in
      rw (is, ends) (record {
        sound = (order_of s e ++ key ∷ [], now);
        order = order_is (place_at (pushed_slab s1 key e)) (order_of s e ++ key ∷ []) (pushed_ends key e).first (pushed_ends key e).last (pushed_ends key e).len (pushed_slab s1 key e).capacity now;
        values = values;
      })

  -- the entry was put outside the order
  pub put_left : (s s1 s2 : Slab (Entry T)) (e e2 : Ends) (key : ℕ) (place : Option LinkState) → IsSound s e → place ≡ place_at s key → s1 ≡ with_place s key (λ _. Outside) → s2 ≡ left_slab s1 place → e2 ≡ left_ends place e → Left s s s2 e e2 key
  put_left s s1 s2 e e2 key place o stood put is ends =
      let at : (other : ℕ) → place_at s1 other ≡ moved (place_at s) (Some key) (λ _. Outside) other = λ other. ap (λ t. place_at t other) put ∙ with_place_is s key (λ _. Outside) other in
      let values : values_of s1 ≡ values_of s = ap values_of put ∙ with_place_values s key (λ _. Outside) in
      let l : Left s s1 s2 e e2 key =
      left s s1 s2 e e2 key place o stood
      (λ other differs. at other ∙ moved_other (place_at s) key other (λ _. Outside) differs)
      (ap is_linked (at key ∙ moved_same (place_at s) key (λ _. Outside)) ∙ outside_unlinked (place_at s key))
      (ap (λ v. v.capacity) values) is ends in
      record { sound = l.sound; order = l.order; values = l.values ∙ values }

  -- the entry was removed
  pub removed_left : (s s1 s2 : Slab (Entry T)) (e e2 : Ends) (key : ℕ) (place : Option LinkState) → IsSound s e → place ≡ place_at s key → Updates s s1 key None → s1.capacity ≡ s.capacity → s2 ≡ left_slab s1 place → e2 ≡ left_ends place e → Left s s1 s2 e e2 key
  removed_left s s1 s2 e e2 key place o stood updates capacity is ends =
      left s s1 s2 e e2 key place o stood (Updates-places s s1 key None updates) (ap (λ slot. is_linked (place_of slot)) updates.changed) capacity is ends

  pub Updates-along : (a b c d : Slab T) (key : ℕ) (slot : Option T) → a ≡ b → c ≡ d → Updates a c key slot → Updates b d key slot
  Updates-along a b c d key slot p q u = rw (← p, ← q) u

  pub IfNone-values : (r : Option (Entry T)) (x : Option T) (P Q : Type 0) → x ≡ value_of r → (P → Q) → IfNone r P → IfNone x Q
  IfNone-values None x P Q is go h = rw is (go h)
  IfNone-values (Some e) x P Q is go h = rw is tt

  pub OnSome-values : (r : Option (Entry T)) (x : Option T) (P Q : Type 0) → x ≡ value_of r → (P → Q) → OnSome r P → OnSome x Q
  OnSome-values None x P Q is f h = rw is tt
  OnSome-values (Some e) x P Q is f h = rw is (f h)

  -- what holds where more room was made
  pub record Reserved (s s2 : Slab (Entry T)) (e : Ends) : Type 0 where
    pub sound : IsSound s2 e
    pub order : order_of s2 e ≡ order_of s e

  pub reserved : (s s2 : Slab (Entry T)) (e : Ends) → IsSound s e → s2 ≡ record s { capacity = s2.capacity } → s.capacity ≤ s2.capacity → Reserved s s2 e
  reserved s s2 e o is grows =
      let now : IsOrder (place_at s2) (order_of s e) e.first e.last e.len s2.capacity =
      IsOrder-same (place_at s) (place_at s2) (order_of s e) e.first e.last e.len s.capacity s2.capacity (λ key. ap (λ t. place_at t key) is) grows (ordered s e o) in
      record { sound = (order_of s e, now); order = order_is (place_at s2) (order_of s e) e.first e.last e.len s2.capacity now }

  -- what holds where an entry has another value
  pub record Replaced (s s2 : Slab (Entry T)) (e : Ends) (key : ℕ) (value result : T) : Type 0 where
    pub sound : IsSound s2 e
    pub order : order_of s2 e ≡ order_of s e
    pub value_was : get (values_of s) key ≡ Some result
    pub updates : Updates (values_of s) (values_of s2) key (Some value)
    pub len : slab_len (values_of s2) ≡ slab_len (values_of s)
    pub capacity : s2.capacity ≡ s.capacity

  replaced_at : (s s2 : Slab (Entry T)) (e : Ends) (key : ℕ) (value result : T) (old : Entry T) → get s key ≡ Some old → IsSound s e → result ≡ old.value → s2 ≡ with_value s key (entry value old.place) → Replaced s s2 e key value result
  replaced_at s s2 e key value result old at o was is =
      let u : Updates s (with_value s key (entry value old.place)) key (Some (entry value old.place)) = Updates-with_value s key (entry value old.place) (rw at refl) in
      let now : IsOrder (place_at (with_value s key (entry value old.place))) (order_of s e) e.first e.last e.len s.capacity =
      IsOrder-same (place_at s) (place_at (with_value s key (entry value old.place))) (order_of s e) e.first e.last e.len s.capacity s.capacity (replaced_places s key old value at) (omega arith) (ordered s e o) in
      rw is (record {
        sound = (order_of s e, now);
        order = order_is (place_at (with_value s key (entry value old.place))) (order_of s e) e.first e.last e.len s.capacity now;
        value_was = value_at_key s key ∙ ap value_of at ∙ ap (λ x. Some x) (sym was);
        updates = Updates-values s (with_value s key (entry value old.place)) key (Some (entry value old.place)) u;
        len = len_of_values (with_value s key (entry value old.place)) ∙ len_of_replaced s key old (entry value old.place) at ∙ sym (len_of_values s);
        capacity = refl;
      })

  by_entry : (s s2 : Slab (Entry T)) (e : Ends) (key : ℕ) (value result : T) (slot : Option (Entry T)) → get s key ≡ slot → ContainsKey s key → IsSound s e
      → ((old : Entry T) → get s key ≡ Some old → result ≡ old.value) → ((old : Entry T) → get s key ≡ Some old → s2 ≡ with_value s key (entry value old.place)) → Replaced s s2 e key value result
  by_entry s s2 e key value result None at present o was is = absurd (cc)
  by_entry s s2 e key value result (Some old) at present o was is = replaced_at s s2 e key value result old at o (was old at) (is old at)

  pub replaced : (s s2 : Slab (Entry T)) (e : Ends) (key : ℕ) (value result : T) → ContainsKey s key → IsSound s e
      → ((old : Entry T) → get s key ≡ Some old → result ≡ old.value) → ((old : Entry T) → get s key ≡ Some old → s2 ≡ with_value s key (entry value old.place)) → Replaced s s2 e key value result
  replaced s s2 e key value result present o was is = by_entry s s2 e key value result (get s key) refl present o was is

  kept_key : (slot : Option (Entry T)) → IsSome (value_of slot) → IsSome slot
  kept_key None present = absurd (cc)
  kept_key (Some old) present = refl

  -- a key has an entry where it has a value
  pub has_entry : (s : Slab (Entry T)) (key : ℕ) → ContainsKey (values_of s) key → ContainsKey s key
  has_entry s key present = kept_key (get s key) (rw (sym (value_at_key s key)) present)
