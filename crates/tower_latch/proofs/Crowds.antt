-- Crowds by key.
use Rattle.std.proofs.Common.{◌≡◌, ℕ, zero, suc, List, [], ◌∷◌, ◌++◌, refl, ap, sym, subst, ◌∙◌, ◌≤◌, ◌<◌, ◌+◌, ◌⊎◌, nat_lt, length, inl, inr, Some, arith}
use Rattle.std.proofs.lemmas.Bool.Decides.{eqb_tells}
use Rattle.std.proofs.lemmas.Bool.{cases_order}
use Rattle.std.proofs.lemmas.List.Sums.{sum_by_push, count_by-le-length}
use Rattle.tower_latch.specs.Guarded.{HandsOn, IsSame, Takes, at, crowded, some}
use Rattle.tower_latch.specs.Wakes.{IsNamed, IsSpared}
use Rattle.tower_latch.specs.declared.Wakes.{Wakes}
use Rattle.tower_latch.specs.declared.guarded.crowd.Waiter.{Waiter}

at_push : (waiters : List (List Waiter)) (key : ℕ) → at (waiters ++ [] ∷ []) key ≡ at waiters key
at_push [] zero = refl
at_push [] (suc key) = refl
at_push (crowd ∷ waiters) zero = refl
at_push (crowd ∷ waiters) (suc key) = at_push waiters key

-- there is a crowd more, in which nobody waits
pub same_push : (old waiters : List (List Waiter)) → IsSame old waiters → IsSame old (waiters ++ [] ∷ [])
same_push old waiters same = (omega (arith, sum_by_push some waiters [], same.0), λ key. at_push waiters key ∙ same.1 key)

-- at no more keys than there are
pub crowded_fits : (waiters : List (List Waiter)) → crowded waiters ≤ length waiters
crowded_fits waiters = count_by-le-length (λ crowd. nat_lt 0 (length crowd)) waiters

-- ---- lists of those who were taken, one behind the other

beyond : (crowds : List (List Waiter)) → at crowds (length crowds) ≡ []
beyond [] = refl
beyond (crowd ∷ crowds) = beyond crowds

-- each list in front stays somewhere
pub in_front : (crowds more : List (List Waiter)) (place : ℕ) → (now : ℕ) × (at (crowds ++ more) now ≡ at crowds place)
in_front [] more place = (length more, beyond more)
in_front (crowd ∷ crowds) more zero = (zero, refl)
in_front (crowd ∷ crowds) more (suc place) = let there = in_front crowds more place in (suc there.0, there.1)

pub behind : (crowds more : List (List Waiter)) (place : ℕ) → (now : ℕ) × (at (crowds ++ more) now ≡ at more place)
behind [] more place = (place, refl)
behind (crowd ∷ crowds) more place = let there = behind crowds more place in (suc there.0, there.1)

-- ---- those who are named are taken, key by key, except whoever is passed over

-- Whoever waited still waits, or was taken. Below this key, whoever still waits is passed over.
pub record Sifts (stalls : ℕ → Type 0) (old now taken : List (List Waiter)) (next : ℕ) : Type 0 where
  pub hands : HandsOn old now (Some taken)
  pub sifted : (key : ℕ) → key < next → (at now key ≡ []) ⊎ stalls key

module _ (stalls : ℕ → Type 0) (old : List (List Waiter)) where
  pub sifts_none : (now taken : List (List Waiter)) → now ≡ old → Sifts stalls old now taken 0
  sifts_none now taken same = record { hands = λ key. inl (ap (λ (w : List (List Waiter)). at w key) same); sifted = λ key before. absurd (omega arith) }

  module _ (now new taken : List (List Waiter)) (next : ℕ) (sifts : Sifts stalls old now taken next)
      (settled : (at new next ≡ []) ⊎ stalls next) (others : (key : ℕ) → (at new key ≡ at now key) ⊎ (next ≡ key)) where
    sifted_on : (key : ℕ) → key < next + 1 → (at new key ≡ []) ⊎ stalls key
    sifted_on key before = elim (eqb_tells key next) [
      | inl it ↦ subst (λ (k : ℕ). (at new k ≡ []) ⊎ stalls k) (sym it.1) settled
      | inr differs ↦ elim (others key) [
        | inl same ↦ elim (sifts.sifted key (omega (arith, before, differs.1))) [ inl none ↦ inl (same ∙ none) | inr s ↦ inr s ]
        | inr it ↦ absurd (differs.1 (sym it))
      ]
    ]

    -- the key stalls, or nobody waits there
    pub sifts_on : at new next ≡ at now next → Sifts stalls old new taken (next + 1)
    sifts_on stays = record { hands = λ key. pick key (same key (others key)) (sifts.hands key); sifted = sifted_on }
      where
        same : (key : ℕ) → (at new key ≡ at now key) ⊎ (next ≡ key) → at new key ≡ at now key
        same key (inl s) = s
        same key (inr it) = subst (λ (k : ℕ). at new k ≡ at now k) it stays

        pick : (key : ℕ) → at new key ≡ at now key → (at now key ≡ at old key) ⊎ ((at now key ≡ []) × ((place : ℕ) × (at taken place ≡ at old key)))
            → (at new key ≡ at old key) ⊎ ((at new key ≡ []) × ((place : ℕ) × (at taken place ≡ at old key)))
        pick key s (inl kept) = inl (s ∙ kept)
        pick key s (inr gone) = inr (s ∙ gone.0, gone.1)

    -- those who wait at the key are taken
    pub sifts_taken : (one : List Waiter) → at new next ≡ [] → one ≡ at now next → Sifts stalls old new (taken ++ one ∷ []) (next + 1)
    sifts_taken one none is = record { hands = λ key. pick key (others key) (sifts.hands key); sifted = sifted_on }
      where
        moved : (key : ℕ) → (place : ℕ) × (at taken place ≡ at old key) → (place : ℕ) × (at (taken ++ one ∷ []) place ≡ at old key)
        moved key there = let now_at = in_front taken (one ∷ []) there.0 in (now_at.0, now_at.1 ∙ there.1)

        last : (key : ℕ) → at now key ≡ at old key → next ≡ key → (place : ℕ) × (at (taken ++ one ∷ []) place ≡ at old key)
        last key kept it = let at_last = behind taken (one ∷ []) 0 in (at_last.0, at_last.1 ∙ is ∙ ap (at now) it ∙ kept)

        pick : (key : ℕ) → (at new key ≡ at now key) ⊎ (next ≡ key) → (at now key ≡ at old key) ⊎ ((at now key ≡ []) × ((place : ℕ) × (at taken place ≡ at old key)))
            → (at new key ≡ at old key) ⊎ ((at new key ≡ []) × ((place : ℕ) × (at (taken ++ one ∷ []) place ≡ at old key)))
        pick key (inl s) (inl kept) = inl (s ∙ kept)
        pick key (inl s) (inr gone) = inr (s ∙ gone.0, moved key gone.1)
        pick key (inr it) (inl kept) = inr (subst (λ (k : ℕ). at new k ≡ []) it none, last key kept it)
        pick key (inr it) (inr gone) = inr (subst (λ (k : ℕ). at new k ≡ []) it none, moved key gone.1)

past : (crowds : List (List Waiter)) (key : ℕ) → length crowds ≤ key → at crowds key ≡ []
past [] key le = refl
past (crowd ∷ crowds) zero le = absurd (omega arith)
past (crowd ∷ crowds) (suc key) le = past crowds key (omega arith)

module _ (stalls : ℕ → Type 0) (wakes : Wakes) (named : (key : ℕ) → IsNamed wakes key) (old now taken crowds : List (List Waiter)) (next : ℕ)
    (sifts : Sifts (IsSpared stalls wakes) old now taken next) where
  -- all keys were looked at
  pub sifted_all : length now ≤ next → crowds ≡ taken ++ [] → Takes stalls old wakes (Some crowds) now
  sifted_all all is = (
    (λ key name. elim (cases_order next key) [
      | inl same ↦ inl (past now key (omega (arith, same, all)))
      | inr other ↦ elim other [ inl beyond ↦ inl (past now key (omega (arith, beyond, all))) | inr before ↦ sifts.sifted key before ]
    ]),
    (λ key. pick key (sifts.hands key)),
    (λ key. inr (named key)),
  )
    where
      pick : (key : ℕ) → (at now key ≡ at old key) ⊎ ((at now key ≡ []) × ((place : ℕ) × (at taken place ≡ at old key)))
          → (at now key ≡ at old key) ⊎ ((at now key ≡ []) × ((place : ℕ) × (at crowds place ≡ at old key)))
      pick key (inl kept) = inl kept
      pick key (inr gone) =
          let there = in_front taken [] gone.1.0 in
          inr (gone.0, (there.0, ap (λ (w : List (List Waiter)). at w there.0) is ∙ there.1 ∙ gone.1.1))

  -- there was no memory for more, so all others are taken
  pub sifted_rest : (new : List (List Waiter)) → new ≡ [] → crowds ≡ taken ++ now → Takes stalls old wakes (Some crowds) new
  sifted_rest new left is = ((λ key name. inl (none key)), (λ key. inr (none key, pick key (sifts.hands key))), (λ key. inr (named key)))
    where
      none : (key : ℕ) → at new key ≡ []
      none key = ap (λ (w : List (List Waiter)). at w key) left

      pick : (key : ℕ) → (at now key ≡ at old key) ⊎ ((at now key ≡ []) × ((place : ℕ) × (at taken place ≡ at old key)))
          → (place : ℕ) × (at crowds place ≡ at old key)
      pick key (inl kept) = let there = behind taken now key in (there.0, ap (λ (w : List (List Waiter)). at w there.0) is ∙ there.1 ∙ kept)
      pick key (inr gone) = let there = in_front taken now gone.1.0 in (there.0, ap (λ (w : List (List Waiter)). at w there.0) is ∙ there.1 ∙ gone.1.1)
