-- What a cache keeps, after each change.
use Rattle.std.proofs.Common.{Result, Ok, Err, OnOk, OnErr, ℕ, zero, suc, ◌+◌, ◌≤◌, ◌≡◌, ◌∙◌, Bool, true, false, cond, not, ◌&&◌, ◌||◌, List, [], ◌∷◌, ◌++◌, Option, Some, None, is_some, length, length-append, slice_get, if◌then◌else◌, refl, sym, ap, subst, true≢false, unwrap_or, arith}
use Rattle.std.specs.Cmp.{IsEquivalence}
use Rattle.std.specs.List.{list_any}
use Rattle.std.specs.Map.{keys_of, lookup}
use Rattle.std.proofs.lemmas.List.Folds.{list_any-append}
use Rattle.std.proofs.lemmas.Map.Made.{is_some-lookup}
use Rattle.indexmap.specs.IndexMap.{insert_entry, set_value_at}
use Rattle.tower_pool.specs.ReadyCache.{Apart, CacheInvariant, PendingView, is_pending, cancel, put_back, pending_entry, is_entry_of}
use Rattle.tower_pool.specs.ReadyCachePoll.{rotated}
use Rattle.tower_pool.proofs.AskLemmas.{length-insert_entry}
use Rattle.tower_pool.proofs.PendingLemmas.{alike, apart_back, apart_cancel, apart_new, apart_push, length-cancel, length-put_back, none_after}
use Rattle.tower_pool.proofs.PlaceLemmas.{as_long}
use Rattle.tower_pool.proofs.PendingPlaces.{like}

-- what follows from what is known of an error
pub by_err : {X E : Type 0} {P Q : Type 0} → (r : Result X E) → (P → Q) → OnErr r P → OnErr r Q
by_err (Ok x) f h = tt
by_err (Err e) f h = f h

or_true : (b : Bool) → (b || true) ≡ true
or_true true = refl
or_true false = refl

or_none : (b : Bool) → (b || false) ≡ b
or_none true = refl
or_none false = refl

and_true : (b : Bool) → (b && true) ≡ b
and_true true = refl
and_true false = refl

and_false : (b : Bool) → (b && false) ≡ false
and_false true = refl
and_false false = refl

or_swap : (a b : Bool) → (a || b) ≡ (b || (a || false))
or_swap true true = refl
or_swap true false = refl
or_swap false true = refl
or_swap false false = refl

failed : (r w e s : Bool) → (e ≡ true → r ≡ s) → (e ≡ true → w ≡ false) → ((r || (e || w)) && not (e && not (s || false))) ≡ (r || w)
failed r w false s h n = and_true (r || w)
failed r w true s h n = by r s w (h refl) (n refl)
  where
    by : (r s w : Bool) → r ≡ s → w ≡ false → ((r || true) && not (not (s || false))) ≡ (r || w)
    by r s true e n = absurd (true≢false n)
    by true true false e n = refl
    by true false false e n = absurd (true≢false e)
    by false true false e n = absurd (true≢false (sym e))
    by false false false e n = refl

module _ {X : Type 0} where
  inserted : (e w : Bool) (o : Option X) (v : X) → (is_some o || (e || w)) ≡ (is_some (cond e (Some v) o) || w)
  inserted true w o v = or_true (is_some o)
  inserted false w o v = refl

  removed : (e w a : Bool) (o : Option X) → (e ≡ true → w ≡ a) → ((is_some o || w) && not (e && not a)) ≡ (is_some (cond e None o) || w)
  removed false w a o h = and_true (is_some o || w)
  removed true w a o h = by w a (h refl)
    where
      by : (w a : Bool) → w ≡ a → ((is_some o || w) && not (not a)) ≡ w
      by true true e = and_true (is_some o || true) ∙ or_true (is_some o)
      by true false e = absurd (true≢false e)
      by false true e = absurd (true≢false (sym e))
      by false false e = and_false (is_some o || false)

  evicted : (e w v : Bool) (o : Option X) → (e ≡ true → v ≡ false) → (e ≡ false → v ≡ w) → ((is_some o || w) && not e) ≡ (is_some (cond e None o) || v)
  evicted true w v o h n = and_false (is_some o || w) ∙ sym (h refl)
  evicted false w v o h n = and_true (is_some o || w) ∙ ap (λ b. is_some o || b) (sym (n refl))

  returned : (e w v : Bool) (o : Option X) → (e ≡ true → is_some o ≡ true) → (e ≡ true → v ≡ true) → (e ≡ false → v ≡ w) → (is_some o || w) ≡ (is_some (cond e None o) || v)
  returned true w v o h t n = ap (λ b. b || w) (h refl) ∙ sym (t refl)
  returned false w v o h t n = ap (λ b. is_some o || b) (sym (n refl))

pushed : (r e w v : Bool) → (e ≡ false → v ≡ w) → ((r || w) || e) ≡ (r || (v || (e || false)))
pushed r true w v h = or_true (r || w) ∙ sym (ap (λ b. r || b) (or_true v) ∙ or_true r)
pushed r false w v h = or_none (r || w) ∙ ap (λ b. r || b) (sym (or_none v ∙ h refl))

keys_written : {K S : Type 0} → (es : List (K × S)) (i : ℕ) (w : S) → keys_of (set_value_at es i w) ≡ keys_of es
keys_written [] i w = refl
keys_written (e ∷ es) zero w = refl
keys_written (e ∷ es) (suc i) w = ap (λ ks. e.0 ∷ ks) (keys_written es i w)

-- a write at an index leaves the keys that are there
pub known_written : {K S : Type 0} → (t : K → Bool) (es : List (K × S)) (i : ℕ) (w : S) → is_some (lookup t (set_value_at es i w)) ≡ is_some (lookup t es)
known_written t es i w = is_some-lookup t (set_value_at es i w) ∙ ap (list_any t) (keys_written es i w) ∙ sym (is_some-lookup t es)

module _ {K S : Type 0} (eq : K → K → Bool) (laws : IsEquivalence eq) where
  -- the key at an index is there
  pub known_at : (es : List (K × S)) (i : ℕ) (k : K) (s : S) → slice_get es i ≡ Some (k, s) → is_some (lookup (eq k) es) ≡ true
  known_at es i k s h = is_some-lookup (eq k) es ∙ by es i h
    where
      by : (es : List (K × S)) (i : ℕ) → slice_get es i ≡ Some (k, s) → list_any (eq k) (keys_of es) ≡ true
      by [] i h = absurd (true≢false (sym (ap is_some h)))
      by (e ∷ es) zero h = (λ j. eq k (unwrap_or (h j) e).0 || list_any (eq k) (keys_of es)) ∙ (λ j. laws.refl k j || list_any (eq k) (keys_of es))
      by (e ∷ es) (suc i) h = ap (λ b. eq k e.0 || b) (by es i h) ∙ or_true (eq k e.0)

  abbrev stays_with : (key k : K) (p : PendingView K S) (ps : List (PendingView K S)) → Bool → Bool → Type 0
  stays_with key k p ps c b = is_pending eq k (if not c && b then (record p { cancelled = true }) ∷ ps else p ∷ cancel eq key ps) ≡ (is_entry_of eq k p || is_pending eq k ps)

  -- a mark leaves the entries of other keys
  others_stay : (key k : K) (ps : List (PendingView K S)) → eq key k ≡ false → is_pending eq k (cancel eq key ps) ≡ is_pending eq k ps
  others_stay key k [] h = refl
  others_stay key k (p ∷ ps) h = by (others_stay key k ps h) p.cancelled refl (eq key p.key) refl
    where
      no : eq key p.key ≡ true → eq k p.key ≡ false
      no same = laws.symm k p.key ∙ sym (laws.congr key p.key k same) ∙ h

      by : is_pending eq k (cancel eq key ps) ≡ is_pending eq k ps → (c : Bool) → p.cancelled ≡ c → (b : Bool) → eq key p.key ≡ b → stays_with key k p ps p.cancelled (eq key p.key)
      by rest true c b e = subst (λ x. stays_with key k p ps x (eq key p.key)) (sym c) (ap (λ x. is_entry_of eq k p || x) rest)
      by rest false c true e = subst (λ x. stays_with key k p ps x (eq key p.key)) (sym c) (subst (stays_with key k p ps false) (sym e)
          (λ j. sym (ap (λ x. not p.cancelled && x) (no e) ∙ and_false (not p.cancelled)) j || is_pending eq k ps))
      by rest false c false e = subst (λ x. stays_with key k p ps x (eq key p.key)) (sym c) (subst (stays_with key k p ps false) (sym e) (ap (λ x. is_entry_of eq k p || x) rest))

  -- none of the key itself is left
  none_left : (key k : K) (ps : List (PendingView K S)) → Apart eq ps → eq key k ≡ true → is_pending eq k (cancel eq key ps) ≡ false
  none_left key k ps apart e = sym (alike eq laws key k (cancel eq key ps) e) ∙ none_after eq laws key ps apart

  pub apart_last : (p : PendingView K S) (ps : List (PendingView K S)) → Apart eq (p ∷ ps) → Apart eq (ps ++ p ∷ [])
  apart_last p ps h = by p.cancelled refl
    where
      silent : p.cancelled ≡ true → (qs : List (PendingView K S)) → Apart eq qs → Apart eq (qs ++ p ∷ [])
      silent c [] a = ((λ e. refl), tt)
      silent c (q ∷ qs) a = (λ e. list_any-append (is_entry_of eq q.key) qs (p ∷ []) ∙ (λ j. a.0 e j || ((not (c j) && eq q.key p.key) || false)), silent c qs a.1)

      by : (c : Bool) → p.cancelled ≡ c → Apart eq (ps ++ p ∷ [])
      by true c = silent c ps h.1
      by false c = apart_push eq laws ps p (h.0 c) h.1

  module _ (is_clone : K → K → Type 0) (ready : List (K × S)) (ps : List (PendingView K S)) (knows : K → Bool) (room : ℕ) (h : CacheInvariant eq is_clone ready ps knows room) where
    -- ready services change, and keys stay
    pub kept_written : (new : List (K × S)) → length new ≤ length ready → ((k : K) → is_some (lookup (eq k) new) ≡ is_some (lookup (eq k) ready)) → CacheInvariant eq is_clone new ps knows room
    kept_written new fewer same = record { clones = h.clones; apart = h.apart; known = λ k. h.known k ∙ ap (λ b. b || is_pending eq k ps) (sym (same k)); fits = omega (arith, fewer, h.fits) }

    -- whatever is written at an index
    pub kept_lent : (index : ℕ) (w : S) → CacheInvariant eq is_clone (set_value_at ready index w) ps knows room
    kept_lent index w = kept_written (set_value_at ready index w) (omega (arith, as_long ready index w)) (λ k. known_written (eq k) ready index w)

    module _ (key : K) (less : List (K × S)) (gone : (q : K) → lookup (eq q) less ≡ cond (eq key q) None (lookup (eq q) ready)) (now : List (PendingView K S)) (knows' : K → Bool) (wide : ℕ) (same : wide ≡ room) where
      -- a ready endpoint leaves
      pub kept_left : length less ≤ length ready → now ≡ ps → ((k : K) → knows' k ≡ (knows k && not (eq key k && not (is_pending eq key ps)))) → CacheInvariant eq is_clone less now knows' wide
      kept_left fewer is told = record {
        clones = h.clones;
        apart = subst (Apart eq) (sym is) h.apart;
        known = λ k. told k ∙ ap (λ b. b && not (eq key k && not (is_pending eq key ps))) (h.known k)
            ∙ removed (eq key k) (is_pending eq k ps) (is_pending eq key ps) (lookup (eq k) ready) (λ e. sym (alike eq laws key k ps e))
            ∙ (λ j. is_some (sym (gone k) j) || is_pending eq k (sym is j));
        fits = omega (arith, fewer, ap length is, same, h.fits);
      }

      -- both endpoints of a key leave
      pub kept_evicted : length less ≤ length ready → now ≡ cancel eq key ps → ((k : K) → knows' k ≡ (knows k && not (eq key k))) → CacheInvariant eq is_clone less now knows' wide
      kept_evicted fewer is told = record {
        clones = h.clones;
        apart = subst (Apart eq) (sym is) (apart_cancel eq key ps h.apart);
        known = λ k. told k ∙ ap (λ b. b && not (eq key k)) (h.known k)
            ∙ evicted (eq key k) (is_pending eq k ps) (is_pending eq k (cancel eq key ps)) (lookup (eq k) ready) (none_left key k ps h.apart) (others_stay key k ps)
            ∙ (λ j. is_some (sym (gone k) j) || is_pending eq k (sym is j));
        fits = omega (arith, fewer, ap length is, length-cancel eq key ps, same, h.fits);
      }

      -- a ready endpoint comes back
      pub kept_back : (s : S) → length less + 1 ≡ length ready → is_some (lookup (eq key) ready) ≡ true → now ≡ put_back eq key s ps → ((k : K) → knows' k ≡ knows k) → CacheInvariant eq is_clone less now knows' wide
      kept_back s fewer there is told = record {
        clones = h.clones;
        apart = subst (Apart eq) (sym is) (apart_back eq laws key s ps h.apart);
        known = λ k. told k ∙ h.known k
            ∙ returned (eq key k) (is_pending eq k ps) (is_pending eq k (put_back eq key s ps)) (lookup (eq k) ready) (λ e. ap is_some (sym (like eq laws ready key k e)) ∙ there) (joins k) (stays k)
            ∙ (λ j. is_some (sym (gone k) j) || is_pending eq k (sym is j));
        fits = omega (arith, fewer, ap length is, length-put_back eq laws key s ps, same, h.fits);
      }
        where
          joins : (k : K) → eq key k ≡ true → is_pending eq k (put_back eq key s ps) ≡ true
          joins k e = by (is_pending eq key ps) refl
            where
              by : (b : Bool) → is_pending eq key ps ≡ b → is_pending eq k (if b then ps else ps ++ pending_entry key s ∷ []) ≡ true
              by true t = sym (alike eq laws key k ps e) ∙ t
              by false t = list_any-append (is_entry_of eq k) ps (pending_entry key s ∷ []) ∙ (λ j. is_pending eq k ps || ((laws.symm k key ∙ e) j || false)) ∙ or_true (is_pending eq k ps)

          stays : (k : K) → eq key k ≡ false → is_pending eq k (put_back eq key s ps) ≡ is_pending eq k ps
          stays k e = by (is_pending eq key ps)
            where
              by : (b : Bool) → is_pending eq k (if b then ps else ps ++ pending_entry key s ∷ []) ≡ is_pending eq k ps
              by true = refl
              by false = list_any-append (is_entry_of eq k) ps (pending_entry key s ∷ []) ∙ (λ j. is_pending eq k ps || ((laws.symm k key ∙ e) j || false)) ∙ or_none (is_pending eq k ps)

    -- a new endpoint
    pub kept_pushed : (key : K) (s : S) (now : List (PendingView K S)) (knows' : K → Bool) (wide : ℕ) → now ≡ cancel eq key ps ++ pending_entry key s ∷ [] → ((k : K) → knows' k ≡ (knows k || eq key k))
        → length ps + (length ready + 1) ≤ wide → CacheInvariant eq is_clone ready now knows' wide
    kept_pushed key s now knows' wide is told fits = record {
      clones = h.clones;
      apart = subst (Apart eq) (sym is) (apart_new eq laws key s ps h.apart);
      known = λ k. told k ∙ ap (λ b. b || eq key k) (h.known k)
          ∙ pushed (is_some (lookup (eq k) ready)) (eq key k) (is_pending eq k ps) (is_pending eq k (cancel eq key ps)) (others_stay key k ps)
          ∙ (λ j. is_some (lookup (eq k) ready) || (is_pending eq k (cancel eq key ps) || (laws.symm key k j || false)))
          ∙ ap (λ b. is_some (lookup (eq k) ready) || b) (sym (list_any-append (is_entry_of eq k) (cancel eq key ps) (pending_entry key s ∷ [])) ∙ ap (is_pending eq k) (sym is));
      fits = omega (arith, ap length is, length-append (cancel eq key ps) (pending_entry key s ∷ []), length-cancel eq key ps, fits);
    }

    -- nothing but room
    pub kept_as : (now : List (PendingView K S)) (knows' : K → Bool) (wide : ℕ) → now ≡ ps → ((k : K) → knows' k ≡ knows k) → room ≤ wide → CacheInvariant eq is_clone ready now knows' wide
    kept_as now knows' wide is told more = record {
      clones = h.clones;
      apart = subst (Apart eq) (sym is) h.apart;
      known = λ k. told k ∙ h.known k ∙ (λ j. is_some (lookup (eq k) ready) || is_pending eq k (sym is j));
      fits = omega (arith, ap length is, more, h.fits);
    }

    -- a push, by its answer
    pub kept_push : {X E : Type 0} (r : Result X E) (key : K) (v : S) (now : List (PendingView K S)) (knows' : K → Bool) (wide more : ℕ) → OnOk r (now ≡ cancel eq key ps ++ pending_entry key v ∷ []) → OnOk r ((k : K) → knows' k ≡ (knows k || eq key k))
        → OnOk r (length ps + more ≤ wide) → more ≡ length ready + 1 → room ≤ wide → OnErr r (now ≡ ps) → OnErr r ((k : K) → knows' k ≡ knows k) → CacheInvariant eq is_clone ready now knows' wide
    kept_push (Ok x) key v now knows' wide more is told fits n wider same told_as = kept_pushed key v now knows' wide is told (omega (arith, n, fits))
    kept_push (Err e) key v now knows' wide more is told fits n wider same told_as = kept_as now knows' wide same told_as wider

    -- the first pending one is taken
    module _ (p : PendingView K S) (rest : List (PendingView K S)) (is : ps ≡ p ∷ rest) (es : List (K × S)) (now : List (PendingView K S)) (knows' : K → Bool) (wide : ℕ) (same : wide ≡ room) where
      both : Apart eq (p ∷ rest)
      both = subst (Apart eq) is h.apart

      known_first : (k : K) → knows k ≡ (is_some (lookup (eq k) ready) || (is_entry_of eq k p || is_pending eq k rest))
      known_first k = h.known k ∙ ap (λ l. is_some (lookup (eq k) ready) || is_pending eq k l) is

      -- a cancelled one
      pub kept_dropped : p.cancelled ≡ true → es ≡ ready → now ≡ rest → ((k : K) → knows' k ≡ knows k) → CacheInvariant eq is_clone es now knows' wide
      kept_dropped c e left told = record {
        clones = h.clones;
        apart = subst (Apart eq) (sym left) both.1;
        known = λ k. told k ∙ known_first k ∙ (λ j. is_some (lookup (eq k) (sym e j)) || ((not (c j) && eq k p.key) || is_pending eq k (sym left j)));
        fits = omega (arith, ap length e, ap length left, ap length is, same, h.fits);
      }

      -- one that goes last
      pub kept_last : (q : PendingView K S) → q.key ≡ p.key → q.cancelled ≡ p.cancelled → es ≡ ready → now ≡ rest ++ q ∷ [] → ((k : K) → knows' k ≡ knows k) → CacheInvariant eq is_clone es now knows' wide
      kept_last q key c e left told = record {
        clones = h.clones;
        apart = subst (Apart eq) (sym left) (apart_last q rest ((λ alive. ap (λ k. is_pending eq k rest) key ∙ both.0 (sym c ∙ alive)), both.1));
        known = λ k. told k ∙ known_first k ∙ ap (λ b. is_some (lookup (eq k) ready) || b) (or_swap (is_entry_of eq k p) (is_pending eq k rest))
            ∙ (λ j. is_some (lookup (eq k) (sym e j)) || (is_pending eq k rest || ((not (sym c j) && eq k (sym key j)) || false)))
            ∙ ap (λ b. is_some (lookup (eq k) es) || b) (sym (list_any-append (is_entry_of eq k) rest (q ∷ [])) ∙ ap (is_pending eq k) (sym left));
        fits = omega (arith, ap length e, ap length left, length-append rest (q ∷ []), ap length is, same, h.fits);
      }

      module _ (alive : p.cancelled ≡ false) where
        alone : is_pending eq p.key rest ≡ false
        alone = both.0 alive

        known_alive : (k : K) → knows k ≡ (is_some (lookup (eq k) ready) || (eq p.key k || is_pending eq k rest))
        known_alive k = known_first k ∙ (λ j. is_some (lookup (eq k) ready) || ((not (alive j) && laws.symm k p.key j) || is_pending eq k rest))

        -- one that is ready
        pub kept_inserted : (v : S) → es ≡ insert_entry eq ready p.key v → ((k : K) → lookup (eq k) es ≡ cond (eq p.key k) (Some v) (lookup (eq k) ready)) → now ≡ rest → ((k : K) → knows' k ≡ knows k) → CacheInvariant eq is_clone es now knows' wide
        kept_inserted v e put left told = record {
          clones = h.clones;
          apart = subst (Apart eq) (sym left) both.1;
          known = λ k. told k ∙ known_alive k ∙ inserted (eq p.key k) (is_pending eq k rest) (lookup (eq k) ready) v ∙ (λ j. is_some (sym (put k) j) || is_pending eq k (sym left j));
          fits = omega (arith, ap length e, length-insert_entry eq ready p.key v, ap length left, ap length is, same, h.fits);
        }

        -- one that failed
        pub kept_failed : (stays : Bool) → stays ≡ is_some (lookup (eq p.key) ready) → es ≡ ready → now ≡ rest → ((k : K) → knows' k ≡ (knows k && not (eq p.key k && not (stays || is_pending eq p.key rest))))
            → CacheInvariant eq is_clone es now knows' wide
        kept_failed stays there e left told = record {
          clones = h.clones;
          apart = subst (Apart eq) (sym left) both.1;
          known = λ k. told k ∙ (λ j. known_alive k j && not (eq p.key k && not (stays || alone j)))
              ∙ failed (is_some (lookup (eq k) ready)) (is_pending eq k rest) (eq p.key k) stays (λ same. ap is_some (sym (like eq laws ready p.key k same)) ∙ sym there) (λ same. sym (alike eq laws p.key k rest same) ∙ alone)
              ∙ (λ j. is_some (lookup (eq k) (sym e j)) || is_pending eq k (sym left j));
          fits = omega (arith, ap length e, ap length left, ap length is, same, h.fits);
        }

  -- the first ones go last
  pub kept_rotated : (is_clone : K → K → Type 0) (ready : List (K × S)) (ps : List (PendingView K S)) (knows : K → Bool) (room : ℕ) → CacheInvariant eq is_clone ready ps knows room → (n : ℕ) (now : List (PendingView K S)) (knows' : K → Bool) (wide : ℕ)
      → now ≡ rotated n ps → ((k : K) → knows' k ≡ knows k) → wide ≡ room → CacheInvariant eq is_clone ready now knows' wide
  kept_rotated is_clone ready ps knows room h n now knows' wide is told same = kept_as is_clone ready (rotated n ps) knows room (by n ps h) now knows' wide is told (omega (arith, same))
    where
      by : (n : ℕ) (ps : List (PendingView K S)) → CacheInvariant eq is_clone ready ps knows room → CacheInvariant eq is_clone ready (rotated n ps) knows room
      by zero ps h = h
      by (suc n) [] h = by n [] h
      by (suc n) (p ∷ ps) h = by n (ps ++ p ∷ []) (kept_last is_clone ready (p ∷ ps) knows room h p ps refl ready (ps ++ p ∷ []) knows room refl p refl refl refl refl (λ k. refl))
