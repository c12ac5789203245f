-- No key of a cache is lost.
use Rattle.std.proofs.Common.{ℕ, zero, suc, ◌≡◌, ◌<◌, Bool, true, false, not, ◌&&◌, ◌||◌, ◌⊎◌, inl, inr, ⊎_elim, is_some, List, [], ◌∷◌, ◌++◌, Option, Some, None, Result, Ok, Err, length, slice_get, position, get_or, if◌then◌else◌, refl, sym, ap, subst, ◌∙◌, true≢false, arith}
use Rattle.std.specs.Cmp.{IsEquivalence}
use Rattle.std.specs.List.{list_any, swap_remove}
use Rattle.std.specs.Map.{keys_of, lookup}
use Rattle.std.specs.Option.{MatchOption, option_map_or}
use Rattle.std.proofs.lemmas.List.Elements.{All-head, All-tail}
use Rattle.std.proofs.lemmas.List.Folds.{list_any-append}
use Rattle.std.proofs.lemmas.List.Sorted.{IsPermutation-swap_remove, list_any-IsPermutation}
use Rattle.std.proofs.lemmas.List.Quantifiers.{position-Some}
use Rattle.std.proofs.lemmas.Map.Entries.{length-keys_of}
use Rattle.std.proofs.lemmas.Map.Made.{is_some-lookup}
use Rattle.indexmap.proofs.MapLemmas.{swap_remove-default}
use Rattle.std.proofs.lemmas.Option.{get_or_from_slice_get, slice_get-get_or, slice_get_within}
use Rattle.futures.specs.declared.task.Poll.{Poll}
use Rattle.futures.specs.declared.task.Poll.TheVariants.{Ready, Pending}
use Rattle.indexmap.specs.IndexMap.{insert_entry, set_value_at, swap_remove_entry}
use Rattle.tower_base.specs.declared.service.Service.{Ghosts as ServiceOf}
use Rattle.tower_laws.specs.ReadyCache.{Call, Does, Ends, NoKeyIsLost, PushedIsThere, has}
use Rattle.tower_pool.proofs.KeptLemmas.{known_written}
use Rattle.tower_pool.specs.Balance.{evicted, pushed}
use Rattle.tower_pool.specs.ReadyCache.{Called, Checked, CheckedKey, PendingView, ReadyCacheView, Settles, is_pending, cancel, place, put_back, pending_entry, is_entry_of}
use Rattle.tower_pool.specs.ReadyCachePoll.{PollCases, IfThenElse, EachPolled, PendingPolled}
use Rattle.tower_pool.specs.declared.ready_cache.error.Failed.{Failed as Failure}
use Rattle.tower_pool.specs.declared.ready_cache.error.Error.{Error}
use Rattle.tower_pool.specs.declared.ready_cache.error.Error.TheVariants.{Failed, Memory}

pub or_left : (a b : Bool) → a ≡ true → (a || b) ≡ true
or_left true b h = refl
or_left false b h = absurd (true≢false (sym h))

pub or_right : (a b : Bool) → b ≡ true → (a || b) ≡ true
or_right true b h = refl
or_right false b h = h

pub either : (a b : Bool) → (a || b) ≡ true → (a ≡ true) ⊎ (b ≡ true)
either true b h = inl refl
either false b h = inr h

-- where a key stands, an endpoint stands
pub at_position : {K S : Type 0} (t : K → Bool) (es : List (K × S)) (i : ℕ) → position t (keys_of es) ≡ Some i → (e : K × S) × (slice_get es i ≡ Some e) × (t e.0 ≡ true)
at_position t [] i at = absurd (cc)
at_position {K} {S} t (e ∷ es) i at =
    let found = position-Some t (keys_of (e ∷ es)) i e.0 at in
    let inside : i < length (e ∷ es) = subst (λ n. i < n) (length-keys_of (e ∷ es)) found.0 in
    (get_or (e ∷ es) i e, slice_get-get_or (e ∷ es) i e inside, ap t (sym (same (e ∷ es) i e inside)) ∙ found.1)
  where
    same : (xs : List (K × S)) (i : ℕ) (d : K × S) → i < length xs → get_or (keys_of xs) i d.0 ≡ (get_or xs i d).0
    same [] i d inside = absurd (omega (arith, inside))
    same (x ∷ xs) zero d inside = refl
    same (x ∷ xs) (suc i) d inside = same xs i d (omega (arith, inside))

-- whether the test passes or not
pub tests : (b : Bool) → (b ≡ true) ⊎ (b ≡ false)
tests true = inl refl
tests false = inr refl

module _ {K S : Type 0} (eq : K → K → Bool) (laws : IsEquivalence eq) (k : K) where
  -- the key is that of a ready endpoint
  abbrev is_ready : List (K × S) → Bool
  is_ready es = is_some (lookup (eq k) es)

  abbrev any : List (K × S) → Bool
  any es = list_any (λ (e : K × S). eq k e.0) es

  any_keys : (es : List (K × S)) → list_any (eq k) (keys_of es) ≡ any es
  any_keys [] = refl
  any_keys (e ∷ es) = ap (λ b. eq k e.0 || b) (any_keys es)

  ready_any : (es : List (K × S)) → is_ready es ≡ any es
  ready_any es = is_some-lookup (eq k) es ∙ any_keys es

  -- One that leaves was of this key, or it is there still.
  removed : (es : List (K × S)) (i : ℕ) (e : K × S) → slice_get es i ≡ Some e → is_ready es ≡ true → (eq k e.0 ≡ true) ⊎ (is_ready (swap_remove es i e) ≡ true)
  removed es i e at h =
      let moved = IsPermutation-swap_remove es i e (slice_get_within es i e at) (sym (get_or_from_slice_get es i e e at)) in
      let all : (eq k e.0 || any (swap_remove es i e)) ≡ true = sym (list_any-IsPermutation (λ (x : K × S). eq k x.0) es (e ∷ swap_remove es i e) moved) ∙ sym (ready_any es) ∙ h in
      ⊎_elim (λ here. inl here) (λ rest. inr (ready_any (swap_remove es i e) ∙ rest)) (either (eq k e.0) (any (swap_remove es i e)) all)

  any_inserted : (key : K) (v : S) (es : List (K × S)) → any es ≡ true → any (insert_entry eq es key v) ≡ true
  any_inserted key v [] h = absurd (true≢false (sym h))
  any_inserted key v (e ∷ es) h = at (any_inserted key v es) (eq key e.0)
    where
      at : (any es ≡ true → any (insert_entry eq es key v) ≡ true) → (b : Bool) → any (if b then (e.0, v) ∷ es else e ∷ insert_entry eq es key v) ≡ true
      at rest true = h
      at rest false = ⊎_elim (λ here. or_left (eq k e.0) (any (insert_entry eq es key v)) here) (λ r. or_right (eq k e.0) (any (insert_entry eq es key v)) (rest r)) (either (eq k e.0) (any es) h)

  any_new : (key : K) (v : S) (es : List (K × S)) → eq k key ≡ true → any (insert_entry eq es key v) ≡ true
  any_new key v [] h = or_left (eq k key) false h
  any_new key v (e ∷ es) h = at (any_new key v es h) (eq key e.0) refl
    where
      at : any (insert_entry eq es key v) ≡ true → (b : Bool) → eq key e.0 ≡ b → any (if b then (e.0, v) ∷ es else e ∷ insert_entry eq es key v) ≡ true
      at rest true same = or_left (eq k e.0) (any es) (sym (laws.congr key k e.0 (laws.symm key k ∙ h)) ∙ same)
      at rest false same = or_right (eq k e.0) (any (insert_entry eq es key v)) rest

  inserted_there : (es : List (K × S)) (key : K) (v : S) → is_ready es ≡ true → is_ready (insert_entry eq es key v) ≡ true
  inserted_there es key v h = ready_any (insert_entry eq es key v) ∙ any_inserted key v es (sym (ready_any es) ∙ h)

  inserted_new : (es : List (K × S)) (key : K) (v : S) → eq k key ≡ true → is_ready (insert_entry eq es key v) ≡ true
  inserted_new es key v h = ready_any (insert_entry eq es key v) ∙ any_new key v es h

  -- the key has a pending endpoint
  abbrev waits_in : List (PendingView K S) → Bool
  waits_in ps = is_pending eq k ps

  back_there : (key : K) (v : S) (ps : List (PendingView K S)) → waits_in ps ≡ true → waits_in (put_back eq key v ps) ≡ true
  back_there key v ps h = by (is_pending eq key ps)
    where
      by : (b : Bool) → waits_in (if b then ps else ps ++ pending_entry key v ∷ []) ≡ true
      by true = h
      by false = list_any-append (is_entry_of eq k) ps (pending_entry key v ∷ []) ∙ or_left (waits_in ps) (waits_in (pending_entry key v ∷ [])) h

  alike : (key : K) (ps : List (PendingView K S)) → eq k key ≡ true → is_pending eq key ps ≡ true → waits_in ps ≡ true
  alike key [] same h = h
  alike key (p ∷ ps) same h = ⊎_elim
      (λ here. or_left (is_entry_of eq k p) (waits_in ps) (ap (λ b. not p.cancelled && b) (laws.congr k key p.key same ∙ refl) ∙ here))
      (λ rest. or_right (is_entry_of eq k p) (waits_in ps) (alike key ps same rest)) (either (is_entry_of eq key p) (is_pending eq key ps) h)

  back_new : (key : K) (v : S) (ps : List (PendingView K S)) → eq k key ≡ true → waits_in (put_back eq key v ps) ≡ true
  back_new key v ps same = by (is_pending eq key ps) refl
    where
      by : (b : Bool) → is_pending eq key ps ≡ b → waits_in (if b then ps else ps ++ pending_entry key v ∷ []) ≡ true
      by true there = alike key ps same there
      by false none = list_any-append (is_entry_of eq k) ps (pending_entry key v ∷ []) ∙ or_right (waits_in ps) (waits_in (pending_entry key v ∷ [])) (or_left (eq k key) false same)

  abbrev marked : K → PendingView K S → List (PendingView K S) → Bool → Bool → Type 0
  marked key p ps c b = waits_in (if not c && b then (record p { cancelled = true }) ∷ ps else p ∷ cancel eq key ps) ≡ true

  not_this : (key : K) (p : PendingView K S) → eq k key ≡ false → eq key p.key ≡ true → is_entry_of eq k p ≡ false
  not_this key p other e = ap (λ b. not p.cancelled && b) no ∙ and_no p.cancelled
    where
      no : eq k p.key ≡ false
      no = laws.symm k p.key ∙ sym (laws.congr key p.key k e) ∙ laws.symm key k ∙ other

      and_no : (c : Bool) → (not c && false) ≡ false
      and_no true = refl
      and_no false = refl

  -- a mark leaves the entries of other keys
  others_stay : (key : K) (ps : List (PendingView K S)) → eq k key ≡ false → waits_in ps ≡ true → waits_in (cancel eq key ps) ≡ true
  others_stay key [] other h = h
  others_stay key (p ∷ ps) other h = by (others_stay key ps other) p.cancelled refl (eq key p.key) refl
    where
      kept : (waits_in ps ≡ true → waits_in (cancel eq key ps) ≡ true) → waits_in (p ∷ cancel eq key ps) ≡ true
      kept rest = ⊎_elim (λ here. or_left (is_entry_of eq k p) (waits_in (cancel eq key ps)) here) (λ r. or_right (is_entry_of eq k p) (waits_in (cancel eq key ps)) (rest r)) (either (is_entry_of eq k p) (waits_in ps) h)

      by : (waits_in ps ≡ true → waits_in (cancel eq key ps) ≡ true) → (c : Bool) → p.cancelled ≡ c → (b : Bool) → eq key p.key ≡ b → marked key p ps p.cancelled (eq key p.key)
      by rest true c b e = subst (λ x. marked key p ps x (eq key p.key)) (sym c) (kept rest)
      by rest false c false e = subst (λ x. marked key p ps x (eq key p.key)) (sym c) (subst (marked key p ps false) (sym e) (kept rest))
      by rest false c true e = subst (λ x. marked key p ps x (eq key p.key)) (sym c) (subst (marked key p ps false) (sym e) (⊎_elim
          (λ here. absurd (true≢false (sym here ∙ not_this key p other e))) (λ r. r) (either (is_entry_of eq k p) (waits_in ps) h)))

  -- the key has an endpoint
  abbrev Has : ReadyCacheView K S → Type 0
  Has cache = (is_ready cache.ready || waits_in cache.pending) ≡ true

  makes : (es : List (K × S)) (ps : List (PendingView K S)) → (is_ready es ≡ true) ⊎ (waits_in ps ≡ true) → (is_ready es || waits_in ps) ≡ true
  makes es ps h = ⊎_elim (λ r. or_left (is_ready es) (waits_in ps) r) (λ w. or_right (is_ready es) (waits_in ps) w) h

  splits : (cache : ReadyCacheView K S) → Has cache → (is_ready cache.ready ≡ true) ⊎ (waits_in cache.pending ≡ true)
  splits cache h = either (is_ready cache.ready) (waits_in cache.pending) h

  pushes : (old : ReadyCacheView K S) (key : K) (v : S) → Has old → Has (pushed eq old key v)
  pushes old key v h = makes old.ready (cancel eq key old.pending ++ pending_entry key v ∷ []) (⊎_elim
      (λ r. inl r)
      (λ w. inr (list_any-append (is_entry_of eq k) (cancel eq key old.pending) (pending_entry key v ∷ []) ∙ ⊎_elim
      (λ same. or_right (waits_in (cancel eq key old.pending)) (waits_in (pending_entry key v ∷ [])) (or_left (eq k key) false same))
      (λ other. or_left (waits_in (cancel eq key old.pending)) (waits_in (pending_entry key v ∷ [])) (others_stay key old.pending other w))
      (tests (eq k key))))
      (splits old h))

  pub pushed_there : (old : ReadyCacheView K S) (v : S) → Has (pushed eq old k v)
  pushed_there old v = makes old.ready (cancel eq k old.pending ++ pending_entry k v ∷ []) (inr (list_any-append (is_entry_of eq k) (cancel eq k old.pending) (pending_entry k v ∷ [])
      ∙ or_right (waits_in (cancel eq k old.pending)) (waits_in (pending_entry k v ∷ [])) (or_left (eq k k) false (laws.refl k))))

  -- those of other keys stay when one is evicted
  evicts : (es : List (K × S)) (key : K) → eq k key ≡ false → is_ready es ≡ true → is_ready (swap_remove_entry (eq key) es) ≡ true
  evicts [] key other h = h
  evicts (e ∷ es) key other h = by (position (eq key) (keys_of (e ∷ es))) refl
    where
      by : (o : Option ℕ) → position (eq key) (keys_of (e ∷ es)) ≡ o → is_ready (option_map_or (λ i. swap_remove (e ∷ es) i e) o (e ∷ es)) ≡ true
      by None at = h
      by (Some i) at =
          let there = at_position (eq key) (e ∷ es) i at in
          let here : swap_remove (e ∷ es) i e ≡ swap_remove (e ∷ es) i there.0 = swap_remove-default (e ∷ es) i e there.0 (omega arith) in
          ⊎_elim
          (λ same. absurd (true≢false (sym same ∙ laws.symm k there.0.0 ∙ sym (laws.congr key there.0.0 k there.2) ∙ laws.symm key k ∙ other)))
          (λ rest. ap is_ready here ∙ rest) (removed (e ∷ es) i there.0 there.1 h)

  evict_keeps : (old : ReadyCacheView K S) (key : K) → eq k key ≡ false → Has old → Has (evicted eq old key)
  evict_keeps old key other h = makes (swap_remove_entry (eq key) old.ready) (cancel eq key old.pending) (⊎_elim
      (λ r. inl (evicts old.ready key other r)) (λ w. inr (others_stay key old.pending other w)) (splits old h))

  -- one that is polled stays, or goes back
  returns : (old : ReadyCacheView K S) (i : ℕ) (e : K × S) (left : S) → slice_get old.ready i ≡ Some e → Has old
      → Has (record { ready = swap_remove old.ready i e; pending = put_back eq e.0 left old.pending })
  returns old i e left at h = makes (swap_remove old.ready i e) (put_back eq e.0 left old.pending) (⊎_elim
      (λ r. ⊎_elim (λ same. inr (back_new e.0 left old.pending same)) (λ rest. inl rest) (removed old.ready i e at r))
      (λ w. inr (back_there e.0 left old.pending w)) (splits old h))

module _ {K S Q A E G : Type 0} (eq : K → K → Bool) (laws : IsEquivalence eq) (s : ServiceOf S Q A E G) (k : K) where
  abbrev There : ReadyCacheView K S → Type 0
  There cache = Has eq laws k cache

  -- A failure that is returned isn't that of the key.
  abbrev Other : Result Bool (Failure K E) → Type 0
  Other (Err failure) = ¬ (eq k failure.0 ≡ true)
  Other (Ok is_ready) = Unit {0}

  abbrev OtherPolled : Poll (Result (Unit {0}) (Error K E)) → Type 0
  OtherPolled (Ready (Err (Failed key error))) = ¬ (eq k key ≡ true)
  OtherPolled answer = Unit {0}

  settles : (old : ReadyCacheView K S) (i : ℕ) (e : K × S) (left : S) (inner : Poll (Result (Unit {0}) E)) (answer : Result Bool (Failure K E)) (new : ReadyCacheView K S)
      → slice_get old.ready i ≡ Some e → Settles eq s old i e left inner answer new → Other answer → There old → There new
  settles old i e left (Ready (Ok u)) answer new at h other there =
      subst There (sym h.1) (makes eq laws k (set_value_at old.ready i left) old.pending (⊎_elim (λ r. inl (known_written (eq k) old.ready i left ∙ r)) (λ w. inr w) (splits eq laws k old there)))
  settles old i e left (Ready (Err x)) answer new at h other there =
      subst There (sym h.1) (makes eq laws k (swap_remove old.ready i e) old.pending (⊎_elim
      (λ r. ⊎_elim (λ same. absurd (subst Other h.0 other same)) (λ rest. inl rest) (removed eq laws k old.ready i e at r)) (λ w. inr w) (splits eq laws k old there)))
  settles old i e left Pending answer new at h other there = subst There (sym h.1) (returns eq laws k old i e left at there)

  checks : (old : ReadyCacheView K S) (i : ℕ) (answer : Result Bool (Failure K E)) (new : ReadyCacheView K S) → Checked eq s old i answer new → Other answer → There old → There new
  checks old i answer new h other there = by (slice_get old.ready i) refl h
    where
      by : (o : Option (K × S)) → slice_get old.ready i ≡ o → MatchOption o ((answer ≡ Ok false) × (new ≡ old))
          (λ e. (inner : Poll (Result (Unit {0}) E)) × (left : S) × s.polled e.1 inner left × Settles eq s old i e left inner answer new) → There new
      by None at h = subst There (sym h.1) there
      by (Some e) at h = settles old i e h.1 h.0 answer new at h.3 other there

  checks_key : (old : ReadyCacheView K S) (key : K) (answer : Result Bool (Failure K E)) (new : ReadyCacheView K S) → CheckedKey eq s old key answer new → Other answer → There old → There new
  checks_key old key answer new h other there = by (place eq key old.ready) h
    where
      by : (o : Option ℕ) → MatchOption o ((answer ≡ Ok false) × (new ≡ old)) (λ i. Checked eq s old i answer new) → There new
      by None h = subst There (sym h.1) there
      by (Some i) h = checks old i answer new h other there

  -- what there is while the pending ones are polled
  module _ (answer : Poll (Result (Unit {0}) (Error K E))) (new : ReadyCacheView K S) (other : OtherPolled answer) where
    abbrev Somewhere : List (PendingView K S) → List (PendingView K S) → List (K × S) → Type 0
    Somewhere before rest ready = (is_ready eq laws k ready ≡ true) ⊎ ((waits_in eq laws k before ≡ true) ⊎ (waits_in eq laws k rest ≡ true))

    ends_with : (before rest : List (PendingView K S)) (ready : List (K × S)) → Somewhere before rest ready → There (record { ready = ready; pending = before ++ rest })
    ends_with before rest ready h = makes eq laws k ready (before ++ rest) (⊎_elim (λ r. inl r) (λ w. inr (list_any-append (is_entry_of eq k) before rest ∙ ⊎_elim
        (λ b. or_left (waits_in eq laws k before) (waits_in eq laws k rest) b) (λ r. or_right (waits_in eq laws k before) (waits_in eq laws k rest) r) w)) h)

    -- the first of the rest is of the key, or it is elsewhere
    first_of : (p : PendingView K S) (before rest : List (PendingView K S)) (ready : List (K × S)) → Somewhere before (p ∷ rest) ready → (is_entry_of eq k p ≡ true) ⊎ Somewhere before rest ready
    first_of p before rest ready h = ⊎_elim (λ r. inr (inl r)) (λ w. ⊎_elim (λ b. inr (inr (inl b)))
        (λ here. ⊎_elim (λ first. inl first) (λ more. inr (inr (inr more))) (either (is_entry_of eq k p) (waits_in eq laws k rest) here)) w) h

    live : (p : PendingView K S) → is_entry_of eq k p ≡ true → p.cancelled ≡ true → ⊥
    live p w c = true≢false (sym w ∙ ap (λ b. not b && eq k p.key) c)

    of_key : (p : PendingView K S) → is_entry_of eq k p ≡ true → eq k p.key ≡ true
    of_key p w = by p.cancelled w
      where
        by : (c : Bool) → (not c && eq k p.key) ≡ true → eq k p.key ≡ true
        by true h = absurd (true≢false (sym h))
        by false h = h

    module _ (p : PendingView K S) (before rest : List (PendingView K S)) (ready : List (K × S)) (somewhere : Somewhere before (p ∷ rest) ready)
        (more : (earlier : List (PendingView K S)) (others : List (K × S)) → EachPolled eq s earlier rest others answer new → Somewhere earlier rest others → There new) where
      first : (is_entry_of eq k p ≡ true) ⊎ Somewhere before rest ready
      first = first_of p before rest ready somewhere

      answered : (inner : Poll (Result (Unit {0}) E)) (left : S) → PollCases inner (EachPolled eq s before rest (insert_entry eq ready p.key left) answer new)
          (λ e. (answer ≡ Ready (Err (Failed p.key e))) × (new ≡ record { ready = ready; pending = before ++ rest }))
          (EachPolled eq s (before ++ (record p { service = left }) ∷ []) rest ready answer new) → There new
      answered (Ready (Ok u)) left h = more before (insert_entry eq ready p.key left) h (⊎_elim
          (λ here. inl (inserted_new eq laws k ready p.key left (of_key p here)))
          (λ away. ⊎_elim (λ r. inl (inserted_there eq laws k ready p.key left r)) (λ w. inr w) away) first)
      answered (Ready (Err e)) left h = ⊎_elim (λ here. absurd (subst OtherPolled h.0 other (of_key p here)))
          (λ away. subst There (sym h.1) (ends_with before rest ready away)) first
      answered Pending left h = more (before ++ (record p { service = left }) ∷ []) ready h (⊎_elim
          (λ here. inr (inl (list_any-append (is_entry_of eq k) before ((record p { service = left }) ∷ []) ∙ or_right (waits_in eq laws k before) (is_entry_of eq k p || false) (or_left (is_entry_of eq k p) false here))))
          (λ away. ⊎_elim (λ r. inl r) (λ w. ⊎_elim
          (λ b. inr (inl (list_any-append (is_entry_of eq k) before ((record p { service = left }) ∷ []) ∙ or_left (waits_in eq laws k before) (is_entry_of eq k p || false) b)))
          (λ r. inr (inr r)) w) away) first)

      asks_first : (c : Bool) → p.cancelled ≡ c → IfThenElse c (EachPolled eq s before rest ready answer new)
          (((answer ≡ Ready (Err Memory)) × (new ≡ record { ready = ready; pending = before ++ p ∷ rest }))
          ⊎ ((inner : Poll (Result (Unit {0}) E)) × (left : S) × s.polled p.service inner left × PollCases inner
          (EachPolled eq s before rest (insert_entry eq ready p.key left) answer new)
          (λ e. (answer ≡ Ready (Err (Failed p.key e))) × (new ≡ record { ready = ready; pending = before ++ rest }))
          (EachPolled eq s (before ++ (record p { service = left }) ∷ []) rest ready answer new))) → There new
      asks_first true c h = more before ready h (⊎_elim (λ here. absurd (live p here c)) (λ away. away) first)
      asks_first false c h = ⊎_elim (λ full. subst There (sym full.1) (ends_with before (p ∷ rest) ready somewhere)) (λ polled. answered polled.0 polled.1 polled.3) h

    asks : (rest before : List (PendingView K S)) (ready : List (K × S)) → EachPolled eq s before rest ready answer new → Somewhere before rest ready → There new
    asks [] before ready h somewhere = subst There (sym h.1) (makes eq laws k ready before (⊎_elim (λ r. inl r) (λ w. ⊎_elim (λ b. inr b) (λ none. absurd (true≢false (sym none))) w) somewhere))
    asks (p ∷ rest) before ready h somewhere =
        asks_first p before rest ready somewhere (λ earlier others g there. asks rest earlier others g there) p.cancelled refl h

  polls : (old : ReadyCacheView K S) (answer : Poll (Result (Unit {0}) (Error K E))) (new : ReadyCacheView K S) → PendingPolled eq s old answer new → OtherPolled answer → There old → There new
  polls old answer new h other there = asks answer new other old.pending [] old.ready h (⊎_elim (λ r. inl r) (λ w. inr (inr w)) (splits eq laws k old there))

  called : (old : ReadyCacheView K S) (i : ℕ) (request : Q) (future : G) (new : ReadyCacheView K S) → Called eq s old i request future new → There old → There new
  called old i request future new h there = subst There (sym h.same) (returns eq laws k old i (h.key, h.service) h.left h.there there)

  not_true : (b : Bool) → ¬ (b ≡ true) → b ≡ false
  not_true true n = absurd (n refl)
  not_true false n = refl

  other_of : (answer : Result Bool (Failure K E)) (key : K) → ¬ (Ends eq s k (Call.check_ready key answer)) → Other answer
  other_of (Ok is_ready) key n = tt
  other_of (Err failure) key n = n

  other_at : (answer : Result Bool (Failure K E)) (index : ℕ) → ¬ (Ends eq s k (Call.check_ready_index index answer)) → Other answer
  other_at (Ok is_ready) index n = tt
  other_at (Err failure) index n = n

  other_polled : (answer : Poll (Result (Unit {0}) (Error K E))) → ¬ (Ends eq s k (Call.poll_pending answer)) → OtherPolled answer
  other_polled (Ready (Ok u)) n = tt
  other_polled (Ready (Err Memory)) n = tt
  other_polled (Ready (Err (Failed key error))) n = n
  other_polled Pending n = tt

  one : (old : ReadyCacheView K S) (call : Call K S Q E G) (new : ReadyCacheView K S) → Does eq s old call new → ¬ (Ends eq s k call) → There old → There new
  one old (Call.push key service (Ok done)) new h n there = subst There (sym h) (pushes eq laws k old key service there)
  one old (Call.push key service (Err back)) new h n there = subst There (sym h) there
  one old (Call.evict key found) new h n there = subst There (sym h) (evict_keeps eq laws k old key (not_true (eq k key) n) there)
  one old (Call.poll_pending answer) new h n there = polls old answer new h (other_polled answer n) there
  one old (Call.check_ready key answer) new h n there = checks_key old key answer new h (other_of answer key n) there
  one old (Call.check_ready_index index answer) new h n there = checks old index answer new h (other_at answer index n) there
  one old (Call.call_ready key request future) new h n there = called old h.0 request future new h.2 there
  one old (Call.call_ready_index index request future) new h n there = called old index request future new h there

module _ {K S Q A E G : Type 0} (eq : K → K → Bool) (laws : IsEquivalence eq) (s : ServiceOf S Q A E G) where
  pub no_key_is_lost : NoKeyIsLost eq s
  no_key_is_lost old new [] key run none there = subst (λ v. has eq s key v ≡ true) (sym run) there
  no_key_is_lost old new (first ∷ rest) key run none there =
      no_key_is_lost run.0 new rest key run.2 (All-tail (λ call. ¬ (Ends eq s key call)) first rest none)
      (one eq laws s key old first run.0 run.1 (All-head (λ call. ¬ (Ends eq s key call)) first rest none) there)

  pub pushed_is_there : PushedIsThere eq s
  pushed_is_there old new key service h = subst (λ v. has eq s key v ≡ true) (sym h) (pushed_there eq laws key old service)
