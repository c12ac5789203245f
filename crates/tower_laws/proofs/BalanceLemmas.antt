-- Calls, choices and endpoints of a balancer.
use Rattle.std.proofs.Common.{All, ℕ, zero, suc, ◌≡◌, ◌<◌, Bool, true, false, not, ◌&&◌, ◌||◌, ◌⊎◌, inl, inr, ⊎_elim, IfSome, List, [], ◌∷◌, ◌++◌, Option, Some, None, Result, Ok, Err, length, slice_get, position, get_or, unwrap_or, if◌then◌else◌, refl, sym, ap, subst, ◌∙◌, true≢false, arith}
use Rattle.std.specs.Cmp.{IsEquivalence}
use Rattle.std.specs.List.{AllByRecursion, IsDistinct, swap_remove}
use Rattle.std.specs.Map.{keys_of}
use Rattle.std.specs.Option.{MatchOption, option_map_or}
use Rattle.std.specs.Ordering.{partial_le}
use Rattle.std.specs.declared.cmp.Ordering.{Ordering}
use Rattle.std.proofs.lemmas.List.{append_assoc, append-nil}
use Rattle.std.proofs.lemmas.List.Elements.{All-append, All-cons, All-get_or, All-head, All-nil, All-tail, All-weaker}
use Rattle.std.proofs.lemmas.List.Folds.{list_any-append}
use Rattle.std.proofs.lemmas.List.Sorted.{IsPermutation-swap_remove}
use Rattle.std.proofs.lemmas.Map.Entries.{length-keys_of}
use Rattle.std.proofs.lemmas.Map.Keys.{IsDistinct-IsPermutation, IsDistinct-head, IsDistinct-tail}
use Rattle.std.proofs.lemmas.Option.{get_or_from_slice_get, slice_get_within}
use Rattle.futures.specs.declared.task.Poll.{Poll}
use Rattle.futures.specs.declared.task.Poll.TheVariants.{Ready, Pending}
use Rattle.indexmap.proofs.MapLemmas.{Missing-position, swap_remove-default}
use Rattle.indexmap.proofs.SetLemmas.{map-swap_remove}
use Rattle.indexmap.specs.IndexMap.{insert_entry, set_value_at, swap_remove_entry}
use Rattle.tower_base.specs.Iterations.{Iterates, Iterations}
use Rattle.tower_base.specs.Projection.{RunInside}
use Rattle.tower_base.specs.ProjectionLemmas.{joined, no_action, one_poll, one_call}
use Rattle.tower_base.specs.ServiceRun.{Relations, relations, Action, Transition, Takes, ServiceRun}
use Rattle.tower_base.specs.declared.service.Service.{Ghosts as ServiceOf}
use Rattle.tower_laws.proofs.ReadyCacheLemmas.{at_position}
use Rattle.tower_laws.specs.Balance.{CallsReachKept, Came, EndpointsCame, Finds, IsChosen, KeepsChosen, Reaches, changes, removes}
use Rattle.tower_limit.specs.Discover.{Found}
use Rattle.tower_limit.specs.declared.discover.Change.{Change}
use Rattle.tower_limit.specs.declared.discover.Change.TheVariants.{Insert, Remove}
use Rattle.tower_pool.proofs.PendingLemmas.{apart_back, apart_cancel, apart_new, left_false, none_after, right_false}
use Rattle.tower_pool.proofs.PlaceLemmas.{All-swap_remove}
use Rattle.tower_pool.specs.Balance.{AfterChanges, AfterCheck, AfterFound, AfterPromotion, BalanceView, Called, ChangedAt, Chooses, CountedIteration, IsReady, IterationAt, PickedOf, Polled, PromotesAfter, Reads, ReadsAll, answer_of, evicted, pushed}
use Rattle.tower_pool.specs.ReadyCache.{Apart, Called as CacheCalled, Checked, PendingView, ReadyCacheView, Settles, is_pending, cancel, put_back, pending_entry, is_entry_of}
use Rattle.tower_pool.specs.ReadyCachePoll.{PollCases, IfThenElse, EachPolled, PendingPolled}
use Rattle.tower_pool.specs.declared.balance.error.Error.{Error}
use Rattle.tower_pool.specs.declared.ready_cache.error.Failed.{Failed}
use Rattle.tower_pool.specs.declared.ready_cache.error.Error.{Error as CacheError}
use Rattle.tower_pool.specs.declared.ready_cache.error.Error.TheVariants.{Failed as EndpointFailed, Memory as NoRoom}

-- an answer that ends no iteration
goes_on : {E X : Type 0} → (index : Option ℕ) (answer : Poll (Result (Unit {0}) (Error E X))) → answer_of {A = Result (Unit {0}) (Error E X)} index ≡ Some answer
    → (index ≡ None) × (answer ≡ Pending)
goes_on None answer e = (refl, cc (e))
goes_on (Some i) answer e = absurd (cc (e))

-- the keys after a write
keys_written : {K S : Type 0} → (es : List (K × S)) (i : ℕ) (w : S) → keys_of (set_value_at es i w) ≡ keys_of es
keys_written [] i w = refl
keys_written (e ∷ es) zero w = refl
keys_written (e ∷ es) (suc i) w = ap (λ ks. e.0 ∷ ks) (keys_written es i w)

-- what stands at a place after a write there
there_written : {K S : Type 0} → (es : List (K × S)) (i : ℕ) (e : K × S) (w : S) → slice_get es i ≡ Some e → slice_get (set_value_at es i w) i ≡ Some (e.0, w)
there_written [] i e w at = absurd (cc)
there_written {K} {S} (x ∷ es) zero e w at = ap (λ (y : K × S). Some (y.0, w)) (ap (λ o. unwrap_or o x) at)
there_written (x ∷ es) (suc i) e w at = there_written es i e w at

taken : {X : Type 0} (a b : X) → Some a ≡ Some b → a ≡ b
taken a b e = ap (λ o. unwrap_or o a) e

same_index : (i j : ℕ) → Some i ≡ Some j → i ≡ j
same_index i j e = ap (λ o. unwrap_or o i) e

-- a check of an endpoint
module _ {K S Q A E G : Type 0} (eq : K → K → Bool) (s : ServiceOf S Q A E G) where
  settled_ok : (old : ReadyCacheView K S) (i : ℕ) (e : K × S) (left : S) (inner : Poll (Result (Unit {0}) E)) (new : ReadyCacheView K S) → slice_get old.ready i ≡ Some e
      → s.polled e.1 inner left → Settles eq s old i e left inner (Ok true) new → (new.ready ≡ set_value_at old.ready i left) × s.polled e.1 (Ready (Ok tt)) left
  settled_ok old i e left (Ready (Ok u)) new at polled h = (ap (λ (c : ReadyCacheView K S). c.ready) h.1, polled)
  settled_ok old i e left (Ready (Err x)) new at polled h = absurd (let no = h.0 in cc)
  settled_ok old i e left Pending new at polled h = absurd (let no = h.0 in cc)

  record Still (old : ReadyCacheView K S) (i : ℕ) (new : ReadyCacheView K S) : Type 0 where
    entry : K × S
    at : slice_get old.ready i ≡ Some entry
    left : S
    polled : s.polled entry.1 (Ready (Ok tt)) left
    written : new.ready ≡ set_value_at old.ready i left

  checked_ok : (old : ReadyCacheView K S) (i : ℕ) (new : ReadyCacheView K S) → Checked eq s old i (Ok true) new → Still old i new
  checked_ok old i new h = by (slice_get old.ready i) refl h
    where
      by : (o : Option (K × S)) → slice_get old.ready i ≡ o → MatchOption o ((◌≡◌ {A = Result Bool (Failed K E)} (Ok true) (Ok false)) × (new ≡ old))
          (λ e. (inner : Poll (Result (Unit {0}) E)) × (left : S) × s.polled e.1 inner left × Settles eq s old i e left inner (Ok true) new) → Still old i new
      by None at h = absurd (let no = h.0 in cc)
      by (Some e) at h = let found = settled_ok old i e h.1 h.0 new at h.2 h.3 in record { entry = e; at = at; left = h.1; polled = found.1; written = found.0 }

-- the choice of an index
module _ {R K S M : Type 0} (loaded : S → M → Type 0) (cmp : M → M → Option Ordering) (drew : R → ℕ → R → Type 0) where
  picked : (es ready : List (K × S)) (old : R) (index : Option ℕ) (new : R) (i : ℕ) → ready ≡ es → PickedOf loaded cmp drew es ready old index new → index ≡ Some i → IsChosen loaded cmp drew ready new i
  picked [] ready old index new i is h at = absurd (let no : index ≡ None = h.0 in cc)
  picked (e ∷ []) ready old index new i is h at = inl (ap length is, same_index i 0 (sym at ∙ h.0))
  picked (e ∷ f ∷ es) ready old index new i is h at =
      let lighter = h.4 in
      inr (
        h.0,
        h.1,
        old,
        h.3,
        lighter.0,
        lighter.1,
        lighter.2,
        lighter.3,
        same_index i (if partial_le cmp lighter.0 lighter.1 then h.0 else h.1) (sym at ∙ h.5 ∙ ap (λ (b : Bool). Some (if b then h.0 else h.1)) lighter.4),
      )

-- Calls and choices.
module _ {D R K S Q A E G M : Type 0} (X : Type 0) (eq : K → K → Bool) (s : ServiceOf S Q A E G) (loaded : S → M → Type 0) (cmp : M → M → Option Ordering) (drew : R → ℕ → R → Type 0) where
  -- The last poll of the endpoint at the kept index found it ready.
  record Found_ready (v : BalanceView D R K S) : Type 0 where
    index : ℕ
    kept : v.kept ≡ Some index
    key : K
    service : S
    there : slice_get v.services.ready index ≡ Some (key, service)
    before : S
    ready : s.polled before (Ready (Ok tt)) service

  -- the last iteration of a poll that returns `Ok`
  passed_ok : (kept : Option ℕ) (old new : BalanceView D R K S) → old.kept ≡ kept → IterationAt {X = X} eq s loaded cmp drew kept old (Some (Ready (Ok tt))) new → Found_ready new
  passed_ok None old new is h = absurd (let no = goes_on {E = E} {X = X} h.0 (Ready (Ok tt)) (sym h.3) in let f = no.1 in cc)
  passed_ok (Some i) old new is h = by h.0 h.2 h.3
    where
      by : (inner : Result Bool (Failed K E)) → Checked eq s old.services i inner h.1 → AfterCheck {X = X} eq s loaded cmp drew (record old { services = h.1 }) i inner (Some (Ready (Ok tt))) new → Found_ready new
      by (Ok true) checked after =
          let still = checked_ok eq s old.services i h.1 checked in
          subst Found_ready (sym after.2) (record {
            index = i;
            kept = is;
            key = still.entry.0;
            service = still.left;
            there = subst (λ (es : List (K × S)). slice_get es i ≡ Some (still.entry.0, still.left)) (sym still.written) (there_written old.services.ready i still.entry still.left still.at);
            before = still.entry.1;
            ready = still.polled;
          })
      by (Ok false) checked after = absurd (let no = goes_on {E = E} {X = X} after.0 (Ready (Ok tt)) (sym after.3) in let f = no.1 in cc)
      by (Err x) checked after = absurd (let no = goes_on {E = E} {X = X} after.0 (Ready (Ok tt)) (sym after.3) in let f = no.1 in cc)

  promoted_ok : (inner : Result (Unit {0}) (Error E X)) (old new : BalanceView D R K S) → AfterPromotion eq s loaded cmp drew inner old (Ready (Ok tt)) new → Found_ready new
  promoted_ok (Err x) old new h = absurd (let no = h.0 in cc)
  promoted_ok (Ok u) old new h = passed_ok h.last.kept h.last new refl h.ends

  changed_ok : (inner : Result (Unit {0}) (Error E X)) (old new : BalanceView D R K S) → AfterChanges eq s loaded cmp drew inner old (Ready (Ok tt)) new → Found_ready new
  changed_ok (Err x) old new h = absurd (let no = h.0 in cc)
  changed_ok (Ok u) old new h = promoted_ok h.0 h.1 new h.3

  -- a call after such a poll
  reaches : (v : BalanceView D R K S) (request : Q) (future : Option G) (new : BalanceView D R K S) → Found_ready v → Called eq s v request future new → Reaches s v request future
  reaches v request future new found h = by v.kept refl h
    where
      by : (kept : Option ℕ) → v.kept ≡ kept → MatchOption kept ⊥ (λ i. (inner : G) × CacheCalled eq s v.services i request inner new.services
          × (future ≡ Some inner) × (new ≡ record v { services = new.services; kept = None })) → Reaches s v request future
      by None is h = absurd h
      by (Some i) is (inner, called, given, after) =
          let at : i ≡ found.index = same_index i found.index (sym is ∙ found.kept) in
          let here : slice_get v.services.ready i ≡ Some (found.key, found.service) = subst (λ (j : ℕ). slice_get v.services.ready j ≡ Some (found.key, found.service)) (sym at) found.there in
          let same : (called.key, called.service) ≡ (found.key, found.service) = taken (called.key, called.service) (found.key, found.service) (sym called.there ∙ here) in
          let service : called.service ≡ found.service = ap (λ (e : K × S). e.1) same in
          (i, is, found.key, found.service, here, (found.before, found.ready), inner, called.left, subst (λ (x : S). s.called x request inner called.left) service called.called, given)

  -- the choice
  chooses : (old new : BalanceView D R K S) (answer : Option (Poll (Result (Unit {0}) (Error E X)))) (i : ℕ) → Chooses eq s loaded cmp drew old answer new → new.kept ≡ Some i → IsChosen loaded cmp drew new.services.ready new.rng i
  chooses old new answer i h kept =
      let index : h.0 ≡ Some i = sym (ap (λ (v : BalanceView D R K S). v.kept) h.4) ∙ kept in
      subst (λ (v : BalanceView D R K S). IsChosen loaded cmp drew v.services.ready v.rng i) (sym h.4) (picked loaded cmp drew old.services.ready old.services.ready old.rng h.0 h.1 i refl h.2 index)

  -- an iteration that is not the last
  passes_on : (kept : Option ℕ) (old new : BalanceView D R K S) (i : ℕ) → IterationAt {X = X} eq s loaded cmp drew kept old None new → new.kept ≡ Some i → IsChosen loaded cmp drew new.services.ready new.rng i
  passes_on None old new i h at = chooses old new None i h at
  passes_on (Some j) old new i h at = by h.0 h.3
    where
      by : (inner : Result Bool (Failed K E)) → AfterCheck {X = X} eq s loaded cmp drew (record old { services = h.1 }) j inner None new → IsChosen loaded cmp drew new.services.ready new.rng i
      by (Ok true) after = absurd (let no = after.1 in cc)
      by (Ok false) after = chooses (record old { services = h.1 }) new None i after at
      by (Err x) after = chooses (record old { services = h.1 }) new None i after at

  -- The index was kept at first, or chosen from the endpoints that are ready.
  abbrev Kept_from : BalanceView D R K S → BalanceView D R K S → ℕ → Type 0
  Kept_from old new i = (old.kept ≡ Some i) ⊎ IsChosen loaded cmp drew new.services.ready new.rng i

  went : (n : ℕ) (old new : BalanceView D R K S × List (K × S)) (i : ℕ) → Iterates (CountedIteration {X = X} eq s loaded cmp drew) n old new → new.0.kept ≡ Some i → Kept_from old.0 new.0 i
  unfolding Iterates
  went zero old new i h at = inl (sym (ap (λ (v : BalanceView D R K S × List (K × S)). v.0.kept) h) ∙ at)
  went (suc n) old new i h at = inr (passes_on h.0.0.kept h.0.0 new.0 i h.2.0 at)

  abbrev Keeps : BalanceView D R K S → BalanceView D R K S → ℕ → Type 0
  Keeps old new i = (old.kept ≡ Some i) ⊎ ((ready : List (K × S)) × (left : S) × (new.services.ready ≡ set_value_at ready i left) × IsChosen loaded cmp drew ready new.rng i)

  last_pass : (first : BalanceView D R K S) (kept : Option ℕ) (old new : BalanceView D R K S) (answer : Poll (Result (Unit {0}) (Error E X))) (i : ℕ) → old.kept ≡ kept
      → ((j : ℕ) → old.kept ≡ Some j → Kept_from first old j) → IterationAt {X = X} eq s loaded cmp drew kept old (Some answer) new → new.kept ≡ Some i → Keeps first new i
  last_pass first None old new answer i is from h at =
      absurd (let no = goes_on {E = E} {X = X} h.0 answer (sym h.3) in let f : h.0 ≡ Some i = sym (ap (λ (v : BalanceView D R K S). v.kept) h.4) ∙ at in let g = no.0 in cc)
  last_pass first (Some j) old new answer i is from h at = by h.0 h.2 h.3
    where
      by : (inner : Result Bool (Failed K E)) → Checked eq s old.services j inner h.1 → AfterCheck {X = X} eq s loaded cmp drew (record old { services = h.1 }) j inner (Some answer) new → Keeps first new i
      by (Ok true) checked after =
          let still = checked_ok eq s old.services j h.1 checked in
          let here : i ≡ j = same_index i j (sym at ∙ ap (λ (v : BalanceView D R K S). v.kept) after.2 ∙ is) in
          let written : new.services.ready ≡ set_value_at old.services.ready i still.left =
          ap (λ (v : BalanceView D R K S). v.services.ready) after.2 ∙ still.written ∙ ap (λ (k : ℕ). set_value_at old.services.ready k still.left) (sym here) in
          let rng : new.rng ≡ old.rng = ap (λ (v : BalanceView D R K S). v.rng) after.2 in
          ⊎_elim (λ kept. inl kept)
          (λ chosen. inr (old.services.ready, still.left, written, subst (λ (g : R). IsChosen loaded cmp drew old.services.ready g i) (sym rng) chosen)) (from i (is ∙ ap Some (sym here)))
      by (Ok false) checked after = absurd (let no = goes_on {E = E} {X = X} after.0 answer (sym after.3) in let f : after.0 ≡ Some i = sym (ap (λ (v : BalanceView D R K S). v.kept) after.4) ∙ at in let g = no.0 in cc)
      by (Err x) checked after = absurd (let no = goes_on {E = E} {X = X} after.0 answer (sym after.3) in let f : after.0 ≡ Some i = sym (ap (λ (v : BalanceView D R K S). v.kept) after.4) ∙ at in let g = no.0 in cc)

  promoted_keeps : (inner : Result (Unit {0}) (Error E X)) (old : BalanceView D R K S) (answer : Poll (Result (Unit {0}) (Error E X))) (new : BalanceView D R K S) (i : ℕ)
      → AfterPromotion eq s loaded cmp drew inner old answer new → new.kept ≡ Some i → Keeps old new i
  promoted_keeps (Err x) old answer new i h at = inl (sym (ap (λ (v : BalanceView D R K S). v.kept) h.1) ∙ at)
  promoted_keeps (Ok u) old answer new i h at =
      last_pass old h.last.kept h.last new answer i refl (λ j kept. went h.count (old, []) (h.last, h.polled) j h.went kept) h.ends at

  changed_keeps : (inner : Result (Unit {0}) (Error E X)) (old : BalanceView D R K S) (answer : Poll (Result (Unit {0}) (Error E X))) (new : BalanceView D R K S) (i : ℕ)
      → AfterChanges eq s loaded cmp drew inner old answer new → new.kept ≡ Some i → Keeps old new i
  changed_keeps (Err x) old answer new i h at = inl (sym (ap (λ (v : BalanceView D R K S). v.kept) h.1) ∙ at)
  changed_keeps (Ok u) old answer new i h at =
      ⊎_elim (λ kept. inl (sym (ap (λ (v : BalanceView D R K S). v.kept) h.2.1) ∙ kept)) (λ chosen. inr chosen) (promoted_keeps h.0 h.1 answer new i h.3 at)

-- Reading keeps the index.
module _ {D R K S X : Type 0} (discovered : D → Found K S X → D → Type 0) (eq : K → K → Bool) (E : Type 0) where
  found_kept : (old : BalanceView D R K S) (found : Found K S X) (answer : Option (Result (Unit {0}) (Error E X))) (new : BalanceView D R K S) → AfterFound discovered eq old found answer new → new.kept ≡ old.kept
  found_kept old (Ready (Some (Ok (Insert key service)))) answer new h = ⊎_elim (λ done. ap (λ (v : BalanceView D R K S). v.kept) done.1) (λ full. ap (λ (v : BalanceView D R K S). v.kept) full.1) h
  found_kept old (Ready (Some (Ok (Remove key)))) answer new h = ap (λ (v : BalanceView D R K S). v.kept) h.1
  found_kept old (Ready (Some (Err x))) answer new h = ap (λ (v : BalanceView D R K S). v.kept) h.1
  found_kept old (Ready None) answer new h = ap (λ (v : BalanceView D R K S). v.kept) h.1
  found_kept old Pending answer new h = ap (λ (v : BalanceView D R K S). v.kept) h.1

  read_kept : (old : BalanceView D R K S) (answer : Option (Result (Unit {0}) (Error E X))) (new : BalanceView D R K S) → Reads discovered eq old answer new → new.kept ≡ old.kept
  read_kept old answer new h = found_kept (record old { discover = h.1 }) h.0 answer new h.3

  went_kept : (n : ℕ) (old new : BalanceView D R K S) → Iterates (Reads discovered eq {E = E}) n old new → new.kept ≡ old.kept
  unfolding Iterates
  went_kept zero old new h = ap (λ (v : BalanceView D R K S). v.kept) h
  went_kept (suc n) old new h = read_kept h.0 None new h.2 ∙ went_kept n old h.0 h.1

  all_kept : (old : BalanceView D R K S) (answer : Result (Unit {0}) (Error E X)) (new : BalanceView D R K S) → ReadsAll discovered eq old answer new → new.kept ≡ old.kept
  all_kept old answer new h = by old.is_over h
    where
      by : (over : Bool) → IfThenElse over ((answer ≡ Ok tt) × (new ≡ old)) (Iterations (Reads discovered eq) (Ok tt) old answer new) → new.kept ≡ old.kept
      by true h = ap (λ (v : BalanceView D R K S). v.kept) h.1
      by false h = ⊎_elim (λ ends. read_kept h.last (Some answer) new ends.1 ∙ went_kept h.count old h.last h.went)
          (λ tired. ap (λ (v : BalanceView D R K S). v.kept) tired.2 ∙ went_kept h.count old h.last h.went) h.ends

  changes_kept : (change : Option (K × S)) (old : BalanceView D R K S) (answer : Result (Unit {0}) (Error E X)) (new : BalanceView D R K S) → ChangedAt discovered eq change old answer new → new.kept ≡ old.kept
  changes_kept None old answer new h = all_kept old answer new h
  changes_kept (Some e) old answer new h = ⊎_elim (λ full. ap (λ (v : BalanceView D R K S). v.kept) full.1)
      (λ goes. all_kept (record old { services = pushed eq old.services e.0 e.1; change = None }) answer new goes) h

-- What holds of each endpoint under its key, and of what a poll leaves of it.
module _ {K S : Type 0} (eq : K → K → Bool) (laws : IsEquivalence eq) (P : K → S → Type 0) (congr : (j k : K) (v : S) → eq j k ≡ true → P j v → P k v) where
  abbrev Each : List (K × S) → Type 0
  Each es = All (λ (e : K × S). P e.0 e.1) es

  abbrev Asked : PendingView K S → Type 0
  Asked p = p.cancelled ≡ false → P p.key p.service

  -- It holds of each, no two ready keys are equal, and no two that wait.
  record Holds (cache : ReadyCacheView K S) : Type 0 where
    ready : Each cache.ready
    pending : All Asked cache.pending
    distinct : IsDistinct eq (keys_of cache.ready)
    apart : Apart eq cache.pending

  at_index : (es : List (K × S)) (i : ℕ) (e : K × S) → slice_get es i ≡ Some e → Each es → P e.0 e.1
  at_index es i e at h = subst (λ (x : K × S). P x.0 x.1) (get_or_from_slice_get es i e e at) (All-get_or (λ (x : K × S). P x.0 x.1) es i e (slice_get_within es i e at) h)

  written : (es : List (K × S)) (i : ℕ) (e : K × S) (w : S) → slice_get es i ≡ Some e → P e.0 w → Each es → Each (set_value_at es i w)
  written [] i e w at here h = absurd (cc)
  written (x ∷ es) zero e w at here h =
      let same : x ≡ e = ap (λ o. unwrap_or o x) at in
      All-cons (λ (y : K × S). P y.0 y.1) (x.0, w) es (subst (λ (y : K × S). P y.0 w) (sym same) here) (All-tail (λ (y : K × S). P y.0 y.1) x es h)
  written (x ∷ es) (suc i) e w at here h =
      All-cons (λ (y : K × S). P y.0 y.1) x (set_value_at es i w) (All-head (λ (y : K × S). P y.0 y.1) x es h) (written es i e w at here (All-tail (λ (y : K × S). P y.0 y.1) x es h))

  some_there : (es : List (K × S)) (i : ℕ) (e : K × S) → slice_get es i ≡ Some e → 0 < length es
  some_there es i e at = let inside = slice_get_within es i e at in omega (arith, inside)

  -- the keys that are left, each of which differs from the one that is gone
  distinct_removed : (es : List (K × S)) (i : ℕ) (e d : K × S) → slice_get es i ≡ Some e → IsDistinct eq (keys_of es)
      → AllByRecursion (λ y. eq e.0 y ≡ false) (keys_of (swap_remove es i d)) × IsDistinct eq (keys_of (swap_remove es i d))
  distinct_removed es i e d at h =
      let some = some_there es i e at in
      let inside : i < length (keys_of es) = let j = slice_get_within es i e at in let l = length-keys_of es in omega (arith, j, l) in
      let key : e.0 ≡ get_or (keys_of es) i e.0 = sym (get_or_from_slice_get (keys_of es) i e.0 e.0 (key_at es i e at)) in
      let moved = IsDistinct-IsPermutation eq laws.symm (keys_of es) (e.0 ∷ swap_remove (keys_of es) i e.0) (IsPermutation-swap_remove (keys_of es) i e.0 inside key) h in
      let is : keys_of (swap_remove es i d) ≡ swap_remove (keys_of es) i e.0 =
      ap keys_of (swap_remove-default es i d e some) ∙ map-swap_remove (λ (x : K × S). x.0) es i e some in (
        subst (AllByRecursion (λ y. eq e.0 y ≡ false)) (sym is) (IsDistinct-head eq e.0 (swap_remove (keys_of es) i e.0) moved),
        subst (IsDistinct eq) (sym is) (IsDistinct-tail eq e.0 (swap_remove (keys_of es) i e.0) moved),
      )
    where
      key_at : (es : List (K × S)) (i : ℕ) (e : K × S) → slice_get es i ≡ Some e → slice_get (keys_of es) i ≡ Some e.0
      key_at [] i e at = absurd (cc)
      key_at (x ∷ es) zero e at = ap (λ (y : K × S). Some y.0) (ap (λ o. unwrap_or o x) at)
      key_at (x ∷ es) (suc i) e at = key_at es i e at

  -- one more, or a new value
  inserted : (es : List (K × S)) (k : K) (v : S) → P k v → Each es → Each (insert_entry eq es k v)
  inserted [] k v here h = All-cons (λ (y : K × S). P y.0 y.1) (k, v) [] here h
  inserted (e ∷ es) k v here h = by (inserted es k v here (All-tail (λ (y : K × S). P y.0 y.1) e es h)) (eq k e.0) refl
    where
      by : Each (insert_entry eq es k v) → (b : Bool) → eq k e.0 ≡ b → Each (if b then (e.0, v) ∷ es else e ∷ insert_entry eq es k v)
      by rest true same = All-cons (λ (y : K × S). P y.0 y.1) (e.0, v) es (congr k e.0 v same here) (All-tail (λ (y : K × S). P y.0 y.1) e es h)
      by rest false other = All-cons (λ (y : K × S). P y.0 y.1) e (insert_entry eq es k v) (All-head (λ (y : K × S). P y.0 y.1) e es h) rest

  apart_inserted : (es : List (K × S)) (k : K) (v : S) (j : K) → eq j k ≡ false → AllByRecursion (λ y. eq j y ≡ false) (keys_of es) → AllByRecursion (λ y. eq j y ≡ false) (keys_of (insert_entry eq es k v))
  apart_inserted [] k v j other h = (other, tt)
  apart_inserted (e ∷ es) k v j other h = by (apart_inserted es k v j other h.1) (eq k e.0)
    where
      by : AllByRecursion (λ y. eq j y ≡ false) (keys_of (insert_entry eq es k v)) → (b : Bool) → AllByRecursion (λ y. eq j y ≡ false) (keys_of (if b then (e.0, v) ∷ es else e ∷ insert_entry eq es k v))
      by rest true = h
      by rest false = (h.0, rest)

  inserted_by : (e : K × S) (es : List (K × S)) (k : K) (v : S) → IsDistinct eq (e.0 ∷ keys_of es) → IsDistinct eq (keys_of (insert_entry eq es k v)) → (b : Bool) → eq k e.0 ≡ b
      → IsDistinct eq (keys_of (if b then (e.0, v) ∷ es else e ∷ insert_entry eq es k v))
  unfolding IsDistinct
  inserted_by e es k v h rest true same = h
  inserted_by e es k v h rest false other = (apart_inserted es k v e.0 (laws.symm e.0 k ∙ other) h.0, rest)

  none_distinct : IsDistinct eq []
  unfolding IsDistinct
  none_distinct = tt

  distinct_inserted : (es : List (K × S)) (k : K) (v : S) → IsDistinct eq (keys_of es) → IsDistinct eq (keys_of (insert_entry eq es k v))
  unfolding IsDistinct
  distinct_inserted [] k v h = (tt, tt)
  distinct_inserted (e ∷ es) k v h = inserted_by e es k v h (distinct_inserted es k v h.1) (eq k e.0) refl

  -- the pending ones
  back : (ps : List (PendingView K S)) (k : K) (v : S) → P k v → All Asked ps → All Asked (put_back eq k v ps)
  back ps k v here h = by (is_pending eq k ps)
    where
      by : (b : Bool) → All Asked (if b then ps else ps ++ pending_entry k v ∷ [])
      by true = h
      by false = All-append Asked ps (pending_entry k v ∷ []) h (All-cons Asked (pending_entry k v) [] (λ e. here) (All-nil Asked))

  marked : (k : K) (ps : List (PendingView K S)) → All Asked ps → All Asked (cancel eq k ps)
  marked k [] h = h
  marked k (p ∷ ps) h = by (marked k ps (All-tail Asked p ps h)) (is_entry_of eq k p)
    where
      by : All Asked (cancel eq k ps) → (b : Bool) → All Asked (if b then (record p { cancelled = true }) ∷ ps else p ∷ cancel eq k ps)
      by rest true = All-cons Asked (record p { cancelled = true }) ps (λ e. absurd (true≢false e)) (All-tail Asked p ps h)
      by rest false = All-cons Asked p (cancel eq k ps) (All-head Asked p ps h) rest

  apart_without : (before : List (PendingView K S)) (p : PendingView K S) (rest : List (PendingView K S)) → Apart eq (before ++ p ∷ rest) → Apart eq (before ++ rest)
  apart_without [] p rest h = h.1
  apart_without (q ∷ before) p rest h = (λ live. fewer (h.0 live), apart_without before p rest h.1)
    where
      fewer : is_pending eq q.key (before ++ p ∷ rest) ≡ false → is_pending eq q.key (before ++ rest) ≡ false
      fewer none =
          let parts : (is_pending eq q.key before || (is_entry_of eq q.key p || is_pending eq q.key rest)) ≡ false = sym (list_any-append (is_entry_of eq q.key) before (p ∷ rest)) ∙ none in
          let first = left_false (is_pending eq q.key before) (is_entry_of eq q.key p || is_pending eq q.key rest) parts in
          let last = right_false (is_entry_of eq q.key p) (is_pending eq q.key rest) (right_false (is_pending eq q.key before) (is_entry_of eq q.key p || is_pending eq q.key rest) parts) in
          list_any-append (is_entry_of eq q.key) before rest ∙ (λ i. first i || last i)

  apart_polled : (before : List (PendingView K S)) (p : PendingView K S) (left : S) (rest : List (PendingView K S)) → Apart eq (before ++ p ∷ rest)
      → Apart eq ((before ++ (record p { service = left }) ∷ []) ++ rest)
  apart_polled [] p left rest h = h
  apart_polled (q ∷ before) p left rest h = (λ live. same (h.0 live), apart_polled before p left rest h.1)
    where
      same : is_pending eq q.key (before ++ p ∷ rest) ≡ false → is_pending eq q.key ((before ++ (record p { service = left }) ∷ []) ++ rest) ≡ false
      same none =
          ap (is_pending eq q.key) (append_assoc before ((record p { service = left }) ∷ []) rest)
          ∙ list_any-append (is_entry_of eq q.key) before ((record p { service = left }) ∷ rest)
          ∙ sym (list_any-append (is_entry_of eq q.key) before (p ∷ rest)) ∙ none

  pushes : (old : ReadyCacheView K S) (k : K) (v : S) → P k v → Holds old → Holds (pushed eq old k v)
  pushes old k v here h = record {
    ready = h.ready;
    pending = All-append Asked (cancel eq k old.pending) (pending_entry k v ∷ []) (marked k old.pending h.pending) (All-cons Asked (pending_entry k v) [] (λ e. here) (All-nil Asked));
    distinct = h.distinct;
    apart = apart_new eq laws k v old.pending h.apart;
  }

  leaves_back : (old : ReadyCacheView K S) (i : ℕ) (e : K × S) (left : S) → slice_get old.ready i ≡ Some e → P e.0 left → Holds old
      → Holds (record { ready = swap_remove old.ready i e; pending = put_back eq e.0 left old.pending })
  leaves_back old i e left at here h = record {
    ready = All-swap_remove (λ (x : K × S). P x.0 x.1) old.ready i e (some_there old.ready i e at) h.ready;
    pending = back old.pending e.0 left here h.pending;
    distinct = (distinct_removed old.ready i e e at h.distinct).1;
    apart = apart_back eq laws e.0 left old.pending h.apart;
  }

  module _ {Q A E G : Type 0} (s : ServiceOf S Q A E G) (closed : (k : K) (old : S) (answer : Poll (Result (Unit {0}) E)) (new : S) → P k old → s.polled old answer new → P k new) where
    module _ (q : PendingView K S) (rest : List (PendingView K S)) (answer : Poll (Result (Unit {0}) (CacheError K E))) (new : ReadyCacheView K S)
        (more : (before : List (PendingView K S)) (ready : List (K × S)) → EachPolled eq s before rest ready answer new → All Asked before → Each ready → IsDistinct eq (keys_of ready)
        → Apart eq (before ++ rest) → Holds new)
        (before : List (PendingView K S)) (ready : List (K × S)) (b : All Asked before) (p : All Asked (q ∷ rest)) (r : Each ready) (d : IsDistinct eq (keys_of ready))
        (a : Apart eq (before ++ q ∷ rest)) where
      answered : (inner : Poll (Result (Unit {0}) E)) (left : S) → P q.key left → PollCases inner
          (EachPolled eq s before rest (insert_entry eq ready q.key left) answer new)
          (λ e. (answer ≡ Ready (Err (EndpointFailed q.key e))) × (new ≡ record { ready = ready; pending = before ++ rest }))
          (EachPolled eq s (before ++ (record q { service = left }) ∷ []) rest ready answer new) → Holds new
      answered (Ready (Ok u)) left here h =
          more before (insert_entry eq ready q.key left) h b (inserted ready q.key left here r) (distinct_inserted ready q.key left d) (apart_without before q rest a)
      answered (Ready (Err e)) left here h = subst Holds (sym h.1) (record {
        ready = r;
        pending = All-append Asked before rest b (All-tail Asked q rest p);
        distinct = d;
        apart = apart_without before q rest a;
      })
      answered Pending left here h = more (before ++ (record q { service = left }) ∷ []) ready h
          (All-append Asked before ((record q { service = left }) ∷ []) b (All-cons Asked (record q { service = left }) [] (λ e. here) (All-nil Asked))) r d (apart_polled before q left rest a)

      first_asked : (cancelled : Bool) → q.cancelled ≡ cancelled → IfThenElse cancelled (EachPolled eq s before rest ready answer new)
          (((answer ≡ Ready (Err NoRoom)) × (new ≡ record { ready = ready; pending = before ++ q ∷ rest }))
          ⊎ ((inner : Poll (Result (Unit {0}) E)) × (left : S) × s.polled q.service inner left × PollCases inner
          (EachPolled eq s before rest (insert_entry eq ready q.key left) answer new)
          (λ e. (answer ≡ Ready (Err (EndpointFailed q.key e))) × (new ≡ record { ready = ready; pending = before ++ rest }))
          (EachPolled eq s (before ++ (record q { service = left }) ∷ []) rest ready answer new))) → Holds new
      first_asked true e h = more before ready h b r d (apart_without before q rest a)
      first_asked false e h = ⊎_elim
          (λ full. subst Holds (sym full.1) (record { ready = r; pending = All-append Asked before (q ∷ rest) b p; distinct = d; apart = a }))
          (λ polled. answered polled.0 polled.1 (closed q.key q.service polled.0 polled.1 (All-head Asked q rest p e) polled.2) polled.3) h

    asked : (pending before : List (PendingView K S)) (ready : List (K × S)) (answer : Poll (Result (Unit {0}) (CacheError K E))) (new : ReadyCacheView K S)
        → EachPolled eq s before pending ready answer new → All Asked before → All Asked pending → Each ready → IsDistinct eq (keys_of ready) → Apart eq (before ++ pending) → Holds new
    asked [] before ready answer new h b p r d a = subst Holds (sym h.1) (record { ready = r; pending = b; distinct = d; apart = subst (Apart eq) (append-nil before) a })
    asked (q ∷ rest) before ready answer new h b p r d a =
        first_asked q rest answer new (λ earlier others h c r2 d2 a2. asked rest earlier others answer new h c (All-tail Asked q rest p) r2 d2 a2) before ready b p r d a q.cancelled refl h

    pending_polled : (old : ReadyCacheView K S) (answer : Poll (Result (Unit {0}) (CacheError K E))) (new : ReadyCacheView K S) → PendingPolled eq s old answer new → Holds old → Holds new
    pending_polled old answer new h c = asked old.pending [] old.ready answer new h (All-nil Asked) c.pending c.ready c.distinct c.apart

    promoted : {X : Type 0} (n : ℕ) (old : ReadyCacheView K S) (answer : Result (Unit {0}) (Error E X)) (new : ReadyCacheView K S) → PromotesAfter eq s n old answer new → Holds old → Holds new
    promoted zero old answer new h c = pending_polled old h.0 new h.1 c
    promoted (suc n) old answer new h c = promoted n h.0 answer new h.4 (pending_polled old (Ready (Err (EndpointFailed h.1 h.2))) h.0 h.3 c)

    settled : (old : ReadyCacheView K S) (i : ℕ) (e : K × S) (left : S) (inner : Poll (Result (Unit {0}) E)) (answer : Result Bool (Failed K E)) (new : ReadyCacheView K S)
        → slice_get old.ready i ≡ Some e → P e.0 left → Settles eq s old i e left inner answer new → Holds old → Holds new
    settled old i e left (Ready (Ok u)) answer new at here h c = subst Holds (sym h.1) (record {
      ready = written old.ready i e left at here c.ready;
      pending = c.pending;
      distinct = subst (IsDistinct eq) (sym (keys_written old.ready i left)) c.distinct;
      apart = c.apart;
    })
    settled old i e left (Ready (Err x)) answer new at here h c = subst Holds (sym h.1) (record {
      ready = All-swap_remove (λ (x : K × S). P x.0 x.1) old.ready i e (some_there old.ready i e at) c.ready;
      pending = c.pending;
      distinct = (distinct_removed old.ready i e e at c.distinct).1;
      apart = c.apart;
    })
    settled old i e left Pending answer new at here h c = subst Holds (sym h.1) (leaves_back old i e left at here c)

    checked : (old : ReadyCacheView K S) (i : ℕ) (answer : Result Bool (Failed K E)) (new : ReadyCacheView K S) → Checked eq s old i answer new → Holds old → Holds new
    checked old i answer new h c = by (slice_get old.ready i) refl h
      where
        by : (o : Option (K × S)) → slice_get old.ready i ≡ o → MatchOption o ((answer ≡ Ok false) × (new ≡ old))
            (λ e. (inner : Poll (Result (Unit {0}) E)) × (left : S) × s.polled e.1 inner left × Settles eq s old i e left inner answer new) → Holds new
        by None at h = subst Holds (sym h.1) c
        by (Some e) at h = settled old i e h.1 h.0 answer new at (closed e.0 e.1 h.0 h.1 (at_index old.ready i e at c.ready) h.2) h.3 c

    -- the same of a balancer, and of the insert that it keeps
    record Kept {D R : Type 0} (at : D) (v : BalanceView D R K S) : Type 0 where
      services : Holds v.services
      change : IfSome v.change (λ e. P e.0 e.1)
      same : v.discover ≡ at

    module _ {D R M : Type 0} (X : Type 0) (at : D) (loaded : S → M → Type 0) (cmp : M → M → Option Ordering) (drew : R → ℕ → R → Type 0) where
      chooses_kept : (old : BalanceView D R K S) (answer : Option (Poll (Result (Unit {0}) (Error E X)))) (new : BalanceView D R K S) → Chooses eq s loaded cmp drew old answer new → Kept at old → Kept at new
      chooses_kept old answer new h c = subst (Kept at) (sym h.4) (record { services = c.services; change = c.change; same = c.same })

      after_check : (old : BalanceView D R K S) (i : ℕ) (inner : Result Bool (Failed K E)) (answer : Option (Poll (Result (Unit {0}) (Error E X)))) (new : BalanceView D R K S)
          → AfterCheck eq s loaded cmp drew old i inner answer new → Kept at old → Kept at new
      after_check old i (Ok true) answer new h c = subst (Kept at) (sym h.2) c
      after_check old i (Ok false) answer new h c = chooses_kept old answer new h c
      after_check old i (Err x) answer new h c = chooses_kept old answer new h c

      passed : (kept : Option ℕ) (old : BalanceView D R K S) (answer : Option (Poll (Result (Unit {0}) (Error E X)))) (new : BalanceView D R K S) → IterationAt eq s loaded cmp drew kept old answer new
          → Kept at old → Kept at new
      passed None old answer new h c = chooses_kept old answer new h c
      passed (Some i) old answer new h c = after_check (record old { services = h.1 }) i h.0 answer new h.3 (record { services = checked old.services i h.0 h.1 h.2 c.services; change = c.change; same = c.same })

      went_choosing : (n : ℕ) (old new : BalanceView D R K S × List (K × S)) → Iterates (CountedIteration {X = X} eq s loaded cmp drew) n old new → Kept at old.0 → Kept at new.0
      unfolding Iterates
      went_choosing zero old new h c = subst (λ (v : BalanceView D R K S × List (K × S)). Kept at v.0) (sym h) c
      went_choosing (suc n) old new h c = passed h.0.0.kept h.0.0 None new.0 h.2.0 (went_choosing n old h.0 h.1 c)

      after_promotion : (inner : Result (Unit {0}) (Error E X)) (old : BalanceView D R K S) (answer : Poll (Result (Unit {0}) (Error E X))) (new : BalanceView D R K S)
          → AfterPromotion eq s loaded cmp drew inner old answer new → Kept at old → Kept at new
      after_promotion (Err e) old answer new h c = subst (Kept at) (sym h.1) c
      after_promotion (Ok u) old answer new h c = passed h.last.kept h.last (Some answer) new h.ends (went_choosing h.count (old, []) (h.last, h.polled) h.went c)

      after_changes : (inner : Result (Unit {0}) (Error E X)) (old : BalanceView D R K S) (answer : Poll (Result (Unit {0}) (Error E X))) (new : BalanceView D R K S)
          → AfterChanges eq s loaded cmp drew inner old answer new → Kept at old → Kept at new
      after_changes (Err e) old answer new h c = subst (Kept at) (sym h.1) c
      after_changes (Ok u) old answer new h c = after_promotion h.0 h.1 answer new h.3 (subst (Kept at) (sym h.2.1)
          (record { services = promoted h.2.0.0 old.services h.0 h.1.services h.2.0.1 c.services; change = c.change; same = c.same }))

-- what holds by one fact holds by another
module _ {K S : Type 0} (eq : K → K → Bool) (laws : IsEquivalence eq) (P N : K → S → Type 0) (congr : (j k : K) (v : S) → eq j k ≡ true → P j v → P k v)
    (congr_now : (j k : K) (v : S) → eq j k ≡ true → N j v → N k v) where
  weaker : (cache : ReadyCacheView K S) → ((k : K) (v : S) → P k v → N k v) → Holds eq laws P congr cache → Holds eq laws N congr_now cache
  weaker cache on h = record {
    ready = All-weaker (λ (e : K × S). P e.0 e.1) (λ (e : K × S). N e.0 e.1) (λ e p. on e.0 e.1 p) cache.ready h.ready;
    pending = All-weaker (Asked eq laws P congr) (Asked eq laws N congr_now) (λ q p live. on q.key q.service (p live)) cache.pending h.pending;
    distinct = h.distinct;
    apart = h.apart;
  }

  module _ (key : K) (on : (k : K) (v : S) → eq key k ≡ false → P k v → N k v) where
    by_keys : (es : List (K × S)) → AllByRecursion (λ k. eq key k ≡ false) (keys_of es) → All (λ (e : K × S). P e.0 e.1) es → All (λ (e : K × S). N e.0 e.1) es
    by_keys [] none h = All-nil (λ (e : K × S). N e.0 e.1)
    by_keys (e ∷ es) none h = All-cons (λ (x : K × S). N x.0 x.1) e es (on e.0 e.1 none.0 (All-head (λ (x : K × S). P x.0 x.1) e es h))
        (by_keys es none.1 (All-tail (λ (x : K × S). P x.0 x.1) e es h))

    others : (k : K) (ks : List K) → eq key k ≡ true → AllByRecursion (λ j. eq k j ≡ false) ks → AllByRecursion (λ j. eq key j ≡ false) ks
    others k [] same h = tt
    others k (j ∷ ks) same h = (laws.congr key k j same ∙ h.0, others k ks same h.1)

    abbrev Left : List (K × S) → Type 0
    Left xs = All (λ (x : K × S). N x.0 x.1) xs × IsDistinct eq (keys_of xs)

    ready_left : (es : List (K × S)) → IsDistinct eq (keys_of es) → All (λ (e : K × S). P e.0 e.1) es
        → All (λ (e : K × S). N e.0 e.1) (swap_remove_entry (eq key) es) × IsDistinct eq (keys_of (swap_remove_entry (eq key) es))
    ready_left [] d h = (All-nil (λ (e : K × S). N e.0 e.1), d)
    ready_left (e ∷ es) d h = by (position (eq key) (keys_of (e ∷ es))) refl
      where
        by : (o : Option ℕ) → position (eq key) (keys_of (e ∷ es)) ≡ o → Left (option_map_or (λ i. swap_remove (e ∷ es) i e) o (e ∷ es))
        by None at = (by_keys (e ∷ es) (Missing-position (eq key) (e ∷ es) at).absent h, d)
        by (Some i) at =
            let there = at_position (eq key) (e ∷ es) i at in
            let left = distinct_removed eq laws P congr (e ∷ es) i there.0 e there.1 d in (
              by_keys (swap_remove (e ∷ es) i e) (others there.0.0 (keys_of (swap_remove (e ∷ es) i e)) there.2 left.0)
                  (All-swap_remove (λ (x : K × S). P x.0 x.1) (e ∷ es) i e (omega arith) h),
              left.1,
            )

    pending_left : (ps : List (PendingView K S)) → is_pending eq key ps ≡ false → All (Asked eq laws P congr) ps → All (Asked eq laws N congr_now) ps
    pending_left [] none h = All-nil (Asked eq laws N congr_now)
    pending_left (p ∷ ps) none h = All-cons (Asked eq laws N congr_now) p ps
        (λ live. on p.key p.service (differs live (left_false (is_entry_of eq key p) (is_pending eq key ps) none)) (All-head (Asked eq laws P congr) p ps h live))
        (pending_left ps (right_false (is_entry_of eq key p) (is_pending eq key ps) none) (All-tail (Asked eq laws P congr) p ps h))
      where
        differs : p.cancelled ≡ false → (not p.cancelled && eq key p.key) ≡ false → eq key p.key ≡ false
        differs live h = ap (λ b. not b && eq key p.key) (sym live) ∙ h

    evicts : (old : ReadyCacheView K S) → Holds eq laws P congr old → Holds eq laws N congr_now (evicted eq old key)
    evicts old h =
        let ready = ready_left old.ready h.distinct h.ready in record {
          ready = ready.0;
          pending = pending_left (cancel eq key old.pending) (none_after eq laws key old.pending h.apart) (marked eq laws P congr key old.pending h.pending);
          distinct = ready.1;
          apart = apart_cancel eq key old.pending h.apart;
        }

-- the change that a discovery returned, if it did
abbrev change_of : {K S X : Type 0} → Found K S X → List (Change K S)
change_of (Ready (Some (Ok change))) = change ∷ []
change_of found = []

changes_last : {K S X : Type 0} (all : List (Found K S X)) (found : Found K S X) → changes (all ++ found ∷ []) ≡ changes all ++ change_of found
changes_last [] (Ready (Some (Ok change))) = refl
changes_last [] (Ready (Some (Err x))) = refl
changes_last [] (Ready None) = refl
changes_last [] Pending = refl
changes_last (Ready (Some (Ok change)) ∷ all) found = ap (λ rest. change ∷ rest) (changes_last all found)
changes_last (Ready (Some (Err x)) ∷ all) found = changes_last all found
changes_last (Ready None ∷ all) found = changes_last all found
changes_last (Pending ∷ all) found = changes_last all found

finds_last : {D K S X : Type 0} (discovered : D → Found K S X → D → Type 0) (all : List (Found K S X)) (old mid new : D) (found : Found K S X) → Finds discovered old all mid → discovered mid found new
    → Finds discovered old (all ++ found ∷ []) new
finds_last discovered [] old mid new found h step = (new, subst (λ d. discovered d found new) h step, refl)
finds_last discovered (first ∷ rest) old mid new found h step = (h.0, h.1, finds_last discovered rest h.0 mid new found h.2 step)

module _ {K S Q A E G : Type 0} (eq : K → K → Bool) (laws : IsEquivalence eq) (s : ServiceOf S Q A E G) where
  came_congr : (all : List (Change K S)) (j k : K) (v : S) → eq j k ≡ true → Came eq s all j v → Came eq s all k v
  came_congr all j k v e h = record {
    before = h.before;
    other = h.other;
    first = h.first;
    after = h.after;
    place = h.place;
    same = sym (laws.congr j k h.other e) ∙ h.same;
    stays = All-weaker (λ (c : Change K S). removes eq j c ≡ false) (λ (c : Change K S). removes eq k c ≡ false) (λ c n. sym (alike c) ∙ n) h.after h.stays;
    leads = h.leads;
  }
    where
      alike : (c : Change K S) → removes eq j c ≡ removes eq k c
      alike (Remove other) = laws.congr j k other e
      alike (Insert other service) = refl

  led_on : (old mid new : S) → RunInside (relations s) (λ requests. Unit {0}) old mid → RunInside (relations s) (λ requests. Unit {0}) mid new → RunInside (relations s) (λ requests. Unit {0}) old new
  led_on old mid new first second = record {
    transitions = first.transitions ++ second.transitions;
    run = joined (relations s) old mid new first.transitions second.transitions first.run second.run;
    has = tt;
  }

  came_on : (all : List (Change K S)) (k : K) (old new : S) → Came eq s all k old → RunInside (relations s) (λ requests. Unit {0}) old new → Came eq s all k new
  came_on all k old new h run = record {
    before = h.before;
    other = h.other;
    first = h.first;
    after = h.after;
    place = h.place;
    same = h.same;
    stays = h.stays;
    leads = led_on h.first old new h.leads run;
  }

  came_polled : (all : List (Change K S)) (k : K) (old : S) (answer : Poll (Result (Unit {0}) E)) (new : S) → Came eq s all k old → s.polled old answer new → Came eq s all k new
  came_polled all k old answer new h polled = came_on all k old new h (one_poll (relations s) old new answer polled tt)

  -- one more change, which doesn't remove the key
  came_more : (all : List (Change K S)) (change : Change K S) (k : K) (v : S) → removes eq k change ≡ false → Came eq s all k v → Came eq s (all ++ change ∷ []) k v
  came_more all change k v n h = record {
    before = h.before;
    other = h.other;
    first = h.first;
    after = h.after ++ change ∷ [];
    place = ap (λ (l : List (Change K S)). l ++ change ∷ []) h.place ∙ append_assoc h.before (Insert h.other h.first ∷ h.after) (change ∷ []);
    same = h.same;
    stays = All-append (λ (c : Change K S). removes eq k c ≡ false) h.after (change ∷ []) h.stays
        (All-cons (λ (c : Change K S). removes eq k c ≡ false) change [] n (All-nil (λ (c : Change K S). removes eq k c ≡ false)));
    leads = h.leads;
  }

  came_now : (all : List (Change K S)) (k : K) (v : S) → Came eq s (all ++ Insert k v ∷ []) k v
  came_now all k v = record {
    before = all;
    other = k;
    first = v;
    after = [];
    place = refl;
    same = laws.refl k;
    stays = All-nil (λ (c : Change K S). removes eq k c ≡ false);
    leads = no_action (relations s) v v refl tt;
  }

  abbrev Each_came : List (Change K S) → ReadyCacheView K S → Type 0
  Each_came all cache = Holds eq laws (Came eq s all) (came_congr all) cache

  more_came : (all : List (Change K S)) (change : Change K S) (cache : ReadyCacheView K S) → ((k : K) → removes eq k change ≡ false) → Each_came all cache → Each_came (all ++ change ∷ []) cache
  more_came all change cache n h = weaker eq laws (Came eq s all) (Came eq s (all ++ change ∷ [])) (came_congr all) (came_congr (all ++ change ∷ [])) cache (λ k v c. came_more all change k v (n k) c) h

  module _ {D R X : Type 0} (discovered : D → Found K S X → D → Type 0) (first : D) where
    abbrev Came_at : D → List (Change K S) → BalanceView D R K S → Type 0
    Came_at at all v = Kept eq laws (Came eq s all) (came_congr all) s (came_polled all) at v

    -- what was read since the beginning, and where each endpoint came from
    record Since (at : D) (v : BalanceView D R K S) : Type 0 where
      found : List (Found K S X)
      finds : Finds discovered first found at
      came : Came_at at (changes found) v

    -- one more was read, with this change or without one
    reads_on : (at now : D) (v new : BalanceView D R K S) (found : Found K S X) (all : List (Found K S X)) → Finds discovered first all at → discovered at found now
        → Came_at now (changes all ++ change_of found) new → Since now new
    reads_on at now v new found all finds step came = record {
      found = all ++ found ∷ [];
      finds = finds_last discovered all first at now found finds step;
      came = subst (λ (l : List (Change K S)). Came_at now l new) (sym (changes_last all found)) came;
    }

    quiet : (at now : D) (all : List (Change K S)) (old new : BalanceView D R K S) → new.services ≡ old.services → new.change ≡ old.change → new.discover ≡ now → Came_at at all old → Came_at now (all ++ []) new
    quiet at now all old new services change same h = subst (λ (l : List (Change K S)). Came_at now l new) (sym (append-nil all)) (record {
      services = subst (Each_came all) (sym services) h.services;
      change = subst (λ (o : Option (K × S)). IfSome o (λ e. Came eq s all e.0 e.1)) (sym change) h.change;
      same = same;
    })

    pushes_came : (all : List (Change K S)) (at : D) (old : BalanceView D R K S) (k : K) (v : S) → Came eq s all k v → Came_at at all old → Came_at at all (record old { services = pushed eq old.services k v })
    pushes_came all at old k v here h = record {
      services = pushes eq laws (Came eq s all) (came_congr all) old.services k v here h.services;
      change = h.change;
      same = h.same;
    }

    module _ (at now : D) (old : BalanceView D R K S) (all : List (Found K S X)) (none : old.change ≡ None) (is : old.discover ≡ now) (finds : Finds discovered first all at)
        (h : Each_came (changes all) old.services) where
      kept_none : (l : List (Change K S)) → IfSome old.change (λ e. Came eq s l e.0 e.1)
      kept_none l = subst (λ (o : Option (K × S)). IfSome o (λ e. Came eq s l e.0 e.1)) (sym none) tt

      plain : (new : BalanceView D R K S) → new.services ≡ old.services → new.change ≡ old.change → new.discover ≡ old.discover → Came_at now (changes all ++ []) new
      plain new services change same = quiet now now (changes all) old new services change (same ∙ is) (record { services = h; change = kept_none (changes all); same = is })

      found_came : (found : Found K S X) (answer : Option (Result (Unit {0}) (Error E X))) (new : BalanceView D R K S) → discovered at found now → AfterFound discovered eq old found answer new → Since now new
      found_came (Ready (Some (Ok (Insert key service)))) answer new step t =
          let more : List (Change K S) = changes all ++ Insert key service ∷ [] in
          let there : Each_came more old.services = more_came (changes all) (Insert key service) old.services (λ k. refl) h in
          reads_on at now old new (Ready (Some (Ok (Insert key service)))) all finds step (⊎_elim
          (λ done. subst (Came_at now more) (sym done.1) (pushes_came more now old key service (came_now (changes all) key service) (record { services = there; change = kept_none more; same = is })))
          (λ full. subst (Came_at now more) (sym full.1) (record { services = there; change = came_now (changes all) key service; same = is })) t)
      found_came (Ready (Some (Ok (Remove key)))) answer new step t =
          let more : List (Change K S) = changes all ++ Remove key ∷ [] in
          reads_on at now old new (Ready (Some (Ok (Remove key)))) all finds step (subst (Came_at now more) (sym t.1) (record {
            services = evicts eq laws (Came eq s (changes all)) (Came eq s more) (came_congr (changes all)) (came_congr more) key
                (λ k v other c. came_more (changes all) (Remove key) k v (laws.symm k key ∙ other) c) old.services h;
            change = kept_none more;
            same = is;
          }))
      found_came (Ready (Some (Err x))) answer new step t = reads_on at now old new (Ready (Some (Err x))) all finds step
          (plain new (ap (λ (v : BalanceView D R K S). v.services) t.1) (ap (λ (v : BalanceView D R K S). v.change) t.1) (ap (λ (v : BalanceView D R K S). v.discover) t.1))
      found_came (Ready None) answer new step t = reads_on at now old new (Ready None) all finds step
          (plain new (ap (λ (v : BalanceView D R K S). v.services) t.1) (ap (λ (v : BalanceView D R K S). v.change) t.1) (ap (λ (v : BalanceView D R K S). v.discover) t.1))
      found_came Pending answer new step t = reads_on at now old new Pending all finds step
          (plain new (ap (λ (v : BalanceView D R K S). v.services) t.1) (ap (λ (v : BalanceView D R K S). v.change) t.1) (ap (λ (v : BalanceView D R K S). v.discover) t.1))

    -- where the discovery is now
    settle : (at : D) (v : BalanceView D R K S) → Since at v → Since v.discover v
    settle at v c = subst (λ (d : D). Since d v) (sym c.came.same) c

    stays_none : (old : BalanceView D R K S) (found : Found K S X) (new : BalanceView D R K S) → AfterFound discovered eq {E = E} old found None new → new.change ≡ old.change
    stays_none old (Ready (Some (Ok (Insert key service)))) new t = ⊎_elim (λ done. ap (λ (v : BalanceView D R K S). v.change) done.1) (λ full. absurd (let no = full.0 in cc)) t
    stays_none old (Ready (Some (Ok (Remove key)))) new t = ap (λ (v : BalanceView D R K S). v.change) t.1
    stays_none old (Ready (Some (Err x))) new t = absurd (let no = t.0 in cc)
    stays_none old (Ready None) new t = absurd (let no = t.0 in cc)
    stays_none old Pending new t = absurd (let no = t.0 in cc)

    read : (old : BalanceView D R K S) (answer : Option (Result (Unit {0}) (Error E X))) (new : BalanceView D R K S) → old.change ≡ None → Reads discovered eq old answer new
        → Since old.discover old → Since new.discover new
    read old answer new none h c = settle h.1 new
        (found_came old.discover h.1 (record old { discover = h.1 }) c.found none refl c.finds c.came.services h.0 answer new h.2 h.3)

    went_reading : (n : ℕ) (old new : BalanceView D R K S) → old.change ≡ None → Iterates (Reads discovered eq {E = E}) n old new → Since old.discover old → Since new.discover new × (new.change ≡ None)
    unfolding Iterates
    went_reading zero old new none h c =
        (subst (λ (v : BalanceView D R K S). Since v.discover v) (sym h) c, ap (λ (v : BalanceView D R K S). v.change) h ∙ none)
    went_reading (suc n) old new none h c =
        let before = went_reading n old h.0 none h.1 c in
        (read h.0 None new before.1 h.2 before.0, stays_none (record h.0 { discover = h.2.1 }) h.2.0 new h.2.3 ∙ before.1)

    all_read : (old : BalanceView D R K S) (answer : Result (Unit {0}) (Error E X)) (new : BalanceView D R K S) → old.change ≡ None → ReadsAll discovered eq old answer new
        → Since old.discover old → Since new.discover new
    all_read old answer new none h c = by old.is_over h
      where
        by : (over : Bool) → IfThenElse over ((answer ≡ Ok tt) × (new ≡ old)) (Iterations (Reads discovered eq) (Ok tt) old answer new) → Since new.discover new
        by true h = subst (λ (v : BalanceView D R K S). Since v.discover v) (sym h.1) c
        by false h =
            let before = went_reading h.count old h.last none h.went c in
            ⊎_elim (λ ends. read h.last (Some answer) new before.1 ends.1 before.0) (λ tired. subst (λ (v : BalanceView D R K S). Since v.discover v) (sym tired.2) before.0) h.ends

    changes_came : (change : Option (K × S)) (old : BalanceView D R K S) (answer : Result (Unit {0}) (Error E X)) (new : BalanceView D R K S) → old.change ≡ change
        → ChangedAt discovered eq change old answer new → Since old.discover old → Since new.discover new
    changes_came None old answer new is h c = all_read old answer new is h c
    changes_came (Some (key, service)) old answer new is h c =
        let here : Came eq s (changes c.found) key service = subst (λ (o : Option (K × S)). IfSome o (λ e. Came eq s (changes c.found) e.0 e.1)) is c.came.change in
        ⊎_elim (λ full. subst (λ (v : BalanceView D R K S). Since v.discover v) (sym full.1) c)
        (λ goes. all_read (record old { services = pushed eq old.services key service; change = None }) answer new refl goes (record {
          found = c.found;
          finds = c.finds;
          came = record {
            services = pushes eq laws (Came eq s (changes c.found)) (came_congr (changes c.found)) old.services key service here c.came.services;
            change = tt;
            same = refl;
          };
        })) h

    module _ {M : Type 0} (loaded : S → M → Type 0) (cmp : M → M → Option Ordering) (drew : R → ℕ → R → Type 0) where
      polled_came : (old : BalanceView D R K S) (answer : Poll (Result (Unit {0}) (Error E X))) (new : BalanceView D R K S) → Polled eq s loaded cmp drew discovered old answer new
          → Since old.discover old → Since new.discover new
      polled_came old answer new h c =
          let read_all = changes_came old.change old h.inner h.mid refl h.changed c in
          settle h.mid.discover new (record {
            found = read_all.found;
            finds = read_all.finds;
            came = after_changes eq laws (Came eq s (changes read_all.found)) (came_congr (changes read_all.found)) s (came_polled (changes read_all.found)) X h.mid.discover loaded cmp drew
                h.inner h.mid answer new h.goes read_all.came;
          })

    called_came : (old : BalanceView D R K S) (request : Q) (future : Option G) (new : BalanceView D R K S) → Called eq s old request future new → Since old.discover old → Since new.discover new
    called_came old request future new h c = by old.kept h
      where
        by : (kept : Option ℕ) → MatchOption kept ⊥ (λ i. (inner : G) × CacheCalled eq s old.services i request inner new.services
            × (future ≡ Some inner) × (new ≡ record old { services = new.services; kept = None })) → Since new.discover new
        by None h = absurd h
        by (Some i) (inner, called, given, is) =
            let all : List (Change K S) = changes c.found in
            let here = at_index eq laws (Came eq s all) (came_congr all) old.services.ready i (called.key, called.service) called.there c.came.services.ready in
            let left = came_on all called.key called.service called.left here (one_call (relations s) called.service called.left request inner called.ready called.called tt) in
            let services : Each_came all new.services = subst (Each_came all) (sym called.same)
            (leaves_back eq laws (Came eq s all) (came_congr all) old.services i (called.key, called.service) called.left called.there left c.came.services) in
            settle old.discover new (record {
              found = c.found;
              finds = c.finds;
              came = record {
                services = services;
                change = subst (λ (o : Option (K × S)). IfSome o (λ e. Came eq s all e.0 e.1)) (sym (ap (λ (v : BalanceView D R K S). v.change) is)) c.came.change;
                same = ap (λ (v : BalanceView D R K S). v.discover) is;
              };
            })

module _ {D R K S Q A E G X M B : Type 0} (view : B → BalanceView D R K S) (eq : K → K → Bool) (laws : IsEquivalence eq) (s : ServiceOf S Q A E G)
    (loaded : S → M → Type 0) (cmp : M → M → Option Ordering) (drew : R → ℕ → R → Type 0) (discovered : D → Found K S X → D → Type 0) where
  abbrev balance_of : Relations B Q (Error E X) (Option G)
  balance_of = record {
    ready = λ b. IsReady s.ready (view b);
    polled = λ old answer new. Polled eq s loaded cmp drew discovered (view old) answer (view new);
    called = λ old request future new. Called eq s (view old) request future (view new);
  }

  pub calls_reach : CallsReachKept balance_of view eq s loaded cmp drew discovered
  calls_reach old mid new request future polled called =
      reaches X eq s loaded cmp drew (view mid) request future (view new) (changed_ok X eq s loaded cmp drew polled.inner polled.mid (view mid) polled.goes) called

  pub keeps_chosen : KeepsChosen balance_of view eq s loaded cmp drew discovered
  keeps_chosen old new answer index polled kept = ⊎_elim
      (λ before. inl (sym (changes_kept discovered eq E (view old).change (view old) polled.inner polled.mid polled.changed) ∙ before))
      (λ chosen. inr chosen) (changed_keeps X eq s loaded cmp drew polled.inner polled.mid answer (view new) index polled.goes kept)

  abbrev Since_of : D → B → Type 0
  Since_of first b = Since eq laws s discovered first (view b).discover (view b)

  takes_came : (first : D) (old : B) (action : Action Q (Error E X) (Option G)) (new : B) → Takes balance_of old action new → Since_of first old → Since_of first new
  takes_came first old (Action.poll answer) new takes c = polled_came eq laws s discovered first loaded cmp drew (view old) answer (view new) takes c
  takes_came first old (Action.call request future) new takes c = called_came eq laws s discovered first (view old) request future (view new) takes.1 c

  run_came : (first : D) (old new : B) (run : List (Transition B Q (Error E X) (Option G))) → ServiceRun balance_of old run new → Since_of first old → Since_of first new
  run_came first old new [] run c = subst (Since_of first) (sym run) c
  run_came first old new (t ∷ rest) run c = run_came first t.left new rest run.1 (takes_came first old t.action t.left run.0 c)

  pub endpoints_came : EndpointsCame balance_of view eq s loaded cmp drew discovered
  endpoints_came discover rng made last run is runs =
      let begins : Since eq laws s discovered discover (view made).discover (view made) = subst (λ (v : BalanceView D R K S). Since eq laws s discovered discover v.discover v) (sym is) (record {
        found = [];
        finds = refl;
        came = record { services = record { ready = All-nil _; pending = All-nil _; distinct = none_distinct eq laws (Came eq s []) (came_congr eq laws s []); apart = tt }; change = tt; same = refl };
      }) in
      let all = run_came discover made last run runs begins in
      (all.found, all.finds, all.came.services.ready, all.came.services.pending)
