-- What the parts of a balancer's poll say of the whole.
use Rattle.std.proofs.Common.{ℕ, suc, ◌+◌, ◌-◌, ◌<◌, ◌≤◌, ◌≡◌, Bool, true, false, List, [], ◌∷◌, ◌++◌, Option, Some, None, Result, Ok, Err, ◌⊎◌, inl, inr, ⊎_elim, nat_lt, length, length-append, slice_get, slice_index_or, slice_set, unwrap_or, if◌then◌else◌, refl, sym, ap, ◌∙◌, subst, arith, lt-ltb, ltb-true}
use Rattle.std.specs.List.{swap_remove}
use Rattle.std.specs.List.Sorted.{IsPermutation}
use Rattle.std.specs.Option.{MatchOption, option_map_or}
use Rattle.std.specs.declared.cmp.Ordering.{Ordering}
use Rattle.std.proofs.lemmas.List.{append_assoc, length-set, length-take}
use Rattle.std.proofs.lemmas.List.Sorted.{IsPermutation-append_right, IsPermutation-refl, IsPermutation-swap_remove, IsPermutation-trans}
use Rattle.std.proofs.lemmas.Option.{get_or_from_slice_get, slice_get_cases, slice_get_within}
use Rattle.futures.specs.declared.task.Poll.{Poll}
use Rattle.futures.specs.declared.task.Poll.TheVariants.{Ready, Pending}
use Rattle.indexmap.specs.IndexMap.{insert_entry}
use Rattle.tower_base.specs.Draw.{Drawn, IsPair}
use Rattle.tower_base.specs.Iterations.{Iterates, Iterations}
use Rattle.tower_base.specs.IterationsLemmas.{iterates_more, iterates_start}
use Rattle.tower_base.specs.declared.service.Service.{Ghosts as ServiceOf}
use Rattle.tower_limit.specs.Discover.{Found, MayInsert, inserted}
use Rattle.tower_limit.specs.DiscoverLemmas.{inserts_later, inserts_now}
use Rattle.tower_pool.specs.Balance.{AfterCheck, BalanceView, Chooses, Chosen, IsLighter, Iteration, IterationAt, Picked, PickedOf, Promotes, Reads, ReadsAll, CountedIteration, answer_of, polled_at}
use Rattle.tower_pool.specs.ReadyCache.{Checked, PendingView, ReadyCacheView, Settles}
use Rattle.tower_pool.specs.ReadyCachePoll.{PollCases, IfThenElse, EachPolled, Ends, PendingPolled}
use Rattle.tower_pool.specs.declared.balance.error.Error.{Error}
use Rattle.tower_pool.specs.declared.ready_cache.error.Failed.{Failed}
use Rattle.tower_pool.specs.declared.ready_cache.error.Error.{Error as CacheError}
use Rattle.tower_pool.specs.declared.ready_cache.error.Error.TheVariants.{Failed as EndpointFailed, Memory as NoRoom}

-- a drawn pair
pair_is : (n : ℕ) (pair : List ℕ) → IsPair n pair → pair ≡ slice_index_or pair 0 0 ∷ slice_index_or pair 1 0 ∷ []
pair_is n [] h = absurd h
pair_is n (i ∷ []) h = absurd h
pair_is n (i ∷ j ∷ []) h = refl
pair_is n (i ∷ j ∷ k ∷ ks) h = absurd h

module _ {R K S M : Type 0} (loaded : S → M → Type 0) (cmp : M → M → Option Ordering) (drew : R → ℕ → R → Type 0) where
  -- of two or more, one of two is picked
  pub picked_two : (ready : List (K × S)) (count : ℕ) (pair : List ℕ) (old new : R) (lighter : Bool) → count ≡ length ready → 2 ≤ count → IsPair count pair → Drawn drew old count pair new
      → IsLighter loaded cmp ready (slice_index_or pair 0 0) (slice_index_or pair 1 0) lighter
      → Picked loaded cmp drew ready old (Some (if lighter then slice_index_or pair 0 0 else slice_index_or pair 1 0)) new
  picked_two [] count pair old new lighter same two is drawn h = absurd (omega (arith, same))
  picked_two (u ∷ []) count pair old new lighter same two is drawn h = absurd (omega (arith, same))
  picked_two (u ∷ v ∷ us) count pair old new lighter same two is drawn h = (
    slice_index_or pair 0 0,
    slice_index_or pair 1 0,
    lighter,
    subst (λ n. Drawn drew old n (slice_index_or pair 0 0 ∷ slice_index_or pair 1 0 ∷ []) new) same (subst (λ l. Drawn drew old count l new) (pair_is count pair is) drawn),
    h,
    refl,
  )

  -- what is picked is there
  picked_there : (ready all : List (K × S)) (old new : R) (i : ℕ) → ready ≡ all → PickedOf loaded cmp drew ready all old (Some i) new → i < length all
  picked_there [] all old new i e h = let f : Some i ≡ None = h.0 in cc
  picked_there (u ∷ []) all old new i e h = omega (arith, ap length e, ap (λ o. unwrap_or o i) h.0)
  picked_there (u ∷ v ∷ us) all old new i e h = by h.2 h.5
    where
      by : (b : Bool) → Some i ≡ Some (if b then h.0 else h.1) → i < length all
      by true is = subst (λ n. n < length all) (sym (ap (λ o. unwrap_or o i) is)) (slice_get_within all h.0 h.4.2.0 h.4.2.1)
      by false is = subst (λ n. n < length all) (sym (ap (λ o. unwrap_or o i) is)) (slice_get_within all h.1 h.4.3.0 h.4.3.1)

module _ {K S Q A E G : Type 0} (eq : K → K → Bool) (s : ServiceOf S Q A E G) where
  -- what an entry that isn't cancelled adds to a poll
  abbrev OneAsked : List (PendingView K S) → PendingView K S → List (PendingView K S) → List (K × S) → Poll (Result (Unit {0}) (CacheError K E)) → ReadyCacheView K S → Type 0
  OneAsked asked p rest ready answer new =
      ((answer ≡ Ready (Err NoRoom)) × (new ≡ record { ready = ready; pending = asked ++ p ∷ rest }))
      ⊎ ((inner : Poll (Result (Unit {0}) E)) × (left : S) × s.polled p.service inner left × PollCases inner
      (EachPolled eq s asked rest (insert_entry eq ready p.key left) answer new)
      (λ e. (answer ≡ Ready (Err (EndpointFailed p.key e))) × (new ≡ record { ready = ready; pending = asked ++ rest }))
      (EachPolled eq s (asked ++ (record p { service = left }) ∷ []) rest ready answer new))

  -- an endpoint that failed has left
  fewer_than : (rest asked : List (PendingView K S)) (ready : List (K × S)) (answer : Poll (Result (Unit {0}) (CacheError K E))) (new : ReadyCacheView K S)
      → EachPolled eq s asked rest ready answer new → (k : K) (e : E) → answer ≡ Ready (Err (EndpointFailed k e)) → length new.pending < length asked + length rest
  fewer_than [] asked ready answer new h k e is = by asked h.0
    where
      by : (asked : List (PendingView K S)) → Ends asked answer → length new.pending < length asked + 0
      by [] f = let f : answer ≡ Ready (Ok tt) = f in cc
      by (x ∷ xs) f = let f : answer ≡ Pending = f in cc
  fewer_than (p ∷ rest) asked ready answer new h k e is = by_entry (λ asked ready h. fewer_than rest asked ready answer new h k e is) p.cancelled h
    where
      by_answer : ((asked : List (PendingView K S)) (ready : List (K × S)) → EachPolled eq s asked rest ready answer new → length new.pending < length asked + length rest)
          → (inner : Poll (Result (Unit {0}) E)) (left : S) → PollCases inner
          (EachPolled eq s asked rest (insert_entry eq ready p.key left) answer new)
          (λ e. (answer ≡ Ready (Err (EndpointFailed p.key e))) × (new ≡ record { ready = ready; pending = asked ++ rest }))
          (EachPolled eq s (asked ++ (record p { service = left }) ∷ []) rest ready answer new) → length new.pending < length asked + suc (length rest)
      by_answer again (Ready (Ok u)) left h = omega (arith, again asked (insert_entry eq ready p.key left) h)
      by_answer again (Ready (Err x)) left h = omega (arith, ap (λ v. length v.pending) h.1, length-append asked rest)
      by_answer again Pending left h = omega (arith, again (asked ++ (record p { service = left }) ∷ []) ready h, length-append asked ((record p { service = left }) ∷ []))

      by_entry : ((asked : List (PendingView K S)) (ready : List (K × S)) → EachPolled eq s asked rest ready answer new → length new.pending < length asked + length rest)
          → (b : Bool) → IfThenElse b (EachPolled eq s asked rest ready answer new) (OneAsked asked p rest ready answer new) → length new.pending < length asked + suc (length rest)
      by_entry again true h = omega (arith, again asked ready h)
      by_entry again false (inl full) = let f : answer ≡ Ready (Err NoRoom) = full.0 in cc
      by_entry again false (inr t) = by_answer again t.0 t.1 t.3

  pub fewer : (old new : ReadyCacheView K S) (k : K) (e : E) → PendingPolled eq s old (Ready (Err (EndpointFailed k e))) new → length new.pending < length old.pending
  fewer old new k e h = omega (arith, fewer_than old.pending [] old.ready (Ready (Err (EndpointFailed k e))) new h k e refl)

  -- a further failure comes before the rest of a promotion
  pub promotes_on : {X : Type 0} (old mid : ReadyCacheView K S) (k : K) (e : E) → PendingPolled eq s old (Ready (Err (EndpointFailed k e))) mid
      → (answer : Result (Unit {0}) (Error E X)) (new : ReadyCacheView K S) → Promotes eq s mid answer new → Promotes eq s old answer new
  promotes_on old mid k e polled answer new h = (suc h.0, (mid, k, e, polled, h.1))

module _ {D K S X : Type 0} (discovered : D → Found K S X → D → Type 0) (sound : S → Type 0) where
  -- after a poll the discovery inserts no more than before
  pub inserts_less : (d e : D) (found : Found K S X) → discovered d found e → ((key : K) (service : S) → MayInsert discovered d key service → sound service)
      → (key : K) (service : S) → MayInsert discovered e key service → sound service
  inserts_less d e found h all key service may = all key service (inserts_later discovered d found e h key service may)

  pub inserted_now : (d e : D) (key : K) (service : S) → discovered d (inserted key service) e → ((key : K) (service : S) → MayInsert discovered d key service → sound service) → sound service
  inserted_now d e key service h all = all key service (inserts_now discovered d key service e h)

module _ {D R K S X E : Type 0} (discovered : D → Found K S X → D → Type 0) (eq : K → K → Bool) where
  -- a discovery that hasn't ended is read
  pub reads_on : (old : BalanceView D R K S) (answer : Result (Unit {0}) (Error E X)) (new : BalanceView D R K S) → old.is_over ≡ false
      → Iterations (Reads discovered eq) (Ok tt) old answer new → ReadsAll discovered eq old answer new
  reads_on old answer new c h = subst (λ b. IfThenElse b ((answer ≡ Ok tt) × (new ≡ old)) (Iterations (Reads discovered eq) (Ok tt) old answer new)) (sym c) h

-- how many iterations a choosing has at most, where an index below the length is kept or none is
abbrev pub left_of : Option ℕ → ℕ → ℕ
left_of None n = n + 1
left_of (Some i) n = if nat_lt i n then n else n + 1

pub one_left : (kept : Option ℕ) (n : ℕ) → 1 ≤ left_of kept n
one_left None n = omega arith
one_left (Some i) n = by (nat_lt i n) refl
  where
    by : (b : Bool) → nat_lt i n ≡ b → 1 ≤ (if b then n else n + 1)
    by true e = omega (arith, ltb-true i n e)
    by false e = omega arith

pub at_most_left : (kept : Option ℕ) (n : ℕ) → left_of kept n ≤ n + 1
at_most_left None n = omega arith
at_most_left (Some i) n = by (nat_lt i n)
  where
    by : (b : Bool) → (if b then n else n + 1) ≤ n + 1
    by true = omega arith
    by false = omega arith

left_inside : (i n : ℕ) → i < n → left_of (Some i) n ≡ n
left_inside i n h = ap (λ b. if b then n else n + 1) (lt-ltb i n h)

left_over : (i n : ℕ) → n ≤ i → left_of (Some i) n ≡ n + 1
left_over i n h = by (nat_lt i n) refl
  where
    by : (b : Bool) → nat_lt i n ≡ b → (if b then n else n + 1) ≡ n + 1
    by true e = absurd (omega (arith, ltb-true i n e))
    by false e = refl

module _ {X : Type 0} where
  past : (xs : List X) (i : ℕ) → slice_get xs i ≡ None → length xs ≤ i
  past xs i h = ⊎_elim (λ there. let f : Some there.0 ≡ None = sym there.2 ∙ h in cc) (λ over. over.0) (slice_get_cases xs i).1

  length-removed : (xs : List X) (i : ℕ) (d : X) → i < length xs → length (swap_remove xs i d) + 1 ≡ length xs
  length-removed xs i d h = omega (arith, length-take (length xs - 1) (slice_set xs i (slice_index_or xs (length xs - 1) d)), length-set xs i (slice_index_or xs (length xs - 1) d))

-- how many iterations of a choosing are left
abbrev pub turns : {D R K S : Type 0} → BalanceView D R K S → ℕ
turns v = left_of v.kept (length v.services.ready)

module _ {K S Q A E G : Type 0} (eq : K → K → Bool) (s : ServiceOf S Q A E G) where
  -- a check that isn't answered by true leaves one endpoint less, or was past the end
  checked_less : (old : ReadyCacheView K S) (i : ℕ) (inner : Result Bool (Failed K E)) (new : ReadyCacheView K S) → Checked eq s old i inner new → ¬ (inner ≡ Ok true)
      → length new.ready + 1 ≤ left_of (Some i) (length old.ready)
  checked_less old i inner new h other = by (slice_get old.ready i) refl h
    where
      settled : (u : K × S) (r : Poll (Result (Unit {0}) E)) (left : S) → i < length old.ready → Settles eq s old i u left r inner new → length new.ready + 1 ≤ left_of (Some i) (length old.ready)
      settled u (Ready (Ok t)) left below h = absurd (other h.0)
      settled u (Ready (Err x)) left below h = omega (arith, ap (λ v. length v.ready) h.1, length-removed old.ready i u below, left_inside i (length old.ready) below)
      settled u Pending left below h = omega (arith, ap (λ v. length v.ready) h.1, length-removed old.ready i u below, left_inside i (length old.ready) below)

      by : (o : Option (K × S)) → slice_get old.ready i ≡ o → MatchOption o ((inner ≡ Ok false) × (new ≡ old))
          (λ u. (r : Poll (Result (Unit {0}) E)) × (left : S) × s.polled u.1 r left × Settles eq s old i u left r inner new) → length new.ready + 1 ≤ left_of (Some i) (length old.ready)
      by None e h = omega (arith, ap (λ v. length v.ready) h.1, left_over i (length old.ready) (past old.ready i e))
      by (Some u) e h = settled u h.0 h.1 (slice_get_within old.ready i u e) h.3

  -- it takes the endpoint that it asked out of the ready ones
  checked_asks : (old : ReadyCacheView K S) (i : ℕ) (inner : Result Bool (Failed K E)) (new : ReadyCacheView K S) → Checked eq s old i inner new → ¬ (inner ≡ Ok true)
      → IsPermutation old.ready (polled_at (Some i) old.ready ++ new.ready)
  checked_asks old i inner new h other = by (slice_get old.ready i) refl h
    where
      taken : (u : K × S) → slice_get old.ready i ≡ Some u → new.ready ≡ swap_remove old.ready i u → IsPermutation old.ready (u ∷ new.ready)
      taken u there is = subst (λ ready. IsPermutation old.ready (u ∷ ready)) (sym is)
          (IsPermutation-swap_remove old.ready i u (slice_get_within old.ready i u there) (sym (get_or_from_slice_get old.ready i u u there)))

      settled : (u : K × S) (r : Poll (Result (Unit {0}) E)) (left : S) → slice_get old.ready i ≡ Some u → Settles eq s old i u left r inner new → IsPermutation old.ready (u ∷ new.ready)
      settled u (Ready (Ok t)) left there h = absurd (other h.0)
      settled u (Ready (Err x)) left there h = taken u there (ap (λ v. v.ready) h.1)
      settled u Pending left there h = taken u there (ap (λ v. v.ready) h.1)

      by : (o : Option (K × S)) → slice_get old.ready i ≡ o → MatchOption o ((inner ≡ Ok false) × (new ≡ old))
          (λ u. (r : Poll (Result (Unit {0}) E)) × (left : S) × s.polled u.1 r left × Settles eq s old i u left r inner new)
          → IsPermutation old.ready (option_map_or (λ e. e ∷ []) o [] ++ new.ready)
      by None e h = subst (λ v. IsPermutation old.ready v.ready) (sym h.1) (IsPermutation-refl old.ready)
      by (Some u) e h = settled u h.0 h.1 e h.3

module _ {K S : Type 0} where
  -- the last iteration asks one at most of those that are ready
  asked_last : (kept : Option ℕ) (ready : List (K × S)) → (rest : List (K × S)) × IsPermutation ready (polled_at kept ready ++ rest)
  asked_last None ready = (ready, IsPermutation-refl ready)
  asked_last (Some i) ready = by (slice_get ready i) refl
    where
      by : (o : Option (K × S)) → slice_get ready i ≡ o → (rest : List (K × S)) × IsPermutation ready (option_map_or (λ e. e ∷ []) o [] ++ rest)
      by None there = (ready, IsPermutation-refl ready)
      by (Some u) there = (swap_remove ready i u, IsPermutation-swap_remove ready i u (slice_get_within ready i u there) (sym (get_or_from_slice_get ready i u u there)))

  -- what was asked before, and what is asked now
  asked_more : (asked first ready now rest : List (K × S)) → IsPermutation first (asked ++ ready) → IsPermutation ready (now ++ rest) → IsPermutation first ((asked ++ now) ++ rest)
  asked_more asked first ready now rest before turn = subst (IsPermutation first) (sym (append_assoc asked now rest))
      (IsPermutation-trans first (asked ++ ready) (asked ++ (now ++ rest)) before (IsPermutation-append_right asked ready (now ++ rest) turn))

module _ {D R K S Q A E G M : Type 0} (X : Type 0) (eq : K → K → Bool) (s : ServiceOf S Q A E G) (loaded : S → M → Type 0) (cmp : M → M → Option Ordering) (drew : R → ℕ → R → Type 0) where
  chosen_turns : (old new : BalanceView D R K S) → Chooses {X = X} eq s loaded cmp drew old None new → turns new ≡ length old.services.ready
  chosen_turns old new h = by h.0 h.2 h.3 h.4
    where
      by : (index : Option ℕ) → Picked loaded cmp drew old.services.ready old.rng index h.1 → (let a : Option (Poll (Result (Unit {0}) (Error E X))) = None in a ≡ answer_of index) → new ≡ record old { rng = h.1; kept = index } → turns new ≡ length old.services.ready
      by None picked on is = cc
      by (Some i) picked on is = ap turns is ∙ left_inside i (length old.services.ready) (picked_there loaded cmp drew old.services.ready old.services.ready old.rng h.1 i refl picked)

  iteration_less : (old : BalanceView D R K S) (kept : Option ℕ) → old.kept ≡ kept → (new : BalanceView D R K S) → IterationAt {X = X} eq s loaded cmp drew kept old None new → turns new + 1 ≤ turns old
  iteration_less old None is new h = omega (arith, chosen_turns old new h, ap (λ k. left_of k (length old.services.ready)) is)
  iteration_less old (Some i) is new h = by h.0 h.2 h.3
    where
      by : (inner : Result Bool (Failed K E)) → Checked eq s old.services i inner h.1 → AfterCheck {X = X} eq s loaded cmp drew (record old { services = h.1 }) i inner None new → turns new + 1 ≤ turns old
      by (Ok true) checked after = let f : (let a : Option (Poll (Result (Unit {0}) (Error E X))) = None in a ≡ Some (Ready (Ok tt))) = after.1 in cc
      by (Ok false) checked after =
          omega (arith, chosen_turns (record old { services = h.1 }) new after, checked_less eq s old.services i (Ok false) h.1 checked (λ e. cc), ap (λ k. left_of k (length old.services.ready)) is)
      by (Err x) checked after =
          omega (arith, chosen_turns (record old { services = h.1 }) new after, checked_less eq s old.services i (Err x) h.1 checked (λ e. cc), ap (λ k. left_of k (length old.services.ready)) is)

  -- a check that isn't answered by true takes the endpoint that it asked out of the ready ones
  chosen_ready : (old : BalanceView D R K S) (answer : Option (Poll (Result (Unit {0}) (Error E X)))) (new : BalanceView D R K S) → Chooses eq s loaded cmp drew old answer new
      → new.services.ready ≡ old.services.ready
  chosen_ready old answer new h = ap (λ v. v.services.ready) h.4

  iteration_asks : (old : BalanceView D R K S) (kept : Option ℕ) (new : BalanceView D R K S) → IterationAt {X = X} eq s loaded cmp drew kept old None new
      → IsPermutation old.services.ready (polled_at kept old.services.ready ++ new.services.ready)
  iteration_asks old None new h = subst (IsPermutation old.services.ready) (sym (chosen_ready old None new h)) (IsPermutation-refl old.services.ready)
  iteration_asks old (Some i) new h = by h.0 h.2 h.3
    where
      goal : Option (K × S) → Type 0
      goal o = IsPermutation old.services.ready (option_map_or (λ e. e ∷ []) o [] ++ new.services.ready)

      left : (inner : Result Bool (Failed K E)) → Checked eq s old.services i inner h.1 → ¬ (inner ≡ Ok true) → new.services.ready ≡ h.1.ready → goal (slice_get old.services.ready i)
      left inner checked other is = subst (λ ready. IsPermutation old.services.ready (polled_at (Some i) old.services.ready ++ ready)) (sym is)
          (checked_asks eq s old.services i inner h.1 checked other)

      by : (inner : Result Bool (Failed K E)) → Checked eq s old.services i inner h.1 → AfterCheck {X = X} eq s loaded cmp drew (record old { services = h.1 }) i inner None new
          → goal (slice_get old.services.ready i)
      by (Ok true) checked after = let f : (let a : Option (Poll (Result (Unit {0}) (Error E X))) = None in a ≡ Some (Ready (Ok tt))) = after.1 in cc
      by (Ok false) checked after = left (Ok false) checked (λ e. cc) (chosen_ready (record old { services = h.1 }) None new after)
      by (Err x) checked after = left (Err x) checked (λ e. cc) (chosen_ready (record old { services = h.1 }) None new after)

  -- So many turns gave no answer, and so many are left. Those that were ready are those that were asked and those that are ready yet.
  pub record Settling (old now : BalanceView D R K S) : Type 0 where
    pub count : ℕ
    pub polled : List (K × S)
    pub went : Iterates (CountedIteration {X = X} eq s loaded cmp drew) count (old, []) (now, polled)
    pub left : count + turns now ≤ length old.services.ready + 1
    pub once : IsPermutation old.services.ready (polled ++ now.services.ready)

  pub settling_begins : (old : BalanceView D R K S) → Settling old old
  settling_begins old = record {
    count = 0;
    polled = [];
    went = iterates_start (CountedIteration {X = X} eq s loaded cmp drew) (old, []);
    left = omega (arith, at_most_left old.kept (length old.services.ready));
    once = IsPermutation-refl old.services.ready;
  }

  pub settling_goes : (old was now : BalanceView D R K S) → Iteration {X = X} eq s loaded cmp drew was None now → Settling old was → Settling old now
  settling_goes old was now iteration h = record {
    count = h.count + 1;
    polled = h.polled ++ polled_at was.kept was.services.ready;
    went = iterates_more (CountedIteration {X = X} eq s loaded cmp drew) h.count (old, []) (was, h.polled) (now, h.polled ++ polled_at was.kept was.services.ready) h.went (iteration, refl);
    left = omega (arith, h.left, iteration_less was was.kept refl now iteration);
    once = asked_more h.polled old.services.ready was.services.ready (polled_at was.kept was.services.ready) now.services.ready h.once (iteration_asks was was.kept now iteration);
  }

  pub settling_less : (was now : BalanceView D R K S) → Iteration {X = X} eq s loaded cmp drew was None now → turns now < turns was
  settling_less was now iteration = omega (arith, iteration_less was was.kept refl now iteration)

  pub settling_ends : (old was : BalanceView D R K S) (answer : Poll (Result (Unit {0}) (Error E X))) (new : BalanceView D R K S) → Iteration {X = X} eq s loaded cmp drew was (Some answer) new → Settling old was
      → Chosen eq s loaded cmp drew old answer new
  settling_ends old was answer new iteration h =
      let last = asked_last was.kept was.services.ready in
      record {
        count = h.count;
        last = was;
        polled = h.polled;
        rest = last.0;
        within = omega (arith, h.left, one_left was.kept (length was.services.ready));
        went = h.went;
        ends = iteration;
        once = asked_more h.polled old.services.ready was.services.ready (polled_at was.kept was.services.ready) last.0 h.once last.1;
      }
