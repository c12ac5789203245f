-- What a `Balance` is asked leads to each of its endpoints by a run, from one that was there or came since.
use Rattle.std.proofs.Common.{All, Contains, ℕ, zero, suc, ◌-◌, ◌≡◌, arith, Bool, true, false, List, [], ◌∷◌, ◌++◌, ◌⊎◌, inl, inr, ⊎_elim, Option, Some, None, IfSome, Result, Ok, Err, length, slice_get, slice_index_or, slice_set, position, if◌then◌else◌, refl, sym, subst}
use Rattle.std.specs.List.{swap_remove}
use Rattle.std.specs.Map.{keys_of}
use Rattle.std.specs.Option.{MatchOption, option_map_or}
use Rattle.std.specs.declared.cmp.Ordering.{Ordering}
use Rattle.std.proofs.lemmas.List.Elements.{All-append, All-cons, All-contains_itself, All-get_or, All-head, All-nil, All-set, All-tail, All-take, All-weaker}
use Rattle.std.proofs.lemmas.Option.{get_or_from_slice_get, slice_get_within}
use Rattle.futures.specs.declared.task.Poll.{Poll}
use Rattle.futures.specs.declared.task.Poll.TheVariants.{Ready, Pending}
use Rattle.indexmap.specs.IndexMap.{insert_entry, set_value_at, swap_remove_entry}
use Rattle.tower_base.specs.Iterations.{Iterates, Iterations}
use Rattle.tower_base.specs.Projection.{AtMostOnce, ByAction}
use Rattle.tower_base.specs.ProjectionLemmas.{no_action, one_poll, one_call}
use Rattle.tower_base.specs.ServiceRun.{Relations, relations, Action, Takes}
use Rattle.tower_base.specs.declared.service.Service.{Ghosts as ServiceOf}
use Rattle.tower_limit.specs.Discover.{Found, MayInsert}
use Rattle.tower_limit.specs.declared.discover.Change.TheVariants.{Insert, Remove}
use Rattle.tower_pool.proofs.AskLemmas.{All-insert_entry}
use Rattle.tower_pool.proofs.PendingLemmas.{All-cancel, All-new}
use Rattle.tower_pool.specs.ReadyCache.{Askable, Called as CacheCalled, Checked, PendingView, ReadyCacheView, Settles, Sound as CacheSound, is_pending, put_back, pending_entry}
use Rattle.tower_pool.specs.ReadyCachePoll.{PollCases, IfThenElse, EachPolled, PendingPolled}
use Rattle.tower_pool.specs.declared.ready_cache.error.Failed.{Failed}
use Rattle.tower_pool.specs.declared.ready_cache.error.Error.{Error as CacheError}
use Rattle.tower_pool.specs.declared.ready_cache.error.Error.TheVariants.{Failed as EndpointFailed, Memory as NoRoom}
use Rattle.tower_ware.proofs.RunsLemmas.{after}
use Rattle.tower_pool.proofs.BalanceLemmas.{inserts_less, inserted_now}
use Rattle.tower_pool.specs.Balance.{AfterChanges, AfterCheck, AfterFound, AfterPromotion, BalanceView, Called, ChangedAt, Chooses, CountedIteration, IsReady, IterationAt, Polled, PromotesAfter, Reads, ReadsAll, pushed}
use Rattle.tower.specs.Projections.{EachEndpoint, LedTo, MayBeEndpoint}
use Rattle.tower_pool.specs.declared.balance.error.Error.{Error}

module _ {K S : Type 0} (P : S → Type 0) where
  abbrev Each : List (K × S) → Type 0
  Each es = All (λ e. P e.1) es

  -- the endpoint at the index
  at_index : (es : List (K × S)) (i : ℕ) (e : K × S) → slice_get es i ≡ Some e → Each es → P e.1
  at_index es i e at h = subst (λ x. P x.1) (get_or_from_slice_get es i e e at) (All-get_or (λ x. P x.1) es i e (slice_get_within es i e at) h)

  last : (es : List (K × S)) (d : K × S) → P d.1 → Each es → P (slice_index_or es (length es - 1) d).1
  last [] d here h = here
  last (e ∷ es) d here h = All-get_or (λ x. P x.1) (e ∷ es) (length (e ∷ es) - 1) d (omega arith) h

  -- without the one at the index
  removed : (es : List (K × S)) (i : ℕ) (d : K × S) → P d.1 → Each es → Each (swap_remove es i d)
  removed es i d here h = All-take (λ x. P x.1) (length es - 1) (slice_set es i (slice_index_or es (length es - 1) d))
      (All-set (λ x. P x.1) es i (slice_index_or es (length es - 1) d) (last es d here h) h)

  -- with another one there
  written : (es : List (K × S)) (i : ℕ) (w : S) → P w → Each es → Each (set_value_at es i w)
  written [] i w here h = h
  written (e ∷ es) zero w here h = All-cons (λ x. P x.1) (e.0, w) es here (All-tail (λ x. P x.1) e es h)
  written (e ∷ es) (suc i) w here h =
      All-cons (λ x. P x.1) e (set_value_at es i w) (All-head (λ x. P x.1) e es h) (written es i w here (All-tail (λ x. P x.1) e es h))

  -- without that of a key
  evicted_from : (test : K → Bool) (es : List (K × S)) → Each es → Each (swap_remove_entry test es)
  evicted_from test [] h = h
  evicted_from test (e ∷ es) h = by (position test (keys_of (e ∷ es)))
    where
      by : (r : Option ℕ) → Each (option_map_or (λ i. swap_remove (e ∷ es) i e) r (e ∷ es))
      by None = h
      by (Some i) = removed (e ∷ es) i e (All-head (λ x. P x.1) e es h) h

-- one comes back
put_back_in : {K S : Type 0} → (eq : K → K → Bool) (P : S → Type 0) (key : K) (service : S) (ps : List (PendingView K S)) → P service → All (Askable P) ps
    → All (Askable P) (put_back eq key service ps)
put_back_in eq P key service ps here h = by (is_pending eq key ps)
  where
    by : (b : Bool) → All (Askable P) (if b then ps else ps ++ pending_entry key service ∷ [])
    by true = h
    by false = All-append (Askable P) ps (pending_entry key service ∷ []) h (All-cons (Askable P) (pending_entry key service) [] (λ e. here) (All-nil (Askable P)))

-- What holds of each endpoint, and of what a poll leaves of it, holds of each endpoint after a poll.
module _ {K S Q A E G : Type 0} (eq : K → K → Bool) (s : ServiceOf S Q A E G) (P : S → Type 0)
    (closed : (old : S) (answer : Poll (Result (Unit {0}) E)) (new : S) → P old → s.polled old answer new → P new) where
  abbrev Asks : List (PendingView K S) → Type 0
  Asks ps = All (Askable P) ps

  module _ (q : PendingView K S) (rest : List (PendingView K S)) (answer : Poll (Result (Unit {0}) (CacheError K E))) (new : ReadyCacheView K S)
      (more : (before : List (PendingView K S)) (ready : List (K × S)) → EachPolled eq s before rest ready answer new → Asks before → Each P ready → CacheSound P new)
      (before : List (PendingView K S)) (ready : List (K × S)) (b : Asks before) (p : Asks (q ∷ rest)) (r : Each P ready) where
    answered : (inner : Poll (Result (Unit {0}) E)) (left : S) → P left → PollCases inner
        (EachPolled eq s before rest (insert_entry eq ready q.key left) answer new)
        (λ e. (answer ≡ Ready (Err (EndpointFailed q.key e))) × (new ≡ record { ready = ready; pending = before ++ rest }))
        (EachPolled eq s (before ++ (record q { service = left }) ∷ []) rest ready answer new) → CacheSound P new
    answered (Ready (Ok u)) left here h = more before (insert_entry eq ready q.key left) h b (All-insert_entry eq P ready q.key left here r)
    answered (Ready (Err e)) left here h =
        subst (CacheSound P) (sym h.1) (record { ready = r; pending = All-append (Askable P) before rest b (All-tail (Askable P) q rest p) })
    answered Pending left here h = more (before ++ (record q { service = left }) ∷ []) ready h
        (All-append (Askable P) before ((record q { service = left }) ∷ []) b (All-cons (Askable P) (record q { service = left }) [] (λ e. here) (All-nil (Askable P)))) r

    first_asked : (cancelled : Bool) → q.cancelled ≡ cancelled → IfThenElse cancelled (EachPolled eq s before rest ready answer new)
        (((answer ≡ Ready (Err NoRoom)) × (new ≡ record { ready = ready; pending = before ++ q ∷ rest }))
        ⊎ ((inner : Poll (Result (Unit {0}) E)) × (left : S) × s.polled q.service inner left × PollCases inner
        (EachPolled eq s before rest (insert_entry eq ready q.key left) answer new)
        (λ e. (answer ≡ Ready (Err (EndpointFailed q.key e))) × (new ≡ record { ready = ready; pending = before ++ rest }))
        (EachPolled eq s (before ++ (record q { service = left }) ∷ []) rest ready answer new))) → CacheSound P new
    first_asked true e h = more before ready h b r
    first_asked false e h = ⊎_elim
        (λ full. subst (CacheSound P) (sym full.1) (record { ready = r; pending = All-append (Askable P) before (q ∷ rest) b p }))
        (λ polled. answered polled.0 polled.1 (closed q.service polled.0 polled.1 (All-head (Askable P) q rest p e) polled.2) polled.3) h

  asked : (pending before : List (PendingView K S)) (ready : List (K × S)) (answer : Poll (Result (Unit {0}) (CacheError K E))) (new : ReadyCacheView K S)
      → EachPolled eq s before pending ready answer new → Asks before → Asks pending → Each P ready → CacheSound P new
  asked [] before ready answer new h b p r = subst (CacheSound P) (sym h.1) (record { ready = r; pending = b })
  asked (q ∷ rest) before ready answer new h b p r =
      first_asked q rest answer new (λ earlier others h c d. asked rest earlier others answer new h c (All-tail (Askable P) q rest p) d) before ready b p r q.cancelled refl h

  pending_polled : (old : ReadyCacheView K S) (answer : Poll (Result (Unit {0}) (CacheError K E))) (new : ReadyCacheView K S) → PendingPolled eq s old answer new
      → CacheSound P old → CacheSound P new
  pending_polled old answer new h c = asked old.pending [] old.ready answer new h (All-nil (Askable P)) c.pending c.ready

  promoted : {X : Type 0} (n : ℕ) (old : ReadyCacheView K S) (answer : Result (Unit {0}) (Error E X)) (new : ReadyCacheView K S) → PromotesAfter eq s n old answer new
      → CacheSound P old → CacheSound P new
  promoted zero old answer new h c = pending_polled old h.0 new h.1 c
  promoted (suc n) old answer new h c = promoted n h.0 answer new h.4 (pending_polled old (Ready (Err (EndpointFailed h.1 h.2))) h.0 h.3 c)

  settled : (old : ReadyCacheView K S) (index : ℕ) (e : K × S) (left : S) (inner : Poll (Result (Unit {0}) E)) (answer : Result Bool (Failed K E)) (new : ReadyCacheView K S)
      → P e.1 → P left → Settles eq s old index e left inner answer new → CacheSound P old → CacheSound P new
  settled old index e left (Ready (Ok u)) answer new was here h c =
      subst (CacheSound P) (sym h.1) (record { ready = written P old.ready index left here c.ready; pending = c.pending })
  settled old index e left (Ready (Err x)) answer new was here h c =
      subst (CacheSound P) (sym h.1) (record { ready = removed P old.ready index e was c.ready; pending = c.pending })
  settled old index e left Pending answer new was here h c =
      subst (CacheSound P) (sym h.1) (record { ready = removed P old.ready index e was c.ready; pending = put_back_in eq P e.0 left old.pending here c.pending })

  checked : (old : ReadyCacheView K S) (index : ℕ) (answer : Result Bool (Failed K E)) (new : ReadyCacheView K S) → Checked eq s old index answer new
      → CacheSound P old → CacheSound P new
  checked old index answer new h c = by (slice_get old.ready index) refl h
    where
      by : (o : Option (K × S)) → slice_get old.ready index ≡ o → MatchOption o ((answer ≡ Ok false) × (new ≡ old))
          (λ e. (inner : Poll (Result (Unit {0}) E)) × (left : S) × s.polled e.1 inner left × Settles eq s old index e left inner answer new) → CacheSound P new
      by None at h = subst (CacheSound P) (sym h.1) c
      by (Some e) at h =
          let was = at_index P old.ready index e at c.ready in
          settled old index e h.1 h.0 answer new was (closed e.1 h.0 h.1 was h.2) h.3 c

  module _ {D R X : Type 0} (discovered : D → Found K S X → D → Type 0) where
    abbrev Has : BalanceView D R K S → Type 0
    Has v = EachEndpoint discovered P v

    pushes : (old : BalanceView D R K S) (key : K) (service : S) → P service → Has old → Has (record old { services = pushed eq old.services key service })
    pushes old key service here c = record {
      discover = tt;
      services = record { ready = c.services.ready; pending = All-new eq key P service old.services.pending here c.services.pending };
      change = c.change;
      inserts = c.inserts;
    }

    found_kept : (was : D) (old : BalanceView D R K S) (found : Found K S X) (answer : Option (Result (Unit {0}) (Error E X))) (new : BalanceView D R K S) → discovered was found old.discover
        → ((key : K) (service : S) → MayInsert discovered was key service → P service) → AfterFound discovered eq old found answer new → Has old → Has new
    found_kept was old (Ready (Some (Ok (Insert key service)))) answer new step all h c =
        let here = inserted_now discovered P was old.discover key service step all in
        ⊎_elim {C = Has new} (λ done. subst Has (sym done.1) (pushes old key service here c))
        (λ full. subst Has (sym full.1) (record { discover = tt; services = c.services; change = here; inserts = c.inserts })) h
    found_kept was old (Ready (Some (Ok (Remove key)))) answer new step all h c = subst Has (sym h.1) (record {
      discover = tt;
      services = record { ready = evicted_from P (eq key) old.services.ready c.services.ready; pending = All-cancel eq key P old.services.pending c.services.pending };
      change = c.change;
      inserts = c.inserts;
    })
    found_kept was old (Ready (Some (Err x))) answer new step all h c = subst Has (sym h.1) c
    found_kept was old (Ready None) answer new step all h c =
        subst Has (sym h.1) (record { discover = tt; services = c.services; change = c.change; inserts = c.inserts })
    found_kept was old Pending answer new step all h c = subst Has (sym h.1) c

    read : (old : BalanceView D R K S) (answer : Option (Result (Unit {0}) (Error E X))) (new : BalanceView D R K S) → Reads discovered eq old answer new → Has old → Has new
    read old answer new h c = found_kept old.discover (record old { discover = h.1 }) h.0 answer new h.2 c.inserts h.3 (record {
      discover = tt;
      services = c.services;
      change = c.change;
      inserts = inserts_less discovered P old.discover h.1 h.0 h.2 c.inserts;
    })

    went_reading : (n : ℕ) (old new : BalanceView D R K S) → Iterates (Reads discovered eq {E = E}) n old new → Has old → Has new
    unfolding Iterates
    went_reading zero old new h c = subst Has (sym h) c
    went_reading (suc n) old new h c = read h.0 None new h.2 (went_reading n old h.0 h.1 c)

    all_read : (old : BalanceView D R K S) (answer : Result (Unit {0}) (Error E X)) (new : BalanceView D R K S) → ReadsAll discovered eq old answer new → Has old → Has new
    all_read old answer new h c = by old.is_over h
      where
        by : (over : Bool) → IfThenElse over ((answer ≡ Ok tt) × (new ≡ old)) (Iterations (Reads discovered eq) (Ok tt) old answer new) → Has new
        by true h = subst Has (sym h.1) c
        by false h =
            let so_far = went_reading h.count old h.last h.went c in
            ⊎_elim {C = Has new} (λ ends. read h.last (Some answer) new ends.1 so_far) (λ tired. subst Has (sym tired.2) so_far) h.ends

    changes : (change : Option (K × S)) (old : BalanceView D R K S) (answer : Result (Unit {0}) (Error E X)) (new : BalanceView D R K S) → old.change ≡ change
        → ChangedAt discovered eq change old answer new → Has old → Has new
    changes None old answer new e h c = all_read old answer new h c
    changes (Some (key, service)) old answer new e h c =
        let here : P service = subst (λ o. IfSome o (λ x. P x.1)) e c.change in
        let pushed_in = pushes old key service here c in
        ⊎_elim {C = Has new} (λ full. subst Has (sym full.1) c)
        (λ goes. all_read (record old { services = pushed eq old.services key service; change = None }) answer new goes
        (record { discover = tt; services = pushed_in.services; change = tt; inserts = c.inserts })) h

    module _ {M : Type 0} (loaded : S → M → Type 0) (cmp : M → M → Option Ordering) (drew : R → ℕ → R → Type 0) where
      chooses : (old : BalanceView D R K S) (answer : Option (Poll (Result (Unit {0}) (Error E X)))) (new : BalanceView D R K S) → Chooses eq s loaded cmp drew old answer new → Has old → Has new
      chooses old answer new h c = subst Has (sym h.4) (record { discover = tt; services = c.services; change = c.change; inserts = c.inserts })

      after_check : (old : BalanceView D R K S) (i : ℕ) (inner : Result Bool (Failed K E)) (answer : Option (Poll (Result (Unit {0}) (Error E X)))) (new : BalanceView D R K S)
          → AfterCheck eq s loaded cmp drew old i inner answer new → Has old → Has new
      after_check old i (Ok true) answer new h c = subst Has (sym h.2) c
      after_check old i (Ok false) answer new h c = chooses old answer new h c
      after_check old i (Err x) answer new h c = chooses old answer new h c

      passed : (kept : Option ℕ) (old : BalanceView D R K S) (answer : Option (Poll (Result (Unit {0}) (Error E X)))) (new : BalanceView D R K S) → IterationAt eq s loaded cmp drew kept old answer new
          → Has old → Has new
      passed None old answer new h c = chooses old answer new h c
      passed (Some i) old answer new h c = after_check (record old { services = h.1 }) i h.0 answer new h.3
          (record { discover = tt; services = checked old.services i h.0 h.1 h.2 c.services; change = c.change; inserts = c.inserts })

      went_choosing : (n : ℕ) (old new : BalanceView D R K S × List (K × S)) → Iterates (CountedIteration {X = X} eq s loaded cmp drew) n old new → Has old.0 → Has new.0
      unfolding Iterates
      went_choosing zero old new h c = subst (λ v. Has v.0) (sym h) c
      went_choosing (suc n) old new h c = passed h.0.0.kept h.0.0 None new.0 h.2.0 (went_choosing n old h.0 h.1 c)

      after_promotion : (inner : Result (Unit {0}) (Error E X)) (old : BalanceView D R K S) (answer : Poll (Result (Unit {0}) (Error E X))) (new : BalanceView D R K S)
          → AfterPromotion eq s loaded cmp drew inner old answer new → Has old → Has new
      after_promotion (Err e) old answer new h c = subst Has (sym h.1) c
      after_promotion (Ok u) old answer new h c = passed h.last.kept h.last (Some answer) new h.ends (went_choosing h.count (old, []) (h.last, h.polled) h.went c)

      after_changes : (inner : Result (Unit {0}) (Error E X)) (old : BalanceView D R K S) (answer : Poll (Result (Unit {0}) (Error E X))) (new : BalanceView D R K S)
          → AfterChanges eq s loaded cmp drew inner old answer new → Has old → Has new
      after_changes (Err e) old answer new h c = subst Has (sym h.1) c
      after_changes (Ok u) old answer new h c = after_promotion h.0 h.1 answer new h.3 (subst Has (sym h.2.1)
          (record { discover = tt; services = promoted h.2.0.0 old.services h.0 h.1.services h.2.0.1 c.services; change = c.change; inserts = c.inserts }))

      polls : (old : BalanceView D R K S) (answer : Poll (Result (Unit {0}) (Error E X))) (new : BalanceView D R K S) → Polled eq s loaded cmp drew discovered old answer new → Has old → Has new
      polls old answer new h c = after_changes h.inner h.mid answer new h.goes (changes old.change old h.inner h.mid refl h.changed c)

module _ {S Q A E G : Type 0} (s : ServiceOf S Q A E G) (P : S → Type 0) where
  -- a poll leads on
  closes : (old : S) (answer : Poll (Result (Unit {0}) E)) (new : S) → LedTo s P (λ x. x ≡ []) old → s.polled old answer new → LedTo s P (λ x. x ≡ []) new
  closes old answer new h polled = (h.0, h.1, after (relations s) h.0 old new h.2 (one_poll (relations s) old new answer polled refl))

module _ {D K S Q A E G R X : Type 0} (eq : K → K → Bool) (s : ServiceOf S Q A E G) (discovered : D → Found K S X → D → Type 0) (P : S → Type 0) where
  -- what holds at first holds after no action
  weaker : (Requests : List Q → Type 0) → Requests [] → (v : BalanceView D R K S) → EachEndpoint discovered P v → EachEndpoint discovered (LedTo s P Requests) v
  weaker Requests none v c =
      let still : (x : S) → P x → LedTo s P Requests x = λ x p. (x, p, no_action (relations s) x x refl none) in
      record {
        discover = tt;
        services = record {
          ready = All-weaker (λ e. P e.1) (λ e. LedTo s P Requests e.1) (λ e p. still e.1 p) v.services.ready c.services.ready;
          pending = All-weaker (Askable P) (Askable (LedTo s P Requests)) (λ q p asks. still q.service (p asks)) v.services.pending c.services.pending;
        };
        change = kept v.change c.change;
        inserts = λ key service may. still service (c.inserts key service may);
      }
    where
      kept : (change : Option (K × S)) → IfSome change (λ e. P e.1) → IfSome change (λ e. LedTo s P Requests e.1)
      kept None h = tt
      kept (Some e) h = (e.1, h, no_action (relations s) e.1 e.1 refl none)

  called : (old : BalanceView D R K S) (request : Q) (future : Option G) (new : BalanceView D R K S) → Called eq s old request future new → EachEndpoint discovered P old
      → EachEndpoint discovered (LedTo s P (AtMostOnce request)) new
  called old request future new h c = by old.kept h
    where
      led : EachEndpoint discovered (LedTo s P (AtMostOnce request)) old
      led = weaker (AtMostOnce request) (inr refl) old c

      cached : (index : ℕ) (inner : G) (services : ReadyCacheView K S) → CacheCalled eq s old.services index request inner services → CacheSound (LedTo s P (AtMostOnce request)) services
      cached index inner services h =
          let was : P h.service = at_index P old.services.ready index (h.key, h.service) h.there c.services.ready in
          subst (CacheSound (LedTo s P (AtMostOnce request))) (sym h.same) (record {
            ready = removed (LedTo s P (AtMostOnce request)) old.services.ready index (h.key, h.service)
                (h.service, was, no_action (relations s) h.service h.service refl (inr refl)) led.services.ready;
            pending = put_back_in eq (LedTo s P (AtMostOnce request)) h.key h.left old.services.pending
                (h.service, was, one_call (relations s) h.service h.left request inner h.ready h.called (inl refl)) led.services.pending;
          })

      by : (kept : Option ℕ) → MatchOption kept ⊥ (λ i. (inner : G) × CacheCalled eq s old.services i request inner new.services
          × (future ≡ Some inner) × (new ≡ record old { services = new.services; kept = None })) → EachEndpoint discovered (LedTo s P (AtMostOnce request)) new
      by None h = absurd h
      by (Some i) h = subst (λ v. EachEndpoint discovered (LedTo s P (AtMostOnce request)) v) (sym h.3)
          (record { discover = tt; services = cached i h.0 new.services h.1; change = led.change; inserts = led.inserts })

  module _ {M : Type 0} (loaded : S → M → Type 0) (cmp : M → M → Option Ordering) (drew : R → ℕ → R → Type 0) where
    polled : (old : BalanceView D R K S) (answer : Poll (Result (Unit {0}) (Error E X))) (new : BalanceView D R K S) → Polled eq s loaded cmp drew discovered old answer new
        → EachEndpoint discovered P old → EachEndpoint discovered (LedTo s P (λ x. x ≡ [])) new
    polled old answer new h c = polls eq s (LedTo s P (λ x. x ≡ [])) (closes s P) discovered loaded cmp drew old answer new h (weaker (λ x. x ≡ []) refl old c)

module _ {D K S Q A E G R X : Type 0} (eq : K → K → Bool) (s : ServiceOf S Q A E G) (discovered : D → Found K S X → D → Type 0) where
  -- each endpoint is one
  each : (v : BalanceView D R K S) → EachEndpoint discovered (MayBeEndpoint discovered v) v
  each v = record {
    discover = tt;
    services = record {
      ready = All-weaker (Contains v.services.ready) (λ e. MayBeEndpoint discovered v e.1) (λ e h. inl (e.0, h)) v.services.ready (All-contains_itself v.services.ready);
      pending = All-weaker (Contains v.services.pending) (Askable (MayBeEndpoint discovered v)) (λ q h asks. inr (inl (q, h, refl))) v.services.pending
          (All-contains_itself v.services.pending);
    };
    change = kept v.change refl;
    inserts = λ key service may. inr (inr (inr (key, may)));
  }
    where
      kept : (change : Option (K × S)) → v.change ≡ change → IfSome change (λ e. MayBeEndpoint discovered v e.1)
      kept None e = tt
      kept (Some change) e = inr (inr (inl (change.0, e)))

  module _ {B M : Type 0} (view : B → BalanceView D R K S) (loaded : S → M → Type 0) (cmp : M → M → Option Ordering) (drew : R → ℕ → R → Type 0) where
    abbrev balance_of : Relations B Q (Error E X) (Option G)
    balance_of = record {
      ready = λ b. IsReady s.ready (view b);
      polled = λ old answer new. Polled eq s loaded cmp drew discovered (view old) answer (view new);
      called = λ old request future new. Called eq s (view old) request future (view new);
    }

    pub balance : (old : B) (action : Action Q (Error E X) (Option G)) (new : B) → Takes balance_of old action new
        → EachEndpoint discovered (LedTo s (MayBeEndpoint discovered (view old)) (ByAction AtMostOnce action)) (view new)
    balance old (Action.poll answer) new takes =
        polled eq s discovered (MayBeEndpoint discovered (view old)) loaded cmp drew (view old) answer (view new) takes (each (view old))
    balance old (Action.call request future) new takes =
        called eq s discovered (MayBeEndpoint discovered (view old)) (view old) request future (view new) takes.1 (each (view old))
