-- What a cache keeps, and its checks, over plain values.
use Rattle.std.proofs.Common.{All, OnOk, OnErr, ◌++◌, ℕ, zero, suc, ◌≡◌, ◌∙◌, List, [], ◌∷◌, Option, Some, None, Result, Ok, Err, IfOk, Bool, true, false, slice_get, refl, sym, ap, subst}
use Rattle.std.specs.Map.{keys_of}
use Rattle.std.specs.Option.{MatchOption}
use Rattle.std.specs.List.{swap_remove}
use Rattle.futures.specs.declared.task.Poll.{Poll}
use Rattle.futures.specs.declared.task.Poll.TheVariants.{Ready, Pending}
use Rattle.indexmap.specs.IndexMap.{set_value_at}
use Rattle.tower_base.specs.declared.service.Service.{Ghosts as ServiceOf}
use Rattle.tower_pool.specs.declared.ready_cache.error.Failed.{Failed}
use Rattle.tower_pool.specs.ReadyCache.{PendingView}
use Rattle.tower_pool.specs.ReadyCache.{Askable, ReadyCacheView, Called, Checked, Settles, cancel, put_back, pending_entry}
use Rattle.tower_pool.proofs.PendingLemmas.{All-new}

keys_written : {K S : Type 0} → (es : List (K × S)) (i : ℕ) (w : S) → keys_of (set_value_at es i w) ≡ keys_of es
keys_written [] i w = refl
keys_written (e ∷ es) zero w = refl
keys_written (e ∷ es) (suc i) w = ap (λ ks. e.0 ∷ ks) (keys_written es i w)

module _ {K S Q A E G : Type 0} (eq : K → K → Bool) (s : ServiceOf S Q A E G) where
  checked_at : (old : ReadyCacheView K S) (index : ℕ) (answer : Result Bool (Failed K E)) (new : ReadyCacheView K S) (e : K × S) (r : Poll (Result (Unit {0}) E)) (left : S)
      → slice_get old.ready index ≡ Some e → s.polled e.1 r left → Settles eq s old index e left r answer new → Checked eq s old index answer new
  checked_at old index answer new e r left at came h =
      subst (λ o. MatchOption o ((answer ≡ Ok false) × (new ≡ old))
      (λ e. (r : Poll (Result (Unit {0}) E)) × (left : S) × s.polled e.1 r left × Settles eq s old index e left r answer new)) (sym at) (r, left, came, h)

  -- a check, seen from the fields as they were
  pub checked_of : (was old : ReadyCacheView K S) → was ≡ old → (index : ℕ) (answer : Result Bool (Failed K E)) (new : ReadyCacheView K S) (e : K × S) (r : Poll (Result (Unit {0}) E)) (left : S)
      → slice_get was.ready index ≡ Some e → s.polled e.1 r left → Settles eq s was index e left r answer new → Checked eq s old index answer new
  checked_of was old same index answer new e r left at came h = subst (λ v. Checked eq s v index answer new) same (checked_at was index answer new e r left at came h)

  -- a check that finds its endpoint ready leaves the keys where they were
  pub checked_keys : (old : ReadyCacheView K S) (index : ℕ) (answer : Result Bool (Failed K E)) (new : ReadyCacheView K S) → Checked eq s old index answer new → answer ≡ Ok true
      → keys_of new.ready ≡ keys_of old.ready
  checked_keys old index answer new h e = by (slice_get old.ready index) h
    where
      settled : (u : K × S) (inner : Poll (Result (Unit {0}) E)) (left : S) → Settles eq s old index u left inner answer new → keys_of new.ready ≡ keys_of old.ready
      settled u (Ready (Ok t)) left h = ap (λ v. keys_of v.ready) h.1 ∙ keys_written old.ready index left
      settled u (Ready (Err x)) left h = let f : answer ≡ Err (record { 0 = u.0; 1 = x }) = h.0 in cc
      settled u Pending left h = let f : answer ≡ Ok false = h.0 in cc

      by : (o : Option (K × S)) → MatchOption o ((answer ≡ Ok false) × (new ≡ old))
          (λ u. (inner : Poll (Result (Unit {0}) E)) × (left : S) × s.polled u.1 inner left × Settles eq s old index u left inner answer new) → keys_of new.ready ≡ keys_of old.ready
      by None h = let f : answer ≡ Ok false = h.0 in cc
      by (Some u) h = settled u h.0 h.1 h.3

  -- a call
  pub called_of : (was old : ReadyCacheView K S) → was ≡ old → (index : ℕ) (request : Q) (future : G) (new : ReadyCacheView K S) (u : K × S) (left : S)
      → slice_get was.ready index ≡ Some u → s.ready u.1 → s.called u.1 request future left
      → (new ≡ record { ready = swap_remove was.ready index u; pending = put_back eq u.0 left was.pending })
      → Called eq s old index request future new
  called_of was old same index request future new u left there now came is = subst (λ v. Called eq s v index request future new) same (record {
    key = u.0;
    service = u.1;
    left = left;
    there = there;
    ready = now;
    called = came;
    same = is;
  })

module _ {K S : Type 0} where
  pub same_view : (ready ready' : List (K × S)) (pending pending' : List (PendingView K S)) → ready ≡ ready' → pending ≡ pending'
      → (let a : ReadyCacheView K S = record { ready = ready; pending = pending } in let b : ReadyCacheView K S = record { ready = ready'; pending = pending' } in a ≡ b)
  same_view ready ready' pending pending' e f = λ j. record { ready = e j; pending = f j }

-- a fact about what a call answered follows from another one
pub when_answered : {X E : Type 0} → (r : Result X E) (P R : X → Type 0) → ((x : X) → r ≡ Ok x → P x → R x) → IfOk r P → IfOk r R
when_answered (Ok x) P R more h = more x refl h
when_answered (Err e) P R more h = tt

-- a push of a sound service, by its answer
pub sound_push : {K S X E : Type 0} → (eq : K → K → Bool) (sound : S → Type 0) (r : Result X E) (k : K) (v : S) (es : List (K × S)) (ps now : List (PendingView K S)) → OnOk r (now ≡ cancel eq k ps ++ pending_entry k v ∷ []) → OnErr r (now ≡ ps)
    → sound v → All (Askable sound) ps → All (Askable sound) now
sound_push eq sound (Ok x) k v es ps now is same good h = subst (All (Askable sound)) (sym is) (All-new eq k sound v ps good h)
sound_push eq sound (Err e) k v es ps now is same good h = subst (All (Askable sound)) (sym same) h
