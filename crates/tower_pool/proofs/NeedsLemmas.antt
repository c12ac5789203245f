-- At which sources a task is heard that polls the pending endpoints one after another.
use Rattle.std.proofs.Common.{ℕ, zero, suc, ◌≡◌, ◌⊎◌, inl, inr, ⊎_elim, Bool, true, false, List, [], ◌∷◌, ◌++◌, drop, length, ◌≤◌, if◌then◌else◌, sym, subst}
use Rattle.std.proofs.lemmas.List.{drop_all}
use Rattle.futures.specs.Task.{Hears, Keeps, Lasting}
use Rattle.futures.specs.declared.task.context.Context.{Context}
use Rattle.tower_pool.specs.Balance.{BalanceView, Needs}
use Rattle.tower_pool.specs.ReadyCache.{HeardFrom, PendingNeeds, PendingView}

none_after : (K : Type 0) {S : Type 0} (needs : S → ℕ → Type 0) (n source : ℕ) → PendingNeeds {K = K} needs (drop n []) source → ⊥
none_after K needs zero source h = h
none_after K needs (suc n) source h = h

module _ {K S : Type 0} (needs : S → ℕ → Type 0) where
  -- None is left of a list without as many as it has.
  pub heard_none : (ps : List (PendingView K S)) (n : ℕ) → length ps ≤ n → (source : ℕ) → PendingNeeds needs (drop n ps) source → ⊥
  heard_none ps n past source need = subst (λ rest. PendingNeeds needs rest source) (drop_all n ps past) need

  -- what a list waits for with one more endpoint at its end
  needs_last : (n : ℕ) (ps : List (PendingView K S)) (q : PendingView K S) (source : ℕ) → PendingNeeds needs (drop n (ps ++ q ∷ [])) source
      → PendingNeeds needs (drop n ps) source ⊎ needs q.service source
  needs_last zero [] q source h = ⊎_elim inr (λ none. absurd none) h
  needs_last zero (p ∷ ps) q source h =
      ⊎_elim (λ first. inl (inl first)) (λ later. ⊎_elim (λ rest. inl (inr rest)) inr (needs_last zero ps q source later)) h
  needs_last (suc n) [] q source h = absurd (none_after K needs n source h)
  needs_last (suc n) (p ∷ ps) q source h = needs_last n ps q source h

  module _ (before after : Context) (kept : Keeps before after) where
    -- A later moment of the same poll hears what an earlier one did.
    pub heard_kept : (n : ℕ) (ps : List (PendingView K S)) → HeardFrom needs before n ps → HeardFrom needs after n ps
    heard_kept n ps h = λ source need. kept (Lasting.hears source) (h source need)

    -- The first endpoint left.
    pub heard_gone : (n : ℕ) (was : List (PendingView K S)) (q : PendingView K S) (rest : List (PendingView K S)) → was ≡ q ∷ rest
        → HeardFrom needs before (suc n) was → HeardFrom needs after n rest
    heard_gone n was q rest there h = heard_kept n rest (subst (HeardFrom needs before (suc n)) there h)

    -- The first endpoint is the last now, and the task is heard where it waits.
    pub heard_waits : (n : ℕ) (was : List (PendingView K S)) (q : PendingView K S) (rest now : List (PendingView K S)) (p : PendingView K S) → was ≡ q ∷ rest
        → now ≡ rest ++ p ∷ [] → ((source : ℕ) → needs p.service source → Hears after source) → HeardFrom needs before (suc n) was
        → HeardFrom needs after n now
    heard_waits n was q rest now p there is told h = subst (HeardFrom needs after n) (sym is)
        (λ source need. ⊎_elim (heard_gone n was q rest there h source) (told source) (needs_last n rest p source need))

    -- One more endpoint is pending, or it is dropped.
    pub heard_back : (b : Bool) (ps : List (PendingView K S)) (p : PendingView K S) → ((source : ℕ) → needs p.service source → Hears after source)
        → HeardFrom needs before 0 ps → HeardFrom needs after 0 (if b then ps else ps ++ p ∷ [])
    heard_back true ps p told h = heard_kept 0 ps h
    heard_back false ps p told h = λ source need. ⊎_elim (heard_kept 0 ps h source) (told source) (needs_last 0 ps p source need)

-- The task is heard at the discovery, unless it has ended, and at each pending endpoint.
pub heard_both : {D R K S : Type 0} (discovery : D → ℕ → Type 0) (endpoint : S → ℕ → Type 0) (v : BalanceView D R K S) (cx : Context)
    → (v.is_over ≡ false → (source : ℕ) → discovery v.discover source → Hears cx source) → HeardFrom endpoint cx 0 v.services.pending
    → (source : ℕ) → Needs discovery endpoint v source → Hears cx source
heard_both discovery endpoint v cx reads pending source need = ⊎_elim (λ n. reads n.0 source n.1) (pending source) need
