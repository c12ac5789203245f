-- How iterations add up to a poll.
use Rattle.std.specs.Prelude.{◌≡◌, ℕ, zero, suc, ◌+◌, ◌<◌, Option, Some, None}
use Rattle.std.proofs.Common.{inl, inr, ⊎_elim, add-one, refl, subst, sym}
use Rattle.tower_base.specs.Iterations.{Iterates, Iterations, limit}

module _ {V A : Type 0} (iteration : V → Option A → V → Type 0) where
  -- No iteration was made yet.
  pub iterates_start : (v : V) → Iterates iteration 0 v v
  unfolding Iterates
  iterates_start v = refl

  -- One more iteration is made.
  pub iterates_more : (n : ℕ) (old mid new : V) → Iterates iteration n old mid → iteration mid None new → Iterates iteration (n + 1) old new
  unfolding Iterates
  iterates_more n old mid new went more = rw add-one (mid, went, more)

  -- What each iteration without an answer preserves is preserved by all of them.
  pub iterates_keeps : (P : V → Type 0) → ((v w : V) → iteration v None w → P v → P w) → (n : ℕ) (old new : V) → Iterates iteration n old new → P old → P new
  unfolding Iterates
  iterates_keeps P keeps zero old new went h = subst P (sym went) h
  iterates_keeps P keeps (suc n) old new went h = keeps went.0 new went.2 (iterates_keeps P keeps n old went.0 went.1 h)

  -- An iteration gives an answer.
  pub iterations_answer : (n : ℕ) (tired answer : A) (old last new : V) → Iterates iteration n old last → n < limit → iteration last (Some answer) new
      → Iterations iteration tired old answer new
  iterations_answer n tired answer old last new went below ends = record { count = n; last = last; went = went; ends = inl (below, ends) }

  -- The limit is reached.
  pub iterations_tired : (n : ℕ) (tired answer : A) (old last : V) → Iterates iteration n old last → n ≡ limit → answer ≡ tired
      → Iterations iteration tired old answer last
  iterations_tired n tired answer old last went all is = record { count = n; last = last; went = went; ends = inr (all, is, refl) }

  -- An answer other than `tired` is that of the last iteration.
  pub iterations_last : (tired answer : A) (old new : V) → ¬ (answer ≡ tired) → (p : Iterations iteration tired old answer new)
      → iteration p.last (Some answer) new
  iterations_last tired answer old new other p = ⊎_elim (λ answered. answered.1) (λ out. absurd (other out.1)) p.ends

module _ {V A : Type 0} (iteration other : V → Option A → V → Type 0) where
  -- Iterations of one kind that are of another kind too are iterations of that one.
  pub iterates_map : ((old : V) (answer : Option A) (new : V) → iteration old answer new → other old answer new) → (n : ℕ) (old new : V)
      → Iterates iteration n old new → Iterates other n old new
  unfolding Iterates
  iterates_map map zero old new went = went
  iterates_map map (suc n) old new went = (went.0, iterates_map map n old went.0 went.1, map went.0 None new went.2)

  -- A poll that consists of iterations of one kind consists of those of another, if each is one.
  pub iterations_map : ((old : V) (answer : Option A) (new : V) → iteration old answer new → other old answer new) → (tired : A) (old : V) (answer : A) (new : V)
      → Iterations iteration tired old answer new → Iterations other tired old answer new
  iterations_map map tired old answer new p = record {
    count = p.count;
    last = p.last;
    went = iterates_map map p.count old p.last p.went;
    ends = ⊎_elim (λ h. inl (h.0, map p.last (Some answer) new h.1)) (λ h. inr h) p.ends;
  }
