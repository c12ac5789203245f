-- Lists of indexes to ask.
use Rattle.std.proofs.Common.{All, ◌≡◌, ◌≢◌, ℕ, ◌<◌, List, [], ◌∷◌, ◌⊎◌, inl, inr, ⊎_elim, length, slice_index_or, slice_set, drop, sym, ◌∙◌, subst, arith, length-set}
use Rattle.std.proofs.lemmas.List.{get_or-set_other}
use Rattle.std.proofs.lemmas.Grind.{get_or-set_at}
use Rattle.std.proofs.lemmas.Bool.Decides.{eqb_tells}
use Rattle.std.proofs.lemmas.List.Elements.{All-drop}
use Rattle.std.specs.Prelude.{Result, Ok}
use Rattle.futures.specs.declared.task.Poll.{Poll}
use Rattle.futures.specs.declared.task.Poll.TheVariants.{Ready}
use Rattle.futures.specs.declared.task.context.Context.{Context}
use Rattle.tower_base.specs.Quiet.{Quiet}
use Rattle.tower_ware.specs.Steer.{EachStirs, Listed, NeedsFront, Rested}

module _ {S : Type 0} (ready : S → Type 0) where
  -- what stood elsewhere stands there after a write
  elsewhere : (ss : List S) (is : List ℕ) (i j : ℕ) (v w : S) → j ≢ i → Rested ready ss is → j < length (slice_set ss i w)
      → slice_index_or (slice_set ss i w) j v ≡ v → ready v ⊎ Listed is j
  elsewhere ss is i j v w other h below there =
      h j v (simp length-set at below) (sym (get_or-set_other ss i j w v other) ∙ there)

  -- a write of a service that is ready at the index in front, which leaves the list
  pub rested_next : (ss : List S) (is : List ℕ) (i : ℕ) (w : S) → slice_index_or is 0 i ≡ i → 0 < length is → i < length ss → ready w
      → Rested ready ss is → Rested ready (slice_set ss i w) (drop 1 is)
  rested_next ss [] i w front some inside now h = absurd (omega arith)
  rested_next ss (k ∷ is) i w front some inside now h = λ j v below there.
      ⊎_elim (λ t. inl (subst ready (sym (get_or-set_at ss i j w v t.1 inside) ∙ there) now))
      (λ f. ⊎_elim inl (⊎_elim (λ e. absurd (f.1 (sym e ∙ front))) inr) (elsewhere ss (k ∷ is) i j v w f.1 h below there))
      (eqb_tells j i)

  -- a call of a service, while none is listed, of which the list then has the index
  pub rested_called : (ss : List S) (i : ℕ) (w : S) → Rested ready ss [] → Rested ready (slice_set ss i w) (i ∷ [])
  rested_called ss i w h = λ j v below there.
      ⊎_elim (λ t. inr (inl (sym t.1))) (λ f. ⊎_elim inl (λ x. absurd x) (elsewhere ss [] i j v w f.1 h below there)) (eqb_tells j i)

  -- a service, while none is listed
  pub rested_at : (ss : List S) (i : ℕ) (v : S) → Rested ready ss [] → i < length ss → slice_index_or ss i v ≡ v → ready v
  rested_at ss i v h below there = ⊎_elim (λ now. now) (λ x. absurd x) (h i v below there)

-- what stands in front
front_is : (is : List ℕ) (i : ℕ) (P : ℕ → Type 0) → All P is → slice_index_or is 0 i ≡ i → 0 < length is → P i
front_is is i P all front some = subst P front (all 0 i some)

-- a write of a service that is sound
pub each_write : {S : Type 0} (sound : S → Type 0) (ss : List S) (i : ℕ) (w : S) → sound w → All sound ss → All sound (slice_set ss i w)
each_write sound ss i w now h k d below =
    let size = simp length-set at below in
    ⊎_elim (λ t. subst sound (sym (get_or-set_at ss i k w d t.1 (subst (λ x. x < length ss) t.1 size))) now)
    (λ f. subst sound (sym (get_or-set_other ss i k w d f.1)) (h k d size)) (eqb_tells k i)

-- no write changes how many services there are
inside_write : {S : Type 0} (ss : List S) (is : List ℕ) (i : ℕ) (w : S) → All (λ k. k < length ss) is
    → All (λ k. k < length (slice_set ss i w)) is
inside_write ss is i w h = λ k d below. simp length-set (h k d below)

-- after a write of a service, and without the index in front
pub inside_after : {S : Type 0} (ss : List S) (is : List ℕ) (i : ℕ) (w : S) → All (λ k. k < length ss) is
    → All (λ k. k < length (slice_set ss i w)) (drop 1 is)
inside_after ss is i w h = All-drop (λ k. k < length (slice_set ss i w)) 1 is (inside_write ss is i w h)

-- after a write of a service that is ready at the index in front, which leaves the list
pub rested_after : {S : Type 0} (ready : S → Type 0) (ss : List S) (is : List ℕ) (i : ℕ) (w : S) → slice_index_or is 0 i ≡ i → 0 < length is
    → All (λ k. k < length ss) is → ready w → Rested ready ss is → Rested ready (slice_set ss i w) (drop 1 is)
rested_after ready ss is i w front some inside now h = rested_next ready ss is i w front some (front_is is i (λ k. k < length ss) inside front some) now h

-- If the service at the index in front was polled, and the task is heard at all that it waits for, it is heard at all that the list waits for.
pub heard_front : {S : Type 0} (needs : S → ℕ → Type 0) (ss : List S) (is : List ℕ) (i : ℕ) (left : S) (heard : ℕ → Type 0)
    → slice_index_or is 0 i ≡ i → i < length ss → ((source : ℕ) → needs left source → heard source)
    → (source : ℕ) → NeedsFront needs is (slice_set ss i left) source → heard source
heard_front needs ss [] i left heard front inside told source n = absurd n
heard_front needs ss (k ∷ is) i left heard front inside told source n =
    told source (subst (λ service. needs service source) (sym n.1 ∙ get_or-set_at ss i k left n.0 front inside) n.2)

module _ {S E : Type 0} (polled : S → Poll (Result (Unit {0}) E) → S → Type 0) (stirs : S → S → Type 0) (listed : List ℕ) (services : List S)
    (before : Context) where
  abbrev pub Cause : Type 0
  Cause = EachStirs polled stirs listed services

  -- The polls so far asked for another poll only for a cause. A cause of the polls of what is still listed is one, too.
  unfoldable pub QuietSoFar : List ℕ → List S → Context → Type 0
  QuietSoFar is ss after = (EachStirs polled stirs is ss → Cause) × Quiet Cause before after

  -- No service was polled yet.
  pub quiet_start : QuietSoFar listed services before
  unfolding QuietSoFar
  quiet_start = (λ h. h, λ woken. inl woken)

  -- No service is polled any more.
  pub quiet_end : (is : List ℕ) (ss : List S) (after : Context) → QuietSoFar is ss after → Quiet Cause before after
  unfolding QuietSoFar
  quiet_end is ss after h = h.1

  module _ (i : ℕ) (ss : List S) (v w : S) (inner : Poll (Result (Unit {0}) E)) (there : slice_index_or ss i v ≡ v) (poll : polled v inner w) where
    stirs_front : (is : List ℕ) → slice_index_or is 0 i ≡ i → 0 < length is → stirs v w → EachStirs polled stirs is ss
    stirs_front [] front some h = absurd (omega arith)
    stirs_front (k ∷ is) front some h = subst (λ x. EachStirs polled stirs (x ∷ is) ss) (sym front) (v, w, inner, there, poll, inl h)

    stirs_rest : (is : List ℕ) → slice_index_or is 0 i ≡ i → 0 < length is → inner ≡ Ready (Ok tt)
        → EachStirs polled stirs (drop 1 is) (slice_set ss i w) → EachStirs polled stirs is ss
    stirs_rest [] front some ok h = absurd (omega arith)
    stirs_rest (k ∷ is) front some ok h = subst (λ x. EachStirs polled stirs (x ∷ is) ss) (sym front) (v, w, inner, there, poll, inr (rw ok h))

    -- The service at the index in front was polled.
    pub quiet_polled : (is : List ℕ) (mid after : Context) → slice_index_or is 0 i ≡ i → 0 < length is → QuietSoFar is ss mid → Quiet (stirs v w) mid after
        → Quiet Cause before after
    unfolding QuietSoFar
    quiet_polled is mid after front some h quiet = λ woken. ⊎_elim h.1 (λ s. inr (h.0 (stirs_front is front some s))) (quiet woken)

    -- It was ready, and leaves the list.
    pub quiet_next : (is : List ℕ) (mid after : Context) → slice_index_or is 0 i ≡ i → 0 < length is → inner ≡ Ready (Ok tt) → QuietSoFar is ss mid
        → Quiet (stirs v w) mid after → QuietSoFar (drop 1 is) (slice_set ss i w) after
    unfolding QuietSoFar
    quiet_next is mid after front some ok h quiet = (λ s. h.0 (stirs_rest is front some ok s), quiet_polled is mid after front some h quiet)
