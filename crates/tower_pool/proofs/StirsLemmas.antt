-- Polls in a row, each of which asks for another poll only for a cause. (`Quiet P old new` is such a function as in these lemmas.)
use Rattle.std.proofs.Common.{ℕ, ◌≡◌, ◌⊎◌, inl, inr, ⊎_elim, Option, Some, None, IsSome, List, slice_get, subst}
use Rattle.tower_base.specs.Iterations.{Iterates, limit}
use Rattle.tower_base.specs.Quiet.{Ever}
use Rattle.tower_base.specs.QuietLemmas.{ever}
use Rattle.tower_pool.specs.ReadyCache.{ReadyCacheView, StirsAt}

-- A cause implies another one.
pub quiet_by : {Was Is P Q : Type 0} → (P → Q) → (Is → Was ⊎ P) → Is → Was ⊎ Q
quiet_by by quiet woken = ⊎_elim inl (λ p. inr (by p)) (quiet woken)

-- A poll comes after others, and each has its cause.
pub quiet_then : {Was Is Will P Q R : Type 0} → (P → R) → (Q → R) → (Is → Was ⊎ P) → (Will → Is ⊎ Q) → Will → Was ⊎ R
quiet_then by_first by_last before after woken =
    ⊎_elim (λ was. ⊎_elim inl (λ p. inr (by_first p)) (before was)) (λ q. inr (by_last q)) (after woken)

-- The cause of one poll is that of some such poll.
pub quiet_ever : {T Was Is : Type 0} → (stirs : T → T → Type 0) (old new : T) → (Is → Was ⊎ stirs old new) → Is → Was ⊎ Ever stirs
quiet_ever stirs old new quiet woken = ⊎_elim inl (λ h. inr (ever stirs old new h)) (quiet woken)

-- The endpoint at the index is polled.
pub quiet_at : {K S Was Is : Type 0} → (stirs : S → S → Type 0) → (was old : ReadyCacheView K S) → was ≡ old → (index : ℕ) (e : K × S) (left : S) → slice_get was.ready index ≡ Some e
    → (Is → Was ⊎ stirs e.1 left) → Is → Was ⊎ StirsAt stirs old.ready index
quiet_at stirs was old same index e left there quiet woken =
    ⊎_elim inl (λ h. inr (subst (λ v. StirsAt stirs v.ready index) same (e, there, (left, h)))) (quiet woken)

-- Some endpoint is polled at the index.
pub stirs_ever : {K S : Type 0} → (stirs : S → S → Type 0) → (ready : List (K × S)) (index : ℕ) → StirsAt stirs ready index → Ever stirs
stirs_ever stirs ready index h = ever stirs h.0.1 h.2.0 h.2.1

-- As many iterations as the limit gave no answer.
pub at_limit : {V A : Type 0} → (iteration : V → Option A → V → Type 0) → (n : ℕ) (old new : V) → n ≡ limit → Iterates iteration n old new → Iterates iteration limit old new
at_limit iteration n old new is went = subst (λ n. Iterates iteration n old new) is went

-- There is no answer.
pub no_answer : {A : Type 0} → (answer : Option A) → answer ≡ None → IsSome answer → ⊥
no_answer None is some = absurd (cc some)
no_answer (Some a) is some = absurd (cc is)
