-- Iterations that ask for another poll only for a cause.
use Rattle.std.proofs.Common.{◌≡◌, ℕ, Option, inl, inr, ⊎_elim, subst}
use Rattle.futures.specs.declared.task.context.Context.{Context}
use Rattle.tower_base.specs.Iterations.{Iterates, limit}
use Rattle.tower_base.specs.Quiet.{Quiet}
use Rattle.tower_ware.specs.IterationsQuiet.{SomeStirs, StirsOrTires}

module _ {V A : Type 0} (iteration : V → Option A → V → Type 0) (stirs : V → Type 0) where
  -- No iteration was made yet.
  pub quiet_start : (old : V) (before : Context) → Quiet (SomeStirs iteration stirs old) before before
  quiet_start old before = inl

  -- One more iteration is made.
  pub quiet_more : (n : ℕ) (old mid : V) (before between after : Context) → Iterates iteration n old mid
      → Quiet (SomeStirs iteration stirs old) before between → Quiet (stirs mid) between after → Quiet (SomeStirs iteration stirs old) before after
  unfolding SomeStirs
  quiet_more n old mid before between after went quiet more = λ woken. ⊎_elim quiet (λ h. inr (n, mid, went, h)) (more woken)

  -- One more iteration is made, which gives an answer.
  pub quiet_answer : (n : ℕ) (old mid new : V) (before between after : Context) → Iterates iteration n old mid
      → Quiet (SomeStirs iteration stirs old) before between → Quiet (stirs mid) between after → Quiet (StirsOrTires iteration stirs old new) before after
  quiet_answer n old mid new before between after went quiet more =
      λ woken. ⊎_elim inl (λ h. inr (inl h)) (quiet_more n old mid before between after went quiet more woken)

  -- The limit is reached.
  pub quiet_tired : (n : ℕ) (old new : V) (before after : Context) → n ≡ limit → Iterates iteration n old new
      → Quiet (StirsOrTires iteration stirs old new) before after
  quiet_tired n old new before after all went = λ woken. inr (inr (subst (λ k. Iterates iteration k old new) all went))
