-- What one poll of a future, stream or other party says about what it may give, yield or answer.
use Rattle.std.specs.Prelude.{ℕ, suc, zero, List, [], ◌∷◌, Option, Some, None, IfSome, OnSome}
use Rattle.futures.specs.declared.task.Poll.{Poll}
use Rattle.futures.specs.declared.task.Poll.TheVariants.{Ready, Pending}
use Rattle.futures.specs.Poll.{IfReady, OnPending}
use Rattle.futures.specs.Task.{Covers, Keeps}
use Rattle.futures.specs.declared.task.context.Context.{Context}
use Rattle.futures.specs.Runs.{After, Within}
use Rattle.tower_base.specs.Gives.{GivesAfter, MayGive, IsStep, GivesOnly, IsFlow, Yields, MayYield, AnswersAfter, MayAnswer}

module _ {F A : Type 0} (stepped : F → Poll A → F → Type 0) where
  -- What a poll returns is an output that the future may give.
  pub gives_value : (f : F) (a : Poll A) (g : F) → stepped f a g → IfReady a (MayGive stepped f)
  unfolding MayGive
  gives_value f (Ready x) g s = (0, (g, s))
  gives_value f Pending g s = tt

  -- After a pending poll the future may give no more than before it.
  pub gives_same : (f : F) (a : Poll A) (g : F) → stepped f a g → OnPending a ((x : A) → MayGive stepped g x → MayGive stepped f x)
  unfolding MayGive
  gives_same f (Ready x) g s = tt
  gives_same f Pending g s = λ x h. (suc h.0, (g, s, h.1))

module _ {F A : Type 0} (stepped : F → Poll A → F → Type 0) (can_poll : F → Type 0) (needs : F → ℕ → Type 0) where
  -- One step is a poll. Name this lemma by `using` on a `poll` that is `self.step(cx)`.
  pub one_step : (old : F) (answer : Poll A) (new : F) (before after : Context) → stepped old answer new → OnPending answer (can_poll new)
      → OnPending answer (Covers after (needs new)) → Keeps before after → IsStep stepped can_poll needs old answer new before after
  one_step old (Ready x) new before after s a r k = (s, gives_value stepped old (Ready x) new s, k)
  one_step old Pending new before after s a r k = (s, gives_same stepped old Pending new s, r, k, a)

module _ {F A : Type 0} (gives : F → A → Type 0) where
  given_after : (n : ℕ) (f : F) (x : A) → GivesAfter (GivesOnly gives) n f x → gives f x
  given_after zero f x h = h.1.0
  given_after (suc n) f x h = h.1.1 x (given_after n h.0 x h.2)

  -- A future of which only the outputs are known may give only those outputs.
  pub gives_only : (f : F) (x : A) → MayGive (GivesOnly gives) f x → gives f x
  unfolding MayGive
  gives_only f x h = given_after h.0 f x h.1

module _ {F A : Type 0} (flowed : F → Poll (Option A) → F → Type 0) where
  -- What a poll returns is an answer that the stream may yield next.
  pub yields_value : (f : F) (a : Poll (Option A)) (g : F) → flowed f a g → IfReady a (MayYield flowed f [])
  unfolding MayYield
  yields_value f (Ready o) g s = (0, (g, s, tt))
  yields_value f Pending g s = tt

  -- After a poll returned an item, whatever may follow might have followed that item before the poll.
  pub yields_rest : (f : F) (a : Poll (Option A)) (g : F) → flowed f a g
      → IfReady a (λ o. IfSome o (λ x. After (MayYield flowed f) x (MayYield flowed g)))
  unfolding MayYield
  yields_rest f (Ready (Some x)) g s = λ xs last h. (0, (g, s, h))
  yields_rest f (Ready None) g s = tt
  yields_rest f Pending g s = tt

  later : (f g : F) → flowed f Pending g → (xs : List A) (last : Option A) → Yields flowed xs last g → Yields flowed xs last f
  later f g s [] last h = (suc h.0, (g, s, h.1))
  later f g s (x ∷ xs) last h = (suc h.0, (g, s, h.1))

  -- After a pending poll the stream may yield no more than before it.
  pub yields_same : (f : F) (a : Poll (Option A)) (g : F) → flowed f a g → OnPending a (Within (MayYield flowed f) (MayYield flowed g))
  unfolding MayYield
  yields_same f (Ready o) g s = tt
  yields_same f Pending g s = λ xs last h. later f g s xs last h

module _ {F A : Type 0} (flowed : F → Poll (Option A) → F → Type 0) (can_poll : F → Type 0) (needs : F → ℕ → Type 0) where
  -- One flow is a poll. Name this lemma by `using` on a `poll_next` that is `self.flow(cx)`.
  pub one_flow : (old : F) (answer : Poll (Option A)) (new : F) (before after : Context) → flowed old answer new
      → IfReady answer (λ item. OnSome item (can_poll new)) → OnPending answer (can_poll new)
      → OnPending answer (Covers after (needs new)) → Keeps before after → IsFlow flowed can_poll needs old answer new before after
  one_flow old (Ready (Some x)) new before after s g a r k =
      (s, yields_value flowed old (Ready (Some x)) new s, yields_rest flowed old (Ready (Some x)) new s, k, g)
  one_flow old (Ready None) new before after s g a r k = (s, yields_value flowed old (Ready None) new s, k)
  one_flow old Pending new before after s g a r k = (s, yields_same flowed old Pending new s, r, k, a)

module _ {D A : Type 0} (polled : D → A → D → Type 0) where
  -- An answer of a poll is one that may come.
  pub answers_now : (d : D) (a : A) (e : D) → polled d a e → MayAnswer polled d a
  unfolding MayAnswer
  answers_now d a e s = (0, (e, s))

  -- What may come after a poll might have come before it.
  pub answers_later : (d : D) (other : A) (e : D) → polled d other e → (a : A) → MayAnswer polled e a → MayAnswer polled d a
  unfolding MayAnswer
  answers_later d other e s a h = (suc h.0, (other, e, s, h.1))

  module _ (I : D → Type 0) (P : A → Type 0) (step : (d : D) (a : A) (e : D) → I d → polled d a e → P a × I e) where
    kept_after : (n : ℕ) (d : D) (a : A) → I d → AnswersAfter polled n d a → P a
    kept_after zero d a i h = (step d a h.0 i h.1).0
    kept_after (suc n) d a i h = kept_after n h.1 a (step d h.0 h.1 i h.2).1 h.3

    -- If each poll preserves I and P holds for its answer, then P holds for every answer that may come.
    pub answers_kept : (d : D) (a : A) → I d → MayAnswer polled d a → P a
    unfolding MayAnswer
    answers_kept d a i h = kept_after h.0 d a i h.1
