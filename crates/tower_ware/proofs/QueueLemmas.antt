-- Calls of a queue that are polled one after another.
use Rattle.std.proofs.Common.{◌≡◌, ℕ, suc, zero, ◌<◌, ◌≤◌, List, [], ◌∷◌, length, drop, inl, inr, ⊎_elim, slice_index_or, subst, sym, arith}
use Rattle.futures.specs.declared.task.context.Context.{Context}
use Rattle.tower_base.specs.Quiet.{Quiet}
use Rattle.tower_ware.specs.Queue.{SomeCall}

-- One more call was polled. Its cause is one of the queue.
pub quiet_polled : {Cause Of : Type 0} (before between after : Context) → (Of → Cause) → Quiet Cause before between → Quiet Of between after
    → Quiet Cause before after
quiet_polled before between after into so_far polled = λ woken. ⊎_elim so_far (λ h. inr (into h)) (polled woken)

module _ {X : Type 0} (P : X → Type 0) where
  -- If something holds for the call at an index, it holds for one of the calls.
  pub some_call : (calls : List X) (k : ℕ) (call : X) → k < length calls → slice_index_or calls k call ≡ call → P call → SomeCall P calls
  some_call [] k call below at h = absurd (omega arith)
  some_call (first ∷ rest) zero call below at h = inl (subst P (sym at) h)
  some_call (first ∷ rest) (suc k) call below at h = inr (some_call rest k call (omega arith) at h)

  -- The same behind the front.
  pub some_other : (calls : List X) (k : ℕ) (call : X) → 1 ≤ k → k < length calls → slice_index_or calls k call ≡ call → P call
      → SomeCall P (drop 1 calls)
  some_other [] k call behind below at h = absurd (omega arith)
  some_other (first ∷ rest) zero call behind below at h = absurd (omega arith)
  some_other (first ∷ rest) (suc k) call behind below at h = some_call rest k call (omega arith) at h
