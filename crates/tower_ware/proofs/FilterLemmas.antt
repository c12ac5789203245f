-- A check that accepts, and the first poll of the response, in one poll.
use Rattle.std.proofs.Common.{◌≡◌, inl, inr, ⊎_elim}
use Rattle.futures.specs.declared.task.context.Context.{Context}
use Rattle.tower_base.specs.Quiet.{Quiet}
use Rattle.tower_ware.specs.Filter.{async_response_future_stirs}
use Rattle.tower_ware.specs.declared.filter.state.AsyncState.{AsyncState}
use Rattle.tower_ware.specs.declared.filter.state.AsyncState.TheVariants.{Check, InFlight}

module _ {C S F : Type 0} (check : C → C → Type 0) (response : F → F → Type 0) where
  -- Each of the two asks for another poll only for a cause of its own.
  pub quiet_check_and_response : (old new : AsyncState C S F) (asked left : C) (service : S) (made polled : F) (before mid between after end : Context)
      → old ≡ Check asked service → new ≡ InFlight polled → between ≡ mid → end ≡ after
      → Quiet (check asked left) before mid → Quiet (response made polled) between after
      → Quiet (async_response_future_stirs check response old new) before end
  quiet_check_and_response old new asked left service made polled before mid between after end was is same last first second = rw (was, is, last)
      (λ woken. ⊎_elim
      (λ h. ⊎_elim inl (λ stirs. inr (inl (left, stirs))) (first (rw (← same) h)))
      (λ stirs. inr (inr (made, stirs))) (second woken))
