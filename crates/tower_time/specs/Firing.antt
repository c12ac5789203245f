-- One step of the thread of the timers.
use Rattle.std.specs.Prelude.{◌≡◌, ◌⊎◌, ◌-◌, ◌^◌, ℕ, ◌≤◌, Option, Some, None, IsSomeAnd, unwrap_or}
use Rattle.futures.specs.LinkedLists.Wheel.{Wheel, deadline_of, EachDeadline, SomeDeadline, Sets, IsSlotStart}
use Rattle.futures.specs.declared.task.waker.Waker.{Waker}
use Rattle.tower_time.specs.declared.timers.state.Look.{Look}
use Rattle.tower_time.specs.declared.timers.state.Look.TheVariants.{Fired, Next, Ended}

-- One timer that is due at the new time is disarmed, and every other keeps its deadline. The fact holds of its key.
abbrev pub FiresOne : Wheel → Wheel → (ℕ → Type 0) → Type 0
FiresOne old new P = (key : ℕ) × IsSomeAnd (deadline_of old key) (λ when. when ≤ new.elapsed) × Sets old new key None × P key

-- The tick is the last one, or there is work then: a timer is due, or its slot of the wheel begins.
abbrev pub HasWork : Wheel → ℕ → Type 0
HasWork w at = (at ≡ 2 ^ 64 - 1) ⊎ SomeDeadline w (λ when. (when ≤ at) ⊎ IsSlotStart w.elapsed at when)

-- A look at the timers finds one that is due by this tick, and its waker; or that none is due, with a tick that isn't after any deadline.
abbrev pub Looks : Wheel → (ℕ → Option (Option Waker)) → ℕ → Look → Type 0
Looks w wakers now (Fired waker) = (key : ℕ) × IsSomeAnd (deadline_of w key) (λ _. Unit {0}) × (waker ≡ unwrap_or (wakers key) None)
Looks w wakers now (Next at) = EachDeadline w (λ when. at ≤ when)
Looks w wakers now (Ended ended) = Unit {0}
