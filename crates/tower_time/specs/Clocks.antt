-- Clocks whose tasks wait at a source.
use Rattle.std.specs.Prelude.{◌≡◌, ◌⊎◌, ◌+◌, ◌-◌, ◌*◌, ◌^◌, ◌<◌, ◌≤◌, ℕ, min, max, true, Option, Some, None, IsSomeAnd}
use Rattle.futures.specs.Task.{IsLent}
use Rattle.futures.specs.Task.EventLoop.Settled.{WaitsUntil}
use Rattle.futures.specs.declared.task.context.Context.{Context}
use Rattle.tower_base.specs.SystemClock.{SystemClockView}

-- what contracts see of a `LoopClock`: the machine's clock, and the source at which its task waits, if it has one
pub record ClockView (R : Type 0) : Type 0 where
  pub clock : SystemClockView R
  pub source : Option ℕ

-- what contracts see of a `TimerClock`: the machine's clock, the source at which its task waits, and the tick for which the last wait armed a timer
pub record TimerView (R : Type 0) : Type 0 where
  pub clock : SystemClockView R
  pub source : Option ℕ
  pub armed : Option ℕ

-- the source of this clock
abbrev pub Hears : {R : Type 0} → ClockView R → ℕ → Type 0
Hears c s = IsSomeAnd c.source (λ source. s ≡ source)

-- the source of these timers
abbrev pub TimerHears : {R : Type 0} → TimerView R → ℕ → Type 0
TimerHears c s = IsSomeAnd c.source (λ source. s ≡ source)

-- The first tick that isn't before the moment, in nanoseconds; or the last tick, if that is before it.
abbrev pub IsTickOf : ℕ → ℕ → Type 0
IsTickOf tick moment = ((moment ≤ tick * 1000) ⊎ (tick ≡ 2 ^ 64 - 1)) × (tick * 1000 < moment + 1000)

-- The task asked to be polled again, or is nested in a task of a loop, or its source fires at the first tick that isn't before the moment.
abbrev pub WakesBy : {R : Type 0} → ClockView R → ℕ → Context → Type 0
WakesBy c moment cx = (cx.is_woken ≡ true) ⊎ (IsLent cx ⊎ IsSomeAnd c.source
    (λ source. (tick : ℕ) × IsTickOf tick moment × WaitsUntil cx source tick))

-- The task asked to be polled again, or there is a timer with its waker at the first tick that isn't before the moment.
abbrev pub TimerWakesBy : {R : Type 0} → TimerView R → ℕ → Context → Type 0
TimerWakesBy c moment cx = (cx.is_woken ≡ true) ⊎ IsSomeAnd c.armed (λ tick. IsTickOf tick moment)

-- How long a loop's thread sleeps, in nanoseconds: from the moment to the tick, but for a millisecond at most.
abbrev pub nap : Option ℕ → ℕ → ℕ
nap None moment = 1000000
nap (Some tick) moment = min (tick * 1000 - moment) 1000000

-- How long the thread of timers sleeps: to the tick, but for half a millisecond at least, and for an hour at most.
abbrev pub thread_nap : ℕ → ℕ → ℕ
thread_nap tick moment = max (min (tick * 1000 - moment) 3600000000000) 500000
