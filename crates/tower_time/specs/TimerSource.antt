-- What a `TimerClock` shows.
use Rattle.std.specs.Prelude.{ℕ}
use Rattle.std.specs.Arc.{arc_value}
use Rattle.std.specs.Global.{Global}
use Rattle.std.specs.declared.sync.Arc.{Arc}
use Rattle.tower_time.specs.declared.timers.Shared.{Shared}
use Rattle.tower_time.specs.declared.timers.state.Armed.{Armed}

-- the source at which all tasks of these timers wait
abbrev pub shared_source : Arc Shared Global → ℕ
shared_source shared = (arc_value shared).source.id

-- the tick of a timer that is armed
abbrev pub armed_tick : Armed → ℕ
armed_tick armed = armed.tick
