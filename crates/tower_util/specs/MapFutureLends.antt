-- What `MapFuture` ends as, after its inner service was borrowed mutably.
use Rattle.std.specs.Borrow.{Lends, MutBor, Fml}
use denote.RattleType.{RattleType}
use Rattle.tower_util.specs.Maps.{MapView}
use Rattle.tower_util.specs.contracts.util.map_future.MapFuture.{the_row}

-- When the loan `r` ends, its last value is the inner service of `t`.
abbrev pub LendsInner : (S F : RattleType) → MutBor (MapView S.Denot F.Denot) → MutBor S.Denot → Fml
LendsInner S F t r = Lends (the_row S F) S t r (λ w. record t.now { inner = w })
