-- What `Traced` lends.
use Rattle.std.specs.Borrow.{Lends, MutBor, Fml}
use denote.RattleType.{RattleType}
use Rattle.tower_meter.specs.Traced.{TracedView}
use Rattle.tower_meter.specs.contracts.traced.Traced.{the_row}

-- When the loan r ends, its last value is the inner service of t.
abbrev pub LendsInner : (S C N : RattleType) → MutBor (TracedView S.Denot C.Denot N.Denot) → MutBor S.Denot → Fml
LendsInner S C N t r = Lends (the_row S C N) S t r (λ w. record t.now { inner = w })
