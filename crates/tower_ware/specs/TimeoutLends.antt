-- What `Timeout` lends.
use Rattle.std.specs.Borrow.{Lends, MutBor, Fml}
use denote.RattleType.{RattleType}
use Rattle.tower_ware.specs.Timeout.{TimeoutView}
use Rattle.tower_ware.specs.contracts.timeout.Timeout.{the_row}

-- When the loan r ends, its last value is the inner service of t.
abbrev pub LendsInner : (S C : RattleType) → MutBor (TimeoutView S.Denot C.Denot) → MutBor S.Denot → Fml
LendsInner S C t r = Lends (the_row S C) S t r (λ w. record t.now { inner = w })
