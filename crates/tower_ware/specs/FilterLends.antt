-- What the filters lend.
use Rattle.std.specs.Borrow.{Lends, MutBor, Fml}
use denote.RattleType.{RattleType}
use Rattle.tower_ware.specs.Filter.{FilterView}
use Rattle.tower_ware.specs.contracts.filter.Filter.{the_row as filter_row}
use Rattle.tower_ware.specs.contracts.filter.AsyncFilter.{the_row as async_row}

-- When the loan r ends, its last value is the inner service of t.
abbrev pub LendsInner : (S U : RattleType) → MutBor (FilterView S.Denot U.Denot) → MutBor S.Denot → Fml
LendsInner S U t r = Lends (filter_row S U) S t r (λ w. record t.now { inner = w })

abbrev pub AsyncLendsInner : (S U : RattleType) → MutBor (FilterView S.Denot U.Denot) → MutBor S.Denot → Fml
AsyncLendsInner S U t r = Lends (async_row S U) S t r (λ w. record t.now { inner = w })
