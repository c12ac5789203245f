-- What `RateLimit` lends.
use Rattle.std.specs.Borrow.{Lends, MutBor, Fml}
use denote.RattleType.{RattleType}
use Rattle.tower_limit.specs.Rate.{RateLimitView}
use Rattle.tower_limit.specs.contracts.limit.rate.service.RateLimit.{the_row}

-- When the loan `r` ends, its last value is the inner service of `t`, a `RateLimit`.
abbrev pub LendsInner : (S C : RattleType) → MutBor (RateLimitView S.Denot C.Denot) → MutBor S.Denot → Fml
LendsInner S C t r = Lends (the_row S C) S t r (λ w. record t.now { inner = w })
