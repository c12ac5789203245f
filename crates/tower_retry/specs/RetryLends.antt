-- What `Retry` lends.
use Rattle.std.specs.Borrow.{Lends, MutBor, Fml}
use denote.RattleType.{RattleType}
use Rattle.tower_retry.specs.Retry.{RetryView}
use Rattle.tower_retry.specs.contracts.retry.Retry.{the_row}

-- When the loan ends, its last value is the inner service of the `Retry`.
abbrev pub LendsInner : (P S : RattleType) → MutBor (RetryView P.Denot S.Denot) → MutBor S.Denot → Fml
LendsInner P S retry loan = Lends (the_row P S) S retry loan (λ last. record retry.now { service = last })
