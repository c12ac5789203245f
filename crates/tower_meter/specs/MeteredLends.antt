-- What `Metered` lends.
use Rattle.std.specs.Borrow.{Lends, MutBor, Fml}
use denote.RattleType.{RattleType}
use Rattle.tower_meter.specs.Metered.{MeteredView}
use Rattle.tower_meter.specs.contracts.metered.Metered.{the_row}

-- When the loan r ends, its last value is the inner service of t.
abbrev pub LendsInner : (S L C K : RattleType) → MutBor (MeteredView S.Denot L.Denot C.Denot K.Denot) → MutBor S.Denot → Fml
LendsInner S L C K t r = Lends (the_row S L C K) S t r (λ w. record t.now { inner = w })
