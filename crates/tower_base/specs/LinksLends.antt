-- What a `Links` ends as, if a `&` to one of its values is returned.
use Rattle.std.specs.Prelude.{◌≡◌, ◌+◌, ◌≤◌}
use Rattle.std.specs.Borrow.{Fml, RattleType, MutBor}
use Rattle.std.specs.Io.BufRead.{Rests}
use Rattle.tower_base.specs.Links.{LinksView}
use Rattle.tower_base.specs.contracts.links.Links.{the_row}

-- the same order and entries, and at most one touch more
abbrev pub ends_looked : (T : RattleType) → MutBor (LinksView T.Denot) → Fml
ends_looked T s =
    Rests (the_row T) s (λ l. (l.order ≡ s.now.order) × (l.entries ≡ s.now.entries) × (l.touches ≤ s.now.touches + 1))
