-- What a `Cells` ends as, if a `&` to one of its values is returned.
use Rattle.std.specs.Prelude.{◌≡◌, ◌+◌}
use Rattle.std.specs.Borrow.{Fml, RattleType, MutBor}
use Rattle.std.specs.Io.BufRead.{Rests}
use Rattle.tower_base.specs.declared.links.cells.Cells.{Cells}
use Rattle.tower_base.specs.contracts.links.cells.Cells.{the_row}

-- one touch more, and the same entries
abbrev pub ends_touched : (T : RattleType) → MutBor (Cells T.Denot) → Fml
ends_touched T s =
    Rests (the_row T) s (λ c. (c.slab ≡ s.now.slab) × (c.touches.count ≡ s.now.touches.count + 1))
