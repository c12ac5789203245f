-- What a seat's badge shows.
use Rattle.std.specs.Prelude.{ℕ, List, [], ◌∷◌, Bool, true, false}
use Rattle.tower_latch.specs.declared.guarded.table.View.{View}

abbrev pub is_without : Bool → Bool
is_without true = false
is_without false = true

-- a seat that doesn't have the core
abbrev pub is_away : List View → Bool
is_away (v ∷ []) = is_without v.has
is_away _ = false

-- the number of places that it has
abbrev pub out_by : List View → ℕ
out_by (v ∷ []) = v.out
out_by _ = 0
