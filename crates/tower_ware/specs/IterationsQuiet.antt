-- Why a poll that consists of iterations may ask for another poll.
use Rattle.std.specs.Prelude.{ℕ, ◌⊎◌, Option}
use Rattle.tower_base.specs.Iterations.{Iterates, limit}

module _ {V A : Type 0} (iteration : V → Option A → V → Type 0) (stirs : V → Type 0) where
  -- After some iterations that gave no answer, the next one may ask for another poll.
  unfoldable pub SomeStirs : V → Type 0
  SomeStirs old = (n : ℕ) × (mid : V) × Iterates iteration n old mid × stirs mid

  -- This, or as many iterations as the limit gave no answer.
  abbrev pub StirsOrTires : V → V → Type 0
  StirsOrTires old new = SomeStirs old ⊎ Iterates iteration limit old new
