-- The machine of `Seats`.
use Rattle.std.specs.Prelude.{◌≡◌, ◌+◌, ℕ, Option, None, Some}

-- so many seats are left, and the last of them is sold; or none is, and none is sold
abbrev pub Sold : ℕ → Option ℕ → ℕ → Type 0
Sold old (Some seat) new = (old ≡ seat + 1) × (new ≡ seat)
Sold old None new = (old ≡ 0) × (new ≡ 0)
