-- The grants that a script allows.
use Rattle.std.specs.Prelude.{◌≡◌, Bool, true, false, zero, suc}
use Rattle.tower_run.specs.declared.scripted.Grants.{Grants}
use Rattle.tower_run.specs.declared.scripted.Grants.TheVariants.{Unlimited, Left}

-- Whether a grant is taken, and what is left.
abbrev pub Takes : Grants → Bool → Grants → Type 0
Takes Unlimited took left = (took ≡ true) × (left ≡ Unlimited)
Takes (Left zero) took left = (took ≡ false) × (left ≡ Left 0)
Takes (Left (suc grants)) took left = (took ≡ true) × (left ≡ Left grants)
