-- The kinds of a stack's answers.
use Rattle.std.specs.Prelude.{ℕ, Result, Ok, Err}
use Rattle.tower_refusal.specs.declared.Cause.{Cause}
use Rattle.tower_refusal.specs.declared.Cause.TheVariants.{Refused, Service}
use Rattle.tower_refusal.specs.declared.Refusal.{Refusal}
use Rattle.tower_refusal.specs.declared.Refusal.TheVariants.{Elapsed, Overloaded, Closed, Rejected, Make, Discover, NoService, Gone, NotSpawned, Memory}

-- the kind of a refusal
abbrev pub refusal_kind : Refusal → ℕ
refusal_kind Elapsed = 2
refusal_kind Overloaded = 3
refusal_kind Closed = 4
refusal_kind Rejected = 5
refusal_kind Make = 6
refusal_kind Discover = 7
refusal_kind NoService = 8
refusal_kind Gone = 9
refusal_kind NotSpawned = 10
refusal_kind Memory = 11

-- the kind of an error, from where it comes
abbrev pub cause_kind : {E : Type 0} → Cause E → ℕ
cause_kind (Refused refusal) = refusal_kind refusal
cause_kind (Service error) = 1

-- the kind of an answer
abbrev pub kind_of : {A E S : Type 0} → (E → Cause S) → Result A E → ℕ
kind_of cause (Ok x) = 0
kind_of cause (Err error) = cause_kind (cause error)
