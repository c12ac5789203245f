-- What an error says: that a middleware refused, and how, or what the service's own error is.
use Rattle.std.specs.Prelude.{Option, Some, None}
use Rattle.std.specs.Borrow.{Bor}
use Rattle.tower_refusal.specs.declared.Cause.{Cause}
use Rattle.tower_refusal.specs.declared.Cause.TheVariants.{Refused, Service}
use Rattle.tower_refusal.specs.declared.Refusal.{Refusal}

-- An error that ends the chain is the service's own.
abbrev pub own : {E : Type 0} → E → Cause E
own error = Service error

-- the same cause, with the error itself in place of a reference to it
abbrev pub cause_copied : {E : Type 0} → Cause (Bor E) → Cause E
cause_copied (Refused refusal) = Refused refusal
cause_copied (Service error) = Service error.now

-- the refusal, if it is one
abbrev pub refusal_of : {E : Type 0} → Cause E → Option Refusal
refusal_of (Refused refusal) = Some refusal
refusal_of (Service error) = None

-- the service's own error, if it is one
abbrev pub error_of : {E : Type 0} → Cause E → Option E
error_of (Refused refusal) = None
error_of (Service error) = Some error
