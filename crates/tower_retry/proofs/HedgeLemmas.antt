-- What holds of a result.
use Rattle.std.specs.Prelude.{Result, Ok, Err, IfOk}

pub if_ok : {T E : Type 0} (r : Result T E) (P Q : T → Type 0) → IfOk r P → ((t : T) → P t → Q t) → IfOk r Q
if_ok (Ok t) P Q h more = more t h
if_ok (Err e) P Q h more = tt
