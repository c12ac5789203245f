-- What a `Select`'s readiness says of both services if it is `Ok`.
use Rattle.std.specs.Prelude.{◌≡◌, Result, Ok, Err}
use Rattle.std.proofs.Common.{refl}
use Rattle.futures.specs.declared.task.Poll.{Poll}
use Rattle.futures.specs.declared.task.Poll.TheVariants.{Ready, Pending}
use Rattle.tower_retry.specs.Select.{both}

-- Both returned `Ok`.
pub both_ready : {E G : Type 0} (first : Poll (Result (Unit {0}) E)) (second : Poll (Result (Unit {0}) G)) → Ready (Ok tt) ≡ both first second
    → (first ≡ Ready (Ok tt)) × (second ≡ Ready (Ok tt))
both_ready (Ready (Ok x)) (Ready (Ok y)) e = (refl, refl)
both_ready (Ready (Ok x)) (Ready (Err y)) e = cc
both_ready (Ready (Ok x)) Pending e = cc
both_ready (Ready (Err x)) second e = cc
both_ready Pending (Ready (Ok y)) e = cc
both_ready Pending (Ready (Err y)) e = cc
both_ready Pending Pending e = cc
