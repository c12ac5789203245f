-- What an outer answer implies for the inner one.
use Rattle.std.specs.Prelude.{◌≡◌, Result, Ok, Err}
use Rattle.futures.specs.declared.task.Poll.{Poll}
use Rattle.futures.specs.declared.task.Poll.TheVariants.{Ready, Pending}
use Rattle.tower_base.specs.Answers.{Readies, answered}

-- If the outer answer is `Ok`, so is the inner one.
pub ready_inside : {B D : Type 0} (G : B → D → Type 0) (P : Poll (Result (Unit {0}) B) → Type 0) (r : Poll (Result (Unit {0}) B))
    → P r → Readies G r (Ready (Ok tt)) → P (Ready (Ok tt))
ready_inside G P (Ready (Ok tt)) p h = p
ready_inside G P (Ready (Err e)) p h = absurd h
ready_inside G P Pending p h = absurd h

-- An outer `Ok` is made from an inner `Ok`.
pub answered_ok : {A E U : Type 0} (outer : E → U) (inner : Poll (Result A E)) (x : A) → Ready (Ok x) ≡ answered outer inner → inner ≡ Ready (Ok x)
answered_ok outer (Ready (Ok y)) x e = cc
answered_ok outer (Ready (Err y)) x e = cc
answered_ok outer Pending x e = cc
