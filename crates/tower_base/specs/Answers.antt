-- How an answer is made from an inner one.
use Rattle.std.specs.Prelude.{◌≡◌, Result, Ok, Err}
use Rattle.futures.specs.declared.task.Poll.{Poll}
use Rattle.futures.specs.declared.task.Poll.TheVariants.{Ready, Pending}

-- `Pending` stays, and an output is made from the inner output by the relation.
abbrev pub Lifts : {A B : Type 0} → (A → B → Type 0) → Poll A → Poll B → Type 0
Lifts R Pending Pending = Unit {0}
Lifts R (Ready a) (Ready b) = R a b
Lifts R Pending (Ready b) = ⊥
Lifts R (Ready a) Pending = ⊥

-- An `Ok` is made from the inner `Ok` by the first relation, and an `Err` from the inner `Err` by the second.
abbrev pub Sides : {A B C D : Type 0} → (A → C → Type 0) → (B → D → Type 0) → Result A B → Result C D → Type 0
Sides F G (Ok a) (Ok c) = F a c
Sides F G (Err b) (Err d) = G b d
Sides F G (Ok a) (Err d) = ⊥
Sides F G (Err b) (Ok c) = ⊥

-- the same value, unchanged
abbrev pub Same : {A : Type 0} → A → A → Type 0
Same x y = y ≡ x

-- What a poll of readiness returns. Its error is made from the inner one by the relation.
abbrev pub Readies : {B D : Type 0} → (B → D → Type 0) → Poll (Result (Unit {0}) B) → Poll (Result (Unit {0}) D) → Type 0
Readies G = Lifts (Sides (λ _ _. Unit {0}) G)

-- `Ok` stays, and an inner error is wrapped in the outer one.
abbrev pub answered : {A E U : Type 0} → (E → U) → Poll (Result A E) → Poll (Result A U)
answered outer (Ready (Ok x)) = Ready (Ok x)
answered outer (Ready (Err e)) = Ready (Err (outer e))
answered outer Pending = Pending
