-- What comes of an outer response, from the steps of the inner one.
use Rattle.std.proofs.Common.{◌≡◌, inl, inr, ℕ, zero, suc, Option, Some, None, Result, Ok, Err, refl, subst}
use Rattle.futures.specs.Poll.{OnPending}
use Rattle.futures.specs.declared.task.Poll.{Poll}
use Rattle.futures.specs.declared.task.Poll.TheVariants.{Ready, Pending}
use Rattle.tower_base.specs.Answers.{answered}
use Rattle.tower_laws.specs.Responses.{AtOnce, Comes, wrapped}

-- If the outer poll is pending, so is the inner one.
pub answered_pending : {A E U : Type 0} (outer : E → U) (inner : Poll (Result A E)) → Pending ≡ answered outer inner → inner ≡ Pending
answered_pending outer (Ready (Ok x)) e = cc
answered_pending outer (Ready (Err x)) e = cc
answered_pending outer Pending e = refl

-- An outer output is made from an inner one.
pub answered_ready : {A E U : Type 0} (outer : E → U) (inner : Poll (Result A E)) (output : Result A U) → Ready output ≡ answered outer inner
    → (answer : Result A E) × (inner ≡ Ready answer) × (Some output ≡ wrapped outer (Some answer))
answered_ready outer (Ready (Ok x)) output e = (Ok x, refl, cc (e))
answered_ready outer (Ready (Err x)) output e = (Err x, refl, cc (e))
answered_ready outer Pending output e = absurd (cc e)

-- each poll of the outer response that stands for an inner one is a poll of that
abbrev pub Forwards : {F G A E U : Type 0} → (F → Poll (Result A E) → F → Type 0) → (G → Poll (Result A U) → G → Type 0) → (E → U) → (F → G) → Type 0
Forwards {F} {G} {A} {E} {U} inside outside outer stands = (response : F) (answer : Poll (Result A U)) (new : G) → outside (stands response) answer new
    → (inner : Poll (Result A E)) × (left : F) × inside response inner left × (answer ≡ answered outer inner) × OnPending answer (new ≡ stands left)

module _ {F G A E U : Type 0} (inside : F → Poll (Result A E) → F → Type 0) (outside : G → Poll (Result A U) → G → Type 0) (outer : E → U) (stands : F → G) where
  -- So what comes of it is what comes of the inner one.
  pub carries : Forwards inside outside outer stands → (polls : ℕ) (response : F) (output : Option (Result A U)) → Comes outside polls (stands response) output
      → (answer : Option (Result A E)) × Comes inside polls response answer × (output ≡ wrapped outer answer)
  carries each zero response (Some output) (last, step) =
      let here = each response (Ready output) last step in
      let found = answered_ready outer here.0 output here.3 in
      (Some found.0, (here.1, subst (λ (p : Poll (Result A E)). inside response p here.1) found.1 here.2), found.2)
  carries each zero response None here = (None, tt, refl)
  carries each (suc polls) response output (next, step, rest) =
      let here = each response Pending next step in
      let pending = answered_pending outer here.0 here.3 in
      let more = carries each polls here.1 output (subst (λ (v : G). Comes outside polls v output) here.4 rest) in
      (more.0, (here.1, subst (λ (p : Poll (Result A E)). inside response p here.1) pending here.2, more.1), more.2)

module _ {G X : Type 0} (outside : G → Poll X → G → Type 0) (first : G) (only : X) where
  -- If the first poll can return nothing else, it returns this.
  pub at_once : ((answer : Poll X) (new : G) → outside first answer new → answer ≡ Ready only) → (polls : ℕ) (output : Option X) → Comes outside polls first output
      → AtOnce only polls output
  at_once each zero (Some output) (last, step) = (refl, inr (let is = each (Ready output) last step in cc))
  at_once each zero None here = (refl, inl refl)
  at_once each (suc polls) output (next, step, rest) = absurd (let is = each Pending next step in cc)
