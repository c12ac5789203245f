-- The response of a `Select` is the first call's, else the second's.
use Rattle.std.proofs.Common.{◌≡◌, inl, inr, ℕ, zero, suc, Option, Some, None, Result, Ok, Err, refl, subst}
use Rattle.futures.specs.declared.task.Poll.{Poll}
use Rattle.futures.specs.declared.task.Poll.TheVariants.{Ready, Pending}
use Rattle.tower_base.specs.declared.service.Steps.{Ghosts as StepsOf}
use Rattle.tower_laws.proofs.Responses.{answered_pending, answered_ready}
use Rattle.tower_laws.specs.Responses.{Comes}
use Rattle.tower_laws.specs.Select.{FirstElseSecond, GivesFirstElseSecond, SecondPends}
use Rattle.tower_retry.specs.Select.{AfterFirst, SecondStepped}
use Rattle.tower_retry.specs.declared.hedge.select.error.Error.{Error}
use Rattle.tower_retry.specs.declared.hedge.select.error.Error.TheVariants.{Second}

module _ {T E G F H : Type 0} (a : StepsOf F (Result T E)) (b : StepsOf H (Result T G)) where
  abbrev Side : F → Option H → ℕ → Result T (Error E G) → Type 0
  Side first second = FirstElseSecond a b (record { a_fut = first; b_fut = second })

  no_polls : (second : Option H) → SecondPends a b 0 second
  no_polls (Some second) = tt
  no_polls None = tt

  -- the second call once the first is pending in the poll with the answer
  second_answers : (first left : F) (second after : Option H) (output : Result T (Error E G)) → a.stepped first Pending left
      → SecondStepped a b second (Ready output) after → Side first second 0 output
  second_answers first left (Some second) (Some after) output step (inner, polled, answers) =
      let found = answered_ready Second inner output answers in
      let moved : b.stepped second (Ready found.0) after = subst (λ (p : Poll (Result T G)). b.stepped second p after) found.1 polled in
      inr (second, refl, found.0, (after, moved), (left, step, tt), found.2)
  second_answers first left (Some second) None output step none = absurd none
  second_answers first left None (Some after) output step none = absurd none
  second_answers first left None None output step is = absurd (cc (is))

  at_once : (first left : F) (polled : Poll (Result T E)) (second after : Option H) (output : Result T (Error E G)) → a.stepped first polled left
      → AfterFirst a b polled second (Ready output) after → Side first second 0 output
  at_once first left Pending second after output step rest = second_answers first left second after output step rest
  at_once first left (Ready (Ok x)) second after output step (is, same) = inl (Ok x, (left, step), no_polls second, cc (is))
  at_once first left (Ready (Err e)) second after output step (is, same) = inl (Err e, (left, step), no_polls second, cc (is))

  -- a pending poll before, in which both were pending
  second_later : (first left : F) (second after : Option H) (polls : ℕ) (output : Result T (Error E G)) → a.stepped first Pending left
      → SecondStepped a b second Pending after → Side left after polls output → Side first second (suc polls) output
  second_later first left (Some second) (Some after) polls output step (inner, polled, answers) (inl (answer, comes, pends, is)) =
      let moved : b.stepped second Pending after = subst (λ (p : Poll (Result T G)). b.stepped second p after) (answered_pending Second inner answers) polled in
      inl (answer, (left, step, comes), (after, moved, pends), is)
  second_later first left (Some second) (Some after) polls output step (inner, polled, answers) (inr (other, same, answer, comes, pends, is)) =
      let moved : b.stepped second Pending after = subst (λ (p : Poll (Result T G)). b.stepped second p after) (answered_pending Second inner answers) polled in
      let here : other ≡ after = cc (same) in
      inr (second, refl, answer, (after, moved, subst (λ (v : H). Comes b.stepped polls v (Some answer)) here comes), (left, step, pends), is)
  second_later first left (Some second) None polls output step none side = absurd none
  second_later first left None (Some after) polls output step none side = absurd none
  second_later first left None None polls output step is (inl (answer, comes, pends, made)) = inl (answer, (left, step, comes), tt, made)
  second_later first left None None polls output step is (inr (other, same, answer, comes, pends, made)) = absurd (cc (same))

  first_pends : (polled : Poll (Result T E)) (second after : Option H) → AfterFirst a b polled second Pending after → polled ≡ Pending
  first_pends Pending second after rest = refl
  first_pends (Ready (Ok x)) second after (is, same) = absurd (cc (is))
  first_pends (Ready (Err e)) second after (is, same) = absurd (cc (is))

  pub first_else_second : GivesFirstElseSecond a b
  first_else_second future zero output (last, step) = at_once future.a_fut last.a_fut step.first future.b_fut last.b_fut output step.stepped step.after
  first_else_second future (suc polls) output (next, step, rest) =
      let pending = first_pends step.first future.b_fut next.b_fut step.after in
      second_later future.a_fut next.a_fut future.b_fut next.b_fut polls output (subst (λ (p : Poll (Result T E)). a.stepped future.a_fut p next.a_fut) pending step.stepped)
      (subst (λ (p : Poll (Result T E)). AfterFirst a b p future.b_fut Pending next.b_fut) pending step.after) (first_else_second next polls output rest)
