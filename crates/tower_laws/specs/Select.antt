-- What a `Select` keeps to, over one response.
use Rattle.std.specs.Prelude.{◌≡◌, ◌⊎◌, ℕ, suc, Option, Some, None, Result}
use Rattle.tower_base.specs.declared.service.Steps.{Ghosts as StepsOf}
use Rattle.tower_laws.specs.Responses.{Comes, wrapped}
use Rattle.tower_retry.specs.Select.{ResponseFutureView, Stepped}
use Rattle.tower_retry.specs.declared.hedge.select.error.Error.{Error}
use Rattle.tower_retry.specs.declared.hedge.select.error.Error.TheVariants.{First, Second}

module _ {T E G F H : Type 0} (a : StepsOf F (Result T E)) (b : StepsOf H (Result T G)) where
  -- The second call, if it was made, is pending in this number of polls.
  abbrev pub SecondPends : ℕ → Option H → Type 0
  SecondPends polls (Some second) = Comes b.stepped polls second None
  SecondPends polls None = Unit {0}

  -- The answer is that of the first call, and the second had none before. Or it is that of the second, and the first has none in that poll either.
  abbrev pub FirstElseSecond : ResponseFutureView F H → ℕ → Result T (Error E G) → Type 0
  FirstElseSecond future polls output =
      ((answer : Result T E) × Comes a.stepped polls future.a_fut (Some answer) × SecondPends polls future.b_fut × (Some output ≡ wrapped First (Some answer)))
      ⊎ ((second : H) × (future.b_fut ≡ Some second) × (answer : Result T G) × Comes b.stepped polls second (Some answer)
      × Comes a.stepped (suc polls) future.a_fut None × (Some output ≡ wrapped Second (Some answer)))

  abbrev pub GivesFirstElseSecond : Type 0
  GivesFirstElseSecond = (future : ResponseFutureView F H) (polls : ℕ) (output : Result T (Error E G))
      → Comes (Stepped a b) polls future (Some output) → FirstElseSecond future polls output
