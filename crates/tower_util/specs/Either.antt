-- The machine of an `Either`'s response: a poll polls the side that is present.
use Rattle.std.specs.Prelude.{◌≡◌}
use Rattle.futures.specs.declared.task.Poll.{Poll}
use Rattle.tower_util.specs.declared.util.either.Either.{Either}
use Rattle.tower_util.specs.declared.util.either.Either.TheVariants.{Left, Right}
use Rattle.tower_util.specs.declared.util.either.EitherResponseFuture.{EitherResponseFuture}
use Rattle.tower_util.specs.declared.util.either.EitherResponseFuture.TheVariants.{First, Second}

module _ {A B O : Type 0} (first : A → Poll O → A → Type 0) (second : B → Poll O → B → Type 0) where
  abbrev pub Stepped : EitherResponseFuture A B → Poll O → EitherResponseFuture A B → Type 0
  Stepped (First old) answer new = (left : A) × first old answer left × (new ≡ First left)
  Stepped (Second old) answer new = (left : B) × second old answer left × (new ≡ Second left)

-- Why a poll may ask for another: the causes of the side that is present.
module _ {A B : Type 0} (left : A → A → Type 0) (right : B → B → Type 0) where
  abbrev pub Stirs : Either A B → Either A B → Type 0
  Stirs (Left old) (Left new) = left old new
  Stirs (Left old) (Right new) = ⊥
  Stirs (Right old) (Left new) = ⊥
  Stirs (Right old) (Right new) = right old new

  abbrev pub ResponseStirs : EitherResponseFuture A B → EitherResponseFuture A B → Type 0
  ResponseStirs (First old) (First new) = left old new
  ResponseStirs (First old) (Second new) = ⊥
  ResponseStirs (Second old) (First new) = ⊥
  ResponseStirs (Second old) (Second new) = right old new
