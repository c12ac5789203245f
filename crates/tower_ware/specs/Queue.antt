-- A queue of calls.
use Rattle.std.specs.Prelude.{◌≡◌, ◌⊎◌, ℕ, ◌<◌, List, [], ◌∷◌, ◌++◌, length}

-- the calls whose answers weren't yielded yet, in call order, in a list that has room for `room` calls
pub record Queue (X : Type 0) : Type 0 where
  pub calls : List X
  pub room : ℕ

module _ {X : Type 0} where
  abbrev pub Empty : Queue X → Type 0
  Empty queue = queue.calls ≡ []

  abbrev pub HasRoom : Queue X → Type 0
  HasRoom queue = length queue.calls < queue.room

  -- This holds for one of the calls.
  abbrev pub SomeCall : (X → Type 0) → List X → Type 0
  SomeCall P [] = ⊥
  SomeCall P (call ∷ calls) = P call ⊎ SomeCall P calls

  -- Whether allocating room for one more call succeeded or failed, the calls are unchanged.
  abbrev pub Grown : Queue X → Queue X → Type 0
  Grown old new = new.calls ≡ old.calls

  -- A call was added as the last.
  abbrev pub Pushed : {F : Type 0} → (F → X) → Queue X → F → Queue X → Type 0
  Pushed enter old future new = (new.calls ≡ old.calls ++ enter future ∷ []) × (new.room ≡ old.room)
