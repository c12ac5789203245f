-- Runs of cores.
use Rattle.std.specs.Prelude.{◌≡◌, List, [], ◌∷◌}

module _ {C S R : Type 0} where
  -- From the old value the steps, one after another, have these replies and lead to the new one.
  abbrev pub Serves : (C → S → R → C → Type 0) → C → List (S × R) → C → Type 0
  Serves steps old [] new = new ≡ old
  Serves steps old (first ∷ rest) new = (mid : C) × steps old first.0 first.1 mid × Serves steps mid rest new

  -- A run from some opening value leads to this one.
  abbrev pub Reached : (C → Type 0) → (C → S → R → C → Type 0) → C → Type 0
  Reached opens steps core = (first : C) × (served : List (S × R)) × opens first × Serves steps first served core

  -- In some run from an opening value, of a core with these terms, the step has this reply.
  abbrev pub Came : {T : Type 0} → (C → Type 0) → (C → S → R → C → Type 0) → (C → T) → T → S → R → Type 0
  Came opens steps terms its step reply = (old : C) × (new : C) × ∥ Reached opens steps old ∥₁ × steps old step reply new × (terms old ≡ its)

-- A core that stands for plain values by the relation `stands`, and the machine of the plain values.
module _ {C M S R : Type 0} (stands : C → M → Type 0) (machine : M → S → R → M → Type 0) where
  -- From each plain value that the old core stands for, the machine's step leads to one that the new core stands for.
  abbrev pub FollowsMachine : C → S → R → C → Type 0
  FollowsMachine old step reply new = (plain : M) → stands old plain → (next : M) × machine plain step reply next × stands new next

  -- The old core stands for some plain value, and follows the machine from each that it stands for.
  abbrev pub StepsAs : C → S → R → C → Type 0
  StepsAs old step reply new = ((plain : M) × stands old plain) × FollowsMachine old step reply new

  -- Whatever a core serves is a run of the machine.
  abbrev pub IsRun : Type 0
  IsRun = (old new : C) (served : List (S × R)) (plain : M) → Serves StepsAs old served new → stands old plain
      → (next : M) × Serves machine plain served next × stands new next
