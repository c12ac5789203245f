-- A poll that consists of iterations. It ends when an iteration gives an answer, or after 64 iterations.
use Rattle.std.specs.Prelude.{◌≡◌, ℕ, zero, suc, ◌<◌, ◌⊎◌, Option, Some, None}

-- the largest number of iterations in a poll: `TURNS` in the code
abbrev pub limit : ℕ
limit = 64

module _ {V A : Type 0} (iteration : V → Option A → V → Type 0) where
  -- The given number of iterations in a row gave no answer.
  unfoldable pub Iterates : ℕ → V → V → Type 0
  Iterates zero old new = new ≡ old
  Iterates (suc n) old new = (mid : V) × Iterates n old mid × iteration mid None new

  -- Some iterations gave no answer, and the next one gives one. Or as many as the limit gave none, and the answer is `tired`.
  pub record Iterations (tired : A) (old : V) (answer : A) (new : V) : Type 0 where
    pub count : ℕ
    pub last : V
    pub went : Iterates count old last
    pub ends : ((count < limit) × iteration last (Some answer) new) ⊎ ((count ≡ limit) × (answer ≡ tired) × (new ≡ last))
