-- What a poll that consists of iterations leaves after the last iteration that it may make.
use Rattle.std.specs.Prelude.{◌≡◌, ℕ, ◌<◌, ◌⊎◌, Bool, true, Option, Some}
use Rattle.tower_base.specs.Iterations.{Iterates, limit}

module _ {V A : Type 0} (iteration : V → Option A → V → Type 0) where
  -- Fewer iterations than the limit gave no answer, and the next one gives this answer.
  pub record Answered (old : V) (answer : A) (new : V) : Type 0 where
    pub count : ℕ
    pub last : V
    pub went : Iterates iteration count old last
    pub below : count < limit
    pub ends : iteration last (Some answer) new

  -- An iteration gives this answer. Otherwise the last iteration that the poll may make gave none, and the poll has woken its own task.
  abbrev pub AnsweredOrWoken : V → A → V → Bool → Type 0
  AnsweredOrWoken old answer new is_woken = Answered old answer new ⊎ (is_woken ≡ true)
