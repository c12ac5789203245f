-- What a poll of a balancer's future says, by what the maker's answered.
use Rattle.std.proofs.Common.{◌≡◌, Option, Some, None, Result, sym, ap, ◌∙◌, subst, unwrap_or}
use Rattle.futures.specs.declared.task.Poll.{Poll}
use Rattle.tower_base.specs.declared.service.Steps.{Ghosts as StepsOf}
use Rattle.tower_pool.specs.Balance.{initial, view_of}
use Rattle.tower_pool.specs.MakeBalance.{AfterStep, CanPoll, Stepped}
use Rattle.tower_pool.specs.declared.balance.p2c.service.Balance.{Balance}
use Rattle.tower_pool.specs.declared.balance.p2c.make.State.{State}
use Rattle.tower_pool.specs.declared.balance.p2c.make.State.TheVariants.{Asked}
use Rattle.tower_pool.specs.declared.balance.error.MakeError.{MakeError}

module _ {F D E R Q K S X : Type 0} (f : StepsOf F (Result D E)) where
  -- a step while the balancer isn't made yet
  pub stepped_asked : (can_poll : F → Type 0) (old : State F R) (asked : F) (kept : Option R) (inner : Poll (Result D E)) (left : F)
      (answer : Poll (Result (Balance D R Q K S X) (MakeError E))) (new : State F R) → old ≡ Asked asked kept → CanPoll can_poll old → f.stepped asked inner left
      → ((rng : R) → kept ≡ Some rng → AfterStep f left rng inner answer new) → Stepped f old answer new
  stepped_asked can_poll old asked None inner left answer new is can stepped after = absurd (subst (CanPoll can_poll) is can)
  stepped_asked can_poll old asked (Some rng) inner left answer new is can stepped after = subst (λ v. Stepped f v answer new) (sym is) (inner, left, stepped, after rng (λ _. Some rng))

-- a balancer that draws by the generator that was kept
pub draws_by : {D R Q K S X : Type 0} (b : Balance D R Q K S X) (discover : D) (kept : Option R) (taken rng : R) → kept ≡ Some taken → kept ≡ Some rng → view_of b ≡ initial discover taken
    → view_of b ≡ initial discover rng
draws_by b discover kept taken rng was is parts = parts ∙ ap (λ r. initial discover (unwrap_or r taken)) (sym was ∙ is)
