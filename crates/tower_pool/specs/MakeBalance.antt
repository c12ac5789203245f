-- The machine of `balance::p2c::MakeBalance`: a maker of discoveries, over each of which it makes a balancer.
use Rattle.std.specs.Prelude.{◌≡◌, ℕ, Some, None, Result, Ok, Err}
use Rattle.futures.specs.declared.task.Poll.{Poll}
use Rattle.futures.specs.declared.task.Poll.TheVariants.{Ready, Pending}
use Rattle.tower_base.specs.Answers.{answered}
use Rattle.tower_base.specs.declared.service.Service.{Ghosts as ServiceOf}
use Rattle.tower_base.specs.declared.service.Steps.{Ghosts as StepsOf}
use Rattle.tower_pool.specs.Balance.{initial, view_of}
use Rattle.tower_pool.specs.declared.balance.p2c.service.Balance.{Balance}
use Rattle.tower_pool.specs.declared.balance.p2c.make.State.{State}
use Rattle.tower_pool.specs.declared.balance.p2c.make.State.TheVariants.{Asked, Refused}
use Rattle.tower_pool.specs.declared.balance.error.MakeError.{MakeError}
use Rattle.tower_pool.specs.declared.balance.error.MakeError.TheVariants.{Inner, Memory}

-- the value of a `MakeBalance`: the maker of discoveries, and the generator, of which each balancer has a clone
pub record MakeBalanceView (M R : Type 0) : Type 0 where
  pub maker : M
  pub rng : R

-- A clone has clones of both parts.
abbrev pub IsClone : {M R : Type 0} → (M → M → Type 0) → (R → R → Type 0) → MakeBalanceView M R → MakeBalanceView M R → Type 0
IsClone maker rng old new = maker old.maker new.maker × rng old.rng new.rng

module _ {M T D E F R : Type 0} (m : ServiceOf M T D E F) where
  -- A poll of readiness polls the maker, whose error is wrapped in `Inner`.
  pub record Polled (old : MakeBalanceView M R) (answer : Poll (Result (Unit {0}) (MakeError E))) (new : MakeBalanceView M R) : Type 0 where
    pub inner : Poll (Result (Unit {0}) E)
    pub polled : m.polled old.maker inner new.maker
    pub answers : answer ≡ answered Inner inner
    pub same : new.rng ≡ old.rng

  -- A call clones the generator and calls the maker, which is ready. If the generator can't be cloned, the maker isn't called.
  abbrev pub Called : (R → R → Type 0) → MakeBalanceView M R → T → State F R → MakeBalanceView M R → Type 0
  Called is_clone old target (Asked f (Some rng)) new = m.ready old.maker × m.called old.maker target f new.maker × is_clone old.rng rng × (new.rng ≡ old.rng)
  Called is_clone old target (Asked f None) new = ⊥
  Called is_clone old target Refused new = new ≡ old

-- The future may be polled if its discovery may be and the balancer wasn't made yet, or if the clone was refused.
abbrev pub CanPoll : {F R : Type 0} → (F → Type 0) → State F R → Type 0
CanPoll can_poll (Asked f (Some rng)) = can_poll f
CanPoll can_poll (Asked f None) = ⊥
CanPoll can_poll Refused = Unit {0}

module _ {F D E R Q K S X : Type 0} (f : StepsOf F (Result D E)) where
  -- Once the discovery is there its balancer is made, which draws by the generator.
  abbrev pub AfterStep : F → R → Poll (Result D E) → Poll (Result (Balance D R Q K S X) (MakeError E)) → State F R → Type 0
  AfterStep left rng (Ready (Ok discover)) answer new = (b : Balance D R Q K S X) × (view_of b ≡ initial discover rng) × (answer ≡ Ready (Ok b)) × (new ≡ Asked left None)
  AfterStep left rng (Ready (Err e)) answer new = (answer ≡ Ready (Err (Inner e))) × (new ≡ Asked left (Some rng))
  AfterStep left rng Pending answer new = (answer ≡ Pending) × (new ≡ Asked left (Some rng))

  -- A poll of the future polls the maker's future once, or returns the refusal.
  abbrev pub Stepped : State F R → Poll (Result (Balance D R Q K S X) (MakeError E)) → State F R → Type 0
  Stepped (Asked old (Some rng)) answer new = (inner : Poll (Result D E)) × (left : F) × f.stepped old inner left × AfterStep left rng inner answer new
  Stepped (Asked old None) answer new = ⊥
  Stepped Refused answer new = (answer ≡ Ready (Err Memory)) × (new ≡ Refused)

-- why a poll of the future may ask for another: the causes of the maker's future
abbrev pub Stirs : {F R : Type 0} → (F → F → Type 0) → State F R → State F R → Type 0
Stirs stirs (Asked f rng) (Asked left rest) = stirs f left
Stirs stirs (Asked f rng) Refused = ⊥
Stirs stirs Refused new = ⊥

-- the sources that the future waits for: those of the maker's future
abbrev pub needs_of : {F R : Type 0} → (F → ℕ → Type 0) → State F R → ℕ → Type 0
needs_of needs (Asked f rng) source = needs f source
needs_of needs Refused source = ⊥
