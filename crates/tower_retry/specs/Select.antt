-- The machine of `hedge::select`.
use Rattle.std.specs.Prelude.{◌≡◌, ℕ, ◌⊎◌, Option, Some, None, Result, Ok, Err}
use Rattle.futures.specs.declared.task.Poll.{Poll}
use Rattle.futures.specs.declared.task.Poll.TheVariants.{Ready, Pending}
use Rattle.tower_base.specs.Answers.{answered}
use Rattle.tower_base.specs.declared.service.Service.{Ghosts as ServiceOf}
use Rattle.tower_base.specs.declared.service.Steps.{Ghosts as StepsOf}
use Rattle.tower_retry.specs.declared.hedge.select.error.Error.{Error}
use Rattle.tower_retry.specs.declared.hedge.select.error.Error.TheVariants.{First, Second}
use Rattle.tower_retry.specs.declared.hedge.select.policy.Policy.{Ghosts as PolicyOf}

-- a `Select`
pub record SelectView (P A B : Type 0) : Type 0 where
  pub policy : P
  pub a : A
  pub b : B

-- its response future: the first call, and the second if it was made
pub record ResponseFutureView (AF BF : Type 0) : Type 0 where
  pub a_fut : AF
  pub b_fut : Option BF

-- The answer of a poll of readiness, from those of both services. An error of the first takes precedence over one of the second.
abbrev pub both : {E G : Type 0} → Poll (Result (Unit {0}) E) → Poll (Result (Unit {0}) G) → Poll (Result (Unit {0}) (Error E G))
both (Ready (Err e)) second = Ready (Err (First e))
both first (Ready (Err e)) = Ready (Err (Second e))
both (Ready (Ok x)) (Ready (Ok y)) = Ready (Ok tt)
both first second = Pending

-- What a pending poll of readiness waits for: what each service waits for that isn't ready.
abbrev pub ServiceNeeds : {P A B : Type 0} → (A → Type 0) → (A → ℕ → Type 0) → (B → Type 0) → (B → ℕ → Type 0) → SelectView P A B → ℕ → Type 0
ServiceNeeds a_ready a_needs b_ready b_needs s source = (¬ (a_ready s.a) × a_needs s.a source) ⊎ (¬ (b_ready s.b) × b_needs s.b source)

module _ {P A B Q T E G F H : Type 0} (a : ServiceOf A Q T E F) (b : ServiceOf B Q T G H) where
  -- a poll of readiness: one poll of each
  pub record Polled (old : SelectView P A B) (answer : Poll (Result (Unit {0}) (Error E G))) (new : SelectView P A B) : Type 0 where
    pub first : Poll (Result (Unit {0}) E)
    pub first_polled : a.polled old.a first new.a
    pub second : Poll (Result (Unit {0}) G)
    pub second_polled : b.polled old.b second new.b
    pub answers : answer ≡ both first second
    pub same : new.policy ≡ old.policy

module _ {P A B Q T E G F H : Type 0} (p : PolicyOf P Q) (a : ServiceOf A Q T E F) (b : ServiceOf B Q T G H) where
  -- the second call, if the policy copied the request
  abbrev pub SecondCalled : B → Option Q → Option H → B → Type 0
  SecondCalled old (Some copy) (Some future) new = b.ready old × b.called old copy future new
  SecondCalled old None None new = new ≡ old
  SecondCalled old copy future new = ⊥

  -- a call: the policy is called for a copy, then the second service is called with the copy, if there is one, and then the first; both are ready
  pub record Called (old : SelectView P A B) (request : Q) (future : ResponseFutureView F H) (new : SelectView P A B) : Type 0 where
    pub copy : Option Q
    pub cloned : p.cloned old.policy request copy new.policy
    pub second_called : SecondCalled old.b copy future.b_fut new.b
    pub ready : a.ready old.a
    pub called : a.called old.a request future.a_fut new.a

module _ {T E G F H : Type 0} (a : StepsOf F (Result T E)) (b : StepsOf H (Result T G)) where
  -- the second call if the first is pending: one poll of it, if it was made
  abbrev pub SecondStepped : Option H → Poll (Result T (Error E G)) → Option H → Type 0
  SecondStepped (Some old) answer (Some new) = (inner : Poll (Result T G)) × b.stepped old inner new × (answer ≡ answered Second inner)
  SecondStepped None answer None = answer ≡ Pending
  SecondStepped old answer new = ⊥

  -- what follows a poll of the first call
  abbrev pub AfterFirst : Poll (Result T E) → Option H → Poll (Result T (Error E G)) → Option H → Type 0
  AfterFirst Pending old answer new = SecondStepped old answer new
  AfterFirst first old answer new = (answer ≡ answered First first) × (new ≡ old)

  -- a poll of the future: one poll of the first call and, if that is pending, one of the second
  pub record Stepped (old : ResponseFutureView F H) (answer : Poll (Result T (Error E G))) (new : ResponseFutureView F H) : Type 0 where
    pub first : Poll (Result T E)
    pub stepped : a.stepped old.a_fut first new.a_fut
    pub after : AfterFirst first old.b_fut answer new.b_fut

-- the sources that a future waits for: those of both calls
abbrev pub SecondNeeds : {H : Type 0} → (H → ℕ → Type 0) → Option H → ℕ → Type 0
SecondNeeds needs (Some future) source = needs future source
SecondNeeds needs None source = ⊥

abbrev pub Needs : {F H : Type 0} → (F → ℕ → Type 0) → (H → ℕ → Type 0) → ResponseFutureView F H → ℕ → Type 0
Needs first second future source = first future.a_fut source ⊎ SecondNeeds second future.b_fut source

-- Why a poll of a future may ask for another: the causes of both calls.
abbrev pub SecondStirs : {H : Type 0} → (H → H → Type 0) → Option H → Option H → Type 0
SecondStirs stirs (Some old) (Some new) = stirs old new
SecondStirs stirs old new = ⊥

abbrev pub Stirs : {F H : Type 0} → (F → F → Type 0) → (H → H → Type 0) → ResponseFutureView F H → ResponseFutureView F H → Type 0
Stirs first second old new = first old.a_fut new.a_fut ⊎ SecondStirs second old.b_fut new.b_fut
