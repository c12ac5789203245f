-- The machine of `Counted`.
use Rattle.std.specs.Prelude.{◌≡◌, ◌+◌, ◌^◌, ◌-◌, ℕ, min, Result}
use Rattle.futures.specs.declared.task.Poll.{Poll}
use Rattle.tower_base.specs.declared.service.Service.{Ghosts as ServiceOf}

-- a `Counted`
pub record CountedView (S : Type 0) : Type 0 where
  pub inner : S
  pub calls : ℕ

module _ {S Q A E F : Type 0} (s : ServiceOf S Q A E F) where
  -- a poll of readiness: one poll of the inner service
  pub record Polled (old : CountedView S) (answer : Poll (Result (Unit {0}) E)) (new : CountedView S) : Type 0 where
    pub polled : s.polled old.inner answer new.inner
    pub same : new.calls ≡ old.calls

  -- a call: one call of the inner service, which is ready, and one more is counted, up to the last number
  pub record Called (old : CountedView S) (request : Q) (future : F) (new : CountedView S) : Type 0 where
    pub ready : s.ready old.inner
    pub called : s.called old.inner request future new.inner
    pub counted : new.calls ≡ min (old.calls + 1) (2 ^ 64 - 1)
