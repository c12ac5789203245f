-- The machine of `load::Constant`: a service, or a discovery of services, with a load that never changes.
use Rattle.std.specs.Prelude.{◌≡◌, Result}
use Rattle.futures.specs.declared.task.Poll.{Poll}
use Rattle.tower_base.specs.declared.service.Service.{Ghosts as ServiceOf}
use Rattle.tower_limit.specs.Discover.{Found, changed}

-- a `Constant`
pub record ConstantView (T M : Type 0) : Type 0 where
  pub inner : T
  pub load : M

module _ {S M Q A E F : Type 0} (s : ServiceOf S Q A E F) where
  -- a poll of readiness: that of the inner service
  pub record Polled (old : ConstantView S M) (answer : Poll (Result (Unit {0}) E)) (new : ConstantView S M) : Type 0 where
    pub polled : s.polled old.inner answer new.inner
    pub same : new.load ≡ old.load

  -- a call: that of the inner service, which is ready
  pub record Called (old : ConstantView S M) (request : Q) (future : F) (new : ConstantView S M) : Type 0 where
    pub ready : s.ready old.inner
    pub called : s.called old.inner request future new.inner
    pub same : new.load ≡ old.load

-- the service with this load
abbrev pub loaded : {S M : Type 0} → M → S → ConstantView S M
loaded load service = record { inner = service; load = load }

-- a poll of a discovery: one poll of the inner one, each service of which gets the load
pub record Discovered {D K S E M : Type 0} (discovered : D → Found K S E → D → Type 0)
    (old : ConstantView D M) (answer : Found K (ConstantView S M) E) (new : ConstantView D M) : Type 0 where
  pub inner : Found K S E
  pub found : discovered old.inner inner new.inner
  pub answers : answer ≡ changed (loaded old.load) (λ e. e) inner
  pub same : new.load ≡ old.load
