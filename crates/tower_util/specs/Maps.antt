-- The maps: services that change requests, answers or futures by a closure f. The table says what each returns from what the inner service
-- returned. Pending stays pending.
--
--   `MapRequest`    ready: inner                    inside: f(request)   response: inner
--   `MapResponse`   ready: inner                    inside: request      response: Ok(v) to Ok(f(v)), an error unchanged
--   `MapErr`        ready: Err(e) to Err(f(e))      inside: request      response: Err(e) to Err(f(e)), Ok unchanged
--   `MapResult`     ready: Err(e) to Err(From(e))   inside: request      response: f(inner)
--   `Then`          ready: Err(e) to Err(From(e))   inside: request      response: the output of the future f(inner)
--   `AndThen`       ready: Err(e) to Err(From(e))   inside: request      response: Ok(v) to the output of the future f(v), Err(e) to Err(From(e))
--   `MapFuture`     ready: Err(e) to Err(From(e))   inside: request      response: the output of the future f(inner future)
--
-- `given x y` says that the closure, called with x, may return y. The responses of `Then` and `AndThen` are in Chain.
use Rattle.std.specs.Prelude.{◌≡◌, Option, Some, Result}
use Rattle.futures.specs.declared.task.Poll.{Poll}
use Rattle.tower_base.specs.Answers.{Lifts, Sides, Same, Readies}
use Rattle.tower_util.specs.Fuse.{Stepped as FuseStepped}

-- What contracts see of a map: what it wraps, and the closure. They see the same of its future, which wraps the inner future until that
-- returns its output.
pub record MapView (S F : Type 0) : Type 0 where
  pub inner : S
  pub f : F

-- what contracts see of a map's layer
pub record MapLayerView (F : Type 0) : Type 0 where
  pub f : F

-- `MapResponse` turns `Ok(v)` into `Ok(f(v))`, and leaves an error unchanged.
abbrev pub MapsResponse : {A B E : Type 0} → (A → B → Type 0) → Poll (Result A E) → Poll (Result B E) → Type 0
MapsResponse given = Lifts (Sides given Same)

-- `MapErr` turns `Err(e)` into `Err(f(e))`, and leaves a response unchanged.
abbrev pub MapsErr : {A E U : Type 0} → (E → U → Type 0) → Poll (Result A E) → Poll (Result A U) → Type 0
MapsErr given = Lifts (Sides Same given)

-- `MapResult` turns the result into `f(result)`.
abbrev pub MapsResult : {A B : Type 0} → (A → B → Type 0) → Poll A → Poll B → Type 0
MapsResult given = Lifts given

-- A poll of readiness polls the inner service, whose error is turned into another by the relation.
module _ {S F E U : Type 0} (polled : S → Poll (Result (Unit {0}) E) → S → Type 0) (turned : F → E → U → Type 0) where
  abbrev pub Polled : MapView S F → Poll (Result (Unit {0}) U) → MapView S F → Type 0
  Polled old answer new = (inner : Poll (Result (Unit {0}) E)) × polled old.inner inner new.inner × (new.f ≡ old.f) × Readies (turned old.f) inner answer

-- A call calls the inner service, which is ready. A copy of the closure goes into the future.
module _ {S Q T F : Type 0} (ready : S → Type 0) (called : S → Q → T → S → Type 0) where
  abbrev pub Called : MapView S F → Q → MapView (Option T) F → MapView S F → Type 0
  Called old request future new = (inner : T) × ready old.inner × called old.inner request inner new.inner
      × (future ≡ record { inner = Some inner; f = old.f }) × (new.f ≡ old.f)

-- A poll of a future polls the inner future, whose output is changed by the relation. The inner future is dropped when it returns its output.
module _ {T F A B : Type 0} (stepped : T → Poll A → T → Type 0) (changed : F → Poll A → Poll B → Type 0) where
  abbrev pub Stepped : MapView (Option T) F → Poll B → MapView (Option T) F → Type 0
  Stepped old answer new = (inner : Poll A) × FuseStepped stepped old.inner inner new.inner × (new.f ≡ old.f) × changed old.f inner answer

-- A poll of the future of each map, by the closure's own relation.
module _ {T F A B E : Type 0} (stepped : T → Poll (Result A E) → T → Type 0) (post : F → A → B → Type 0) where
  abbrev pub MapResponseStepped : MapView (Option T) F → Poll (Result B E) → MapView (Option T) F → Type 0
  MapResponseStepped = Stepped stepped (λ f. MapsResponse (post f))

module _ {T F A E U : Type 0} (stepped : T → Poll (Result A E) → T → Type 0) (post : F → E → U → Type 0) where
  abbrev pub MapErrStepped : MapView (Option T) F → Poll (Result A U) → MapView (Option T) F → Type 0
  MapErrStepped = Stepped stepped (λ f. MapsErr (post f))

module _ {T F A B : Type 0} (stepped : T → Poll A → T → Type 0) (post : F → A → B → Type 0) where
  abbrev pub MapResultStepped : MapView (Option T) F → Poll B → MapView (Option T) F → Type 0
  MapResultStepped = Stepped stepped (λ f. MapsResult (post f))
