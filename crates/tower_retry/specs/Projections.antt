-- Which polls and calls a `Latency` makes of its inner service.
use Rattle.std.proofs.Common.{◌≡◌}
use Rattle.std.specs.declared.clone.Clone.{Ghosts as CloneOf}
use Rattle.tower_base.specs.ServiceRun.{Relations, relations}
use Rattle.tower_base.specs.Projection.{Once, Projects}
use Rattle.tower_base.specs.ProjectionLemmas.{forwards}
use Rattle.tower_base.specs.declared.service.Service.{Ghosts as ServiceOf}
use Rattle.tower_base.specs.declared.service.Clock.{Ghosts as ClockOf}
use Rattle.tower_retry.specs.Latency.{LatencyView, ResponseFutureView, Polled, Called}

module _ {R S C Q A E F : Type 0} (s : ServiceOf S Q A E F) (clones : CloneOf R) (c : ClockOf C) where
  abbrev latency_of : Relations (LatencyView R S C) Q E (ResponseFutureView R F C)
  latency_of = record { ready = λ l. s.ready l.service; polled = Polled s; called = Called s clones c }

  pub latency : Projects latency_of (relations s) (λ l. l.service) Once
  latency = forwards latency_of (relations s) (λ l. l.service) (λ old new answer p. (answer, p.polled)) (λ old new request future h. (future.inner, h.ready, h.called))
