-- A `FutureService` whose poll of readiness returned `Ok` has its service, which is ready.
use Rattle.std.specs.Prelude.{Result, Ok, Err}
use Rattle.futures.specs.declared.task.Poll.{Poll}
use Rattle.futures.specs.declared.task.Poll.TheVariants.{Ready, Pending}
use Rattle.tower_base.specs.AnswersLemmas.{answered_ok}
use Rattle.tower_util.specs.FutureService.{IsThere, ServicePolled, FutureStepped, Polled}
use Rattle.tower_util.specs.declared.util.error.future_service.Error.TheVariants.{Inner}
use Rattle.tower_util.specs.declared.util.from_future.State.{State}
use Rattle.tower_util.specs.declared.util.from_future.State.TheVariants.{Coming, There, Lost}

module _ {F S E : Type 0} (stepped : F → Poll (Result S E) → F → Type 0) (polled : S → Poll (Result (Unit {0}) E) → S → Type 0)
    (ready : S → Type 0) (readies : (old new : S) → polled old (Ready (Ok tt)) new → ready new) where
  service_ready : (service : S) (new : State F S) → ServicePolled stepped polled service (Ready (Ok tt)) new → IsThere ready new
  service_ready service new h = let inside = answered_ok Inner h.0 tt h.3 in rw h.4 (readies service h.1 (rw inside at h.2))

  future_ready : (left : F) (inner : Poll (Result S E)) (new : State F S) → FutureStepped stepped polled left inner (Ready (Ok tt)) new → IsThere ready new
  future_ready left Pending new h = absurd (let e = h.0 in cc)
  future_ready left (Ready (Err e)) new h = absurd (let e = h.0 in cc)
  future_ready left (Ready (Ok service)) new h = service_ready service new h

  pub polled_ready : (old new : State F S) → Polled stepped polled old (Ready (Ok tt)) new → IsThere ready new
  polled_ready (Coming future) new h = future_ready h.1 h.0 new h.3
  polled_ready (There service) new h = service_ready service new h
  polled_ready Lost new h = absurd (let e = h.0 in cc)
