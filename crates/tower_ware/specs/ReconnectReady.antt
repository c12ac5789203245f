-- If a poll of a `Reconnect` returns `Ok`, its last iteration does, and leaves a ready value.
use Rattle.std.specs.Prelude.{Option, Some, None, Result, Ok, Err}
use Rattle.std.proofs.Common.{⊎_elim}
use Rattle.std.specs.declared.clone.Clone.{Ghosts as CloneOf}
use Rattle.futures.specs.declared.task.Poll.{Poll}
use Rattle.futures.specs.declared.task.Poll.TheVariants.{Ready, Pending}
use Rattle.tower_base.specs.IterationsLemmas.{iterations_last}
use Rattle.tower_base.specs.declared.service.Service.{Ghosts as ServiceOf}
use Rattle.tower_base.specs.declared.service.Steps.{Ghosts as StepsOf}
use Rattle.tower_ware.specs.Reconnect.{AfterConnect, AfterMaker, AfterReadiness, IsReady, Iteration, IterationAt, Polled, ReadyAt, ReconnectView}
use Rattle.tower_ware.specs.declared.reconnect.state.State.{State}
use Rattle.tower_ware.specs.declared.reconnect.state.State.TheVariants.{Idle, Connecting, Connected}

module _ {M T S F ME Q A E G : Type 0} (m : ServiceOf M T S ME F) (connect : StepsOf F (Result S ME)) (s : ServiceOf S Q A E G) (clones : CloneOf T)
    (readies : (old new : S) → s.polled old (Ready (Ok tt)) new → s.ready new) where
  after_maker : (old new : ReconnectView M F S ME T) (polled : M) (answer : Poll (Result (Unit {0}) ME))
      → AfterMaker m connect s clones old polled answer (Some (Ready (Ok tt))) new → ⊥
  after_maker old new polled Pending h = let e = h.0 in cc
  after_maker old new polled (Ready (Err e)) h = let e = h.0 in cc
  after_maker old new polled (Ready (Ok x)) h = ⊎_elim (λ refused. let e = refused.0 in cc) (λ goes. let e = goes.6 in cc) h

  after_connect : (old new : ReconnectView M F S ME T) (left : F) (answer : Poll (Result S ME))
      → AfterConnect m connect s clones old left answer (Some (Ready (Ok tt))) new → IsReady s new
  after_connect old new left Pending h = absurd (let e = h.0 in cc)
  after_connect old new left (Ready (Ok service)) h = absurd (let e = h.0 in cc)
  after_connect old new left (Ready (Err e)) h = rw h.1 tt

  ready_at : (error : Option ME) (service : S) → s.ready service → ReadyAt {F = F} s (Connected service) error
  ready_at (Some e) service h = tt
  ready_at None service h = h

  after_readiness : (old new : ReconnectView M F S ME T) (service left : S) (answer : Poll (Result (Unit {0}) E)) → s.polled service answer left
      → AfterReadiness m connect s clones old left answer (Some (Ready (Ok tt))) new → IsReady s new
  after_readiness old new service left Pending p h = absurd (let e = h.0 in cc)
  after_readiness old new service left (Ready (Ok x)) p h = rw h.1 (ready_at old.error left (readies service left p))
  after_readiness old new service left (Ready (Err e)) p h = absurd (let e = h.0 in cc)

  iteration_ok : (state : State F S) (old new : ReconnectView M F S ME T) → IterationAt m connect s clones state old (Some (Ready (Ok tt))) new → IsReady s new
  iteration_ok Idle old new h = absurd (after_maker old new h.1 h.0 h.3)
  iteration_ok (Connecting f) old new h = after_connect old new h.1 h.0 h.3
  iteration_ok (Connected service) old new h = after_readiness old new service h.1 h.0 h.2 h.3

pub polled_ok : {M T S F ME Q A E G : Type 0} {m : ServiceOf M T S ME F} {connect : StepsOf F (Result S ME)} {s : ServiceOf S Q A E G} {clones : CloneOf T}
    → ((old new : S) → s.polled old (Ready (Ok tt)) new → s.ready new)
    → (old new : ReconnectView M F S ME T) → Polled m connect s clones old (Ready (Ok tt)) new → IsReady s new
polled_ok {m = m} {connect = connect} {s = s} {clones = clones} readies old new p =
    iteration_ok m connect s clones readies p.iterations.last.state p.iterations.last new
    (iterations_last (Iteration m connect s clones) Pending (Ready (Ok tt)) old new (λ e. cc) p.iterations)
