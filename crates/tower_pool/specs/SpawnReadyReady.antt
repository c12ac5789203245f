-- An `Ok` of a `SpawnReady` comes from the last iteration, and leaves a ready value.
use Rattle.std.specs.Prelude.{Option, Some, None, Result, Ok, Err, IsSomeAnd}
use Rattle.std.proofs.Common.{⊎_elim}
use Rattle.futures.specs.declared.task.Poll.{Poll}
use Rattle.futures.specs.declared.task.Poll.TheVariants.{Ready, Pending}
use Rattle.tower_base.specs.IterationsLemmas.{iterations_last}
use Rattle.tower_latch.specs.declared.Latch.{Ghosts as LatchOf}
use Rattle.tower_base.specs.declared.service.Executor.{Ghosts as ExecutorOf}
use Rattle.tower_base.specs.declared.service.Service.{Ghosts as ServiceOf}
use Rattle.tower_pool.specs.SpawnReady.{AfterPoll, AfterReply, AfterSpawn, HandsOver, Iteration, IterationAt, Polled, SpawnReadyView}
use Rattle.tower_pool.specs.declared.spawn_ready.slot_core.Slot.{Slot}
use Rattle.tower_pool.specs.declared.spawn_ready.slot_core.SlotStep.{SlotStep}
use Rattle.tower_pool.specs.declared.spawn_ready.slot_core.SlotReply.{SlotReply}
use Rattle.tower_pool.specs.declared.spawn_ready.slot_core.SlotReply.TheVariants.{Done, Back, Truth, Waiting, Service, Error, Lost, Unknown}
use Rattle.tower_pool.specs.declared.spawn_ready.task.ReadyTask.{ReadyTask}

module _ {S Q A E F L X : Type 0} (s : ServiceOf S Q A E F) (l : LatchOf L (Slot S E) (SlotStep S E) (SlotReply S E) (Unit {0}))
    (x : ExecutorOf X (ReadyTask S Q E L A F)) (readies : (old new : S) → s.polled old (Ready (Ok tt)) new → s.ready new) where
  after_reply : (old new : SpawnReadyView S X L) (reply : SlotReply S E) → AfterReply s l x old reply (Some (Ready (Ok tt))) new → ⊥
  after_reply old new Waiting h = let e = h.0 in cc
  after_reply old new (Service service) h = let e = h.0 in cc
  after_reply old new (Error error) h = let e = h.0 in cc
  after_reply old new Done h = let e = h.0 in cc
  after_reply old new (Back service) h = let e = h.0 in cc
  after_reply old new (Truth b) h = let e = h.0 in cc
  after_reply old new Lost h = let e = h.0 in cc
  after_reply old new Unknown h = let e = h.0 in cc

  after_spawn : (old new : SpawnReadyView S X L) (service : S) (taken : Result (Unit {0}) (ReadyTask S Q E L A F))
      → AfterSpawn s l x old service taken (Some (Ready (Ok tt))) new → ⊥
  after_spawn old new service (Ok u) h = let e = h.0 in cc
  after_spawn old new service (Err task) h = let e = h.0 in cc

  hands_over : (old new : SpawnReadyView S X L) (service : S) → HandsOver s l x old service (Some (Ready (Ok tt))) new → ⊥
  hands_over old new service h = ⊎_elim (λ r. let e = r.answers in cc) (λ p. after_spawn p.running new service p.hands.taken p.hands.after) h

  after_poll : (old new : SpawnReadyView S X L) (service left : S) (answer : Poll (Result (Unit {0}) E)) → s.polled service answer left
      → AfterPoll s l x old left answer (Some (Ready (Ok tt))) new → IsSomeAnd new.service s.ready
  after_poll old new service left Pending p h = absurd (hands_over old new left h)
  after_poll old new service left (Ready (Ok u)) p h = rw h.1 (readies service left p)
  after_poll old new service left (Ready (Err e)) p h = absurd (let e = h.0 in cc)

  iteration_ok : (here : Option S) (old new : SpawnReadyView S X L) → IterationAt s l x here old (Some (Ready (Ok tt))) new → IsSomeAnd new.service s.ready
  iteration_ok (Some service) old new h = after_poll old new service h.1 h.0 h.2 h.3
  iteration_ok None old new h = absurd (after_reply old new h.0 h.2)

pub polled_ok : {S Q A E F L X : Type 0} {s : ServiceOf S Q A E F} {l : LatchOf L (Slot S E) (SlotStep S E) (SlotReply S E) (Unit {0})}
    {x : ExecutorOf X (ReadyTask S Q E L A F)} → ((old new : S) → s.polled old (Ready (Ok tt)) new → s.ready new)
    → (old new : SpawnReadyView S X L) → Polled s l x old (Ready (Ok tt)) new → IsSomeAnd new.service s.ready
polled_ok {s = s} {l = l} {x = x} readies old new p =
    iteration_ok s l x readies p.iterations.last.service p.iterations.last new
    (iterations_last (Iteration s l x) Pending (Ready (Ok tt)) old new (λ e. cc) p.iterations)
