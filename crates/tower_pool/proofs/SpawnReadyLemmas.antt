-- An iteration of a `SpawnReady` is a poll of its service, if that is here, and what follows.
use Rattle.std.specs.Prelude.{Option, Some, None, Result, Ok, Err, IfSome}
use Rattle.std.proofs.Common.{inl, inr, ⊎_elim, refl, subst, sym}
use Rattle.futures.specs.declared.task.Poll.{Poll}
use Rattle.futures.specs.declared.task.Poll.TheVariants.{Ready, Pending}
use Rattle.tower_latch.specs.declared.Latch.{Ghosts as LatchOf}
use Rattle.tower_base.specs.declared.service.Executor.{Ghosts as ExecutorOf}
use Rattle.tower_base.specs.declared.service.Service.{Ghosts as ServiceOf}
use Rattle.tower_pool.specs.SpawnReady.{AfterPoll, Begins, Ends, HandsOver, Iteration, IterationAt, Looks, SpawnReadyView}
use Rattle.tower_pool.specs.declared.spawn_ready.error.Error.{Error}
use Rattle.tower_pool.specs.declared.spawn_ready.slot_core.Slot.{Slot}
use Rattle.tower_pool.specs.declared.spawn_ready.slot_core.SlotStep.{SlotStep}
use Rattle.tower_pool.specs.declared.spawn_ready.slot_core.SlotReply.{SlotReply}
use Rattle.tower_pool.specs.declared.spawn_ready.task.ReadyTask.{ReadyTask}

module _ {S Q A E F L X : Type 0} (s : ServiceOf S Q A E F) (l : LatchOf L (Slot S E) (SlotStep S E) (SlotReply S E) (Unit {0}))
    (x : ExecutorOf X (ReadyTask S Q E L A F)) where
  abbrev View : Type 0
  View = SpawnReadyView S X L

  abbrev Answer : Type 0
  Answer = Option (Poll (Result (Unit {0}) (Error E)))

  hands_over : (old new : View) (left : S) (answer : Answer) → HandsOver s l x (record old { service = Some left }) left answer new
      → HandsOver s l x old left answer new
  hands_over old new left answer h =
      ⊎_elim (λ r. inl (record { error = r.error; shared = r.shared; answers = r.answers; same = r.same }))
      (λ p. inr (record { share = p.share; shared = p.shared; shares = p.shares; running = p.running; starts = p.starts; hands = p.hands })) h

  after_poll : (old new : View) (left : S) (readiness : Poll (Result (Unit {0}) E)) (answer : Answer)
      → AfterPoll s l x (record old { service = Some left }) left readiness answer new → AfterPoll s l x old left readiness answer new
  after_poll old new left Pending answer h = hands_over old new left answer h
  after_poll old new left (Ready (Ok u)) answer h = h
  after_poll old new left (Ready (Err e)) answer h = h

  -- What follows the beginning of an iteration ends it.
  pub begun_and_ended : (old mid new : View) (polled : Option (Poll (Result (Unit {0}) E))) (answer : Answer) → Begins s old polled mid
      → Ends s l x polled mid answer new → Iteration s l x old answer new
  begun_and_ended old mid new None answer begins ends =
      subst (λ here. IterationAt s l x here old answer new) (sym begins.0) (subst (λ v. Looks s l x v answer new) begins.1 ends)
  begun_and_ended old mid new (Some readiness) answer begins ends =
      let after : AfterPoll s l x (record old { service = Some begins.1 }) begins.1 readiness answer new =
      subst (λ v. IfSome v.service (λ left. AfterPoll s l x v left readiness answer new)) begins.4 ends in
      subst (λ here. IterationAt s l x here old answer new) (sym begins.2)
      (readiness, begins.1, begins.3, after_poll old new begins.1 readiness answer after)

  -- A poll that finds the service ready is an iteration.
  pub ready_at_once : (old new : View) (u : Unit {0}) → Begins s old (Some (Ready (Ok u))) new → Iteration s l x old (Some (Ready (Ok tt))) new
  ready_at_once old new u begins =
      subst (λ here. IterationAt s l x here old (Some (Ready (Ok tt))) new) (sym begins.2) (Ready (Ok u), begins.1, begins.3, (refl, begins.4))
