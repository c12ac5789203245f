-- What a `SpawnReady` is asked is a run of the service that is here, and a poll of a task one of the service in it.
use Rattle.std.proofs.Common.{◌≡◌, ℕ, zero, suc, Bool, true, false, inl, inr, ⊎_elim, refl, ap, sym, ◌∙◌, subst, [], Option, Some, None, Result, Ok, Err}
use Rattle.futures.specs.declared.task.Poll.{Poll}
use Rattle.futures.specs.declared.task.Poll.TheVariants.{Ready, Pending}
use Rattle.tower_base.specs.Iterations.{Iterates}
use Rattle.tower_base.specs.ServiceRun.{Relations, relations, Action, Takes}
use Rattle.tower_base.specs.Projection.{RunInside}
use Rattle.tower_base.specs.ProjectionLemmas.{no_action, one_poll, one_call}
use Rattle.tower_latch.specs.declared.Latch.{Ghosts as LatchOf}
use Rattle.tower_base.specs.declared.service.Executor.{Ghosts as ExecutorOf}
use Rattle.tower_base.specs.declared.service.Service.{Ghosts as ServiceOf}
use Rattle.tower_ware.proofs.RunsLemmas.{after}
use Rattle.tower.specs.Projections.{FromHere, IsHereAgain, RunsHere, RunsInTask}
use Rattle.tower_pool.specs.SpawnReady.{SpawnReadyView, AfterReadiness, Drives, TaskStepped, AfterReply, AfterSpawn, HandsOver, AfterPoll, IterationAt, Iteration, Polled, Called, tells}
use Rattle.tower_pool.specs.declared.spawn_ready.error.Error.{Error}
use Rattle.tower_pool.specs.declared.spawn_ready.slot_core.Slot.{Slot}
use Rattle.tower_pool.specs.declared.spawn_ready.slot_core.SlotStep.{SlotStep}
use Rattle.tower_pool.specs.declared.spawn_ready.slot_core.SlotStep.TheVariants.{Look, Aborted}
use Rattle.tower_pool.specs.declared.spawn_ready.slot_core.SlotReply.{SlotReply}
use Rattle.tower_pool.specs.declared.spawn_ready.slot_core.SlotReply.TheVariants.{Done, Back, Truth, Waiting, Service, Error as Failed, Lost, Unknown}
use Rattle.tower_pool.specs.declared.spawn_ready.task.Held.{Held}
use Rattle.tower_pool.specs.declared.spawn_ready.task.ReadyTask.{ReadyTask}

module _ {S Q A E F L : Type 0} (s : ServiceOf S Q A E F) (l : LatchOf L (Slot S E) (SlotStep S E) (SlotReply S E) (Unit {0})) where
  extended : (old : Option S) (mid new : S) → FromHere s l old mid → RunInside (relations s) (λ x. x ≡ []) mid new → FromHere s l old new
  extended (Some service) mid new first second = after (relations s) service mid new first second
  extended None mid new first second = first

  from_mid : (latch : L) (old mid : Option S) (new : S) → IsHereAgain s l latch old mid → FromHere s l mid new → IsHereAgain s l latch old (Some new)
  from_mid latch old (Some mid) new first second =
      ⊎_elim (λ from. inl (extended old mid new from second)) (λ given. inr (given.0, given.1, after (relations s) given.0 mid new given.2 second)) first
  from_mid latch old None new first second = absurd second

  chained : (latch : L) (old mid new : Option S) → IsHereAgain s l latch old mid → IsHereAgain s l latch mid new → IsHereAgain s l latch old new
  chained latch old mid (Some new) first second = ⊎_elim (λ from. from_mid latch old mid new first from) (λ given. inr given) second
  chained latch old mid None first second = tt

  stays : (latch : L) (service : Option S) → IsHereAgain s l latch service service
  stays latch (Some service) = inl (no_action (relations s) service service refl refl)
  stays latch None = tt

  module _ {X : Type 0} (x : ExecutorOf X (ReadyTask S Q E L A F)) where
    abbrev View : Type 0
    View = SpawnReadyView S X L

    abbrev Answer : Type 0
    Answer = Option (Poll (Result (Unit {0}) (Error E)))

    -- what one iteration leaves
    abbrev Left : Option S → View → View → Type 0
    Left service old new = (new.latch ≡ old.latch) × IsHereAgain s l old.latch service new.service

    -- a service by an equation
    left_by : (service state : Option S) (old new : View) → new.latch ≡ old.latch → new.service ≡ state → IsHereAgain s l old.latch service state → Left service old new
    left_by service state old new latch e here = (latch, subst (λ v. IsHereAgain s l old.latch service v) (sym e) here)

    looked : (old : View) (reply : SlotReply S E) (answer : Answer) (new : View) → old.service ≡ None → l.gave old.latch Look reply
        → AfterReply s l x old reply answer new → Left None old new
    looked old Waiting answer new away gave h = left_by None None old new (ap (λ v. v.latch) h.1) (ap (λ v. v.service) h.1 ∙ away) tt
    looked old (Service service) answer new away gave h =
        left_by None (Some service) old new (ap (λ v. v.latch) h.1) (ap (λ v. v.service) h.1) (inr (service, gave, no_action (relations s) service service refl refl))
    looked old Unknown answer new away gave h = left_by None None old new (ap (λ v. v.latch) h.1) (ap (λ v. v.service) h.1 ∙ away) tt
    looked old (Failed e) answer new away gave h = left_by None None old new (ap (λ v. v.latch) h.1) (ap (λ v. v.service) h.1 ∙ away) tt
    looked old Done answer new away gave h = left_by None None old new (ap (λ v. v.latch) h.1) (ap (λ v. v.service) h.1 ∙ away) tt
    looked old (Back service) answer new away gave h = left_by None None old new (ap (λ v. v.latch) h.1) (ap (λ v. v.service) h.1 ∙ away) tt
    looked old (Truth b) answer new away gave h = left_by None None old new (ap (λ v. v.latch) h.1) (ap (λ v. v.service) h.1 ∙ away) tt
    looked old Lost answer new away gave h = left_by None None old new (ap (λ v. v.latch) h.1) (ap (λ v. v.service) h.1 ∙ away) tt

    spawned : (service left : S) (old running : View) (taken : Result (Unit {0}) (ReadyTask S Q E L A F)) (answer : Answer) (new : View) → running.latch ≡ old.latch
        → RunInside (relations s) (λ x. x ≡ []) service left → AfterSpawn s l x running left taken answer new → Left (Some service) old new
    spawned service left old running (Ok u) answer new latch run h = left_by (Some service) None old new (ap (λ v. v.latch) h.1 ∙ latch) (ap (λ v. v.service) h.1) tt
    spawned service left old running (Err task) answer new latch run h =
        left_by (Some service) (Some left) old new (ap (λ v. v.latch) h.1 ∙ latch) (ap (λ v. v.service) h.1) (inl run)

    handed : (service left : S) (old : View) (answer : Answer) (new : View) → RunInside (relations s) (λ x. x ≡ []) service left
        → HandsOver s l x old left answer new → Left (Some service) old new
    handed service left old answer new run h = ⊎_elim
        (λ refused. left_by (Some service) (Some left) old new (ap (λ v. v.latch) refused.same) (ap (λ v. v.service) refused.same) (inl run))
        (λ spawns. spawned service left old spawns.running spawns.hands.taken answer new (ap (λ v. v.latch) spawns.starts.1) run spawns.hands.after) h

    after_poll : (service left : S) (old : View) (readiness : Poll (Result (Unit {0}) E)) (answer : Answer) (new : View) → s.polled service readiness left
        → AfterPoll s l x old left readiness answer new → Left (Some service) old new
    after_poll service left old Pending answer new polled h = handed service left old answer new (one_poll (relations s) service left Pending polled refl) h
    after_poll service left old (Ready (Ok u)) answer new polled h =
        left_by (Some service) (Some left) old new (ap (λ v. v.latch) h.1) (ap (λ v. v.service) h.1) (inl (one_poll (relations s) service left (Ready (Ok u)) polled refl))
    after_poll service left old (Ready (Err e)) answer new polled h =
        left_by (Some service) (Some left) old new (ap (λ v. v.latch) h.1) (ap (λ v. v.service) h.1) (inl (one_poll (relations s) service left (Ready (Err e)) polled refl))

    passed : (service : Option S) (old : View) (answer : Answer) (new : View) → old.service ≡ service → IterationAt s l x service old answer new → Left service old new
    passed (Some service) old answer new same h = after_poll service h.1 old h.0 answer new h.2 h.3
    passed None old answer new same h = looked old h.0 answer new same h.1 h.2

    -- one iteration more
    more : (old mid new : View) → Left old.service old mid → Left mid.service mid new → Left old.service old new
    more old mid new first second =
        (second.0 ∙ first.0, chained old.latch old.service mid.service new.service first.1 (subst (λ latch. IsHereAgain s l latch mid.service new.service) first.0 second.1))

    went : (n : ℕ) (old new : View) → Iterates (Iteration s l x) n old new → Left old.service old new
    unfolding Iterates
    went zero old new h = left_by old.service old.service old new (ap (λ v. v.latch) h) (ap (λ v. v.service) h) (stays old.latch old.service)
    went (suc n) old new h = more old h.0 new (went n old h.0 h.1) (passed h.0.service h.0 None new refl h.2)

    polls : (old : View) (answer : Poll (Result (Unit {0}) (Error E))) (new : View) → Polled s l x old answer new → IsHereAgain s l old.latch old.service new.service
    polls old answer new p =
        let so_far = went p.iterations.count old p.iterations.last p.iterations.went in
        (⊎_elim {C = Left old.service old new} (λ ends. more old p.iterations.last new so_far (passed p.iterations.last.service p.iterations.last (Some answer) new refl ends.1))
        (λ tired. subst (λ v. Left old.service old v) (sym tired.2) so_far) p.iterations.ends).1

    module _ {R : Type 0} (view : R → View) where
      abbrev spawn_ready_of : (R → Type 0) → Relations R Q (Error E) (Option F)
      spawn_ready_of ready = record {
        ready = ready;
        polled = λ old answer new. Polled s l x (view old) answer (view new);
        called = λ old request future new. Called s (view old) request future (view new);
      }

      pub spawn_ready : (ready : R → Type 0) (old : R) (action : Action Q (Error E) (Option F)) (new : R) → Takes (spawn_ready_of ready) old action new
          → RunsHere s l (view old) action (view new)
      spawn_ready ready old (Action.poll answer) new takes = polls (view old) answer (view new) takes
      spawn_ready ready old (Action.call request future) new takes =
          let c = takes.1 in
          (c.service, c.left, c.here, ap (λ v. v.service) c.same, one_call (relations s) c.service c.left request c.inner c.ready c.called refl)

  -- a task
  after_readiness : (old : Held S L) (left : S) (readiness : Poll (Result (Unit {0}) E)) (answer : Poll (Unit {0})) (new : Option (Held S L))
      → s.polled old.service readiness left → AfterReadiness l s old left readiness answer new → RunsInTask s l (Some old) new
  after_readiness old left Pending answer new polled h =
      subst (λ v. RunsInTask s l (Some old) v) (sym h.1) (one_poll (relations s) old.service left Pending polled refl, refl)
  after_readiness old left (Ready (Ok u)) answer new polled h =
      subst (λ v. RunsInTask s l (Some old) v) (sym h.2) (inl (left, one_poll (relations s) old.service left (Ready (Ok u)) polled refl, h.0))
  after_readiness old left (Ready (Err e)) answer new polled h = subst (λ v. RunsInTask s l (Some old) v) (sym h.2) (inr (inl (e, h.0)))

  driven : (told : Bool) (reply : SlotReply S E) → tells reply ≡ told → (old : Held S L) → l.gave old.latch Aborted reply → (answer : Poll (Unit {0})) (new : Option (Held S L))
      → Drives l s told old answer new → RunsInTask s l (Some old) new
  driven true reply e old gave answer new h = subst (λ v. RunsInTask s l (Some old) v) (sym h.1) (inr (inr (reply, gave, e)))
  driven false reply e old gave answer new h = after_readiness old h.1 h.0 answer new h.2 h.3

  pub task : (old : Option (Held S L)) (answer : Poll (Unit {0})) (new : Option (Held S L)) → TaskStepped l s old answer new → RunsInTask s l old new
  task (Some old) answer new h = driven (tells h.0) h.0 refl old h.1 answer new h.2
  task None answer new h = absurd h
