-- Which actions on hedges, a `SpawnReady` and a `Balance` reach the services inside, and what a buffer's worker does to its service.
use Rattle.std.proofs.Common.{◌≡◌, ◌⊎◌, ℕ, true, Contains, inl, inr, refl, ap, subst, sym, Option, Some, None, Result, Ok, List, []}
use Rattle.std.specs.Bool.{⊤}
use Rattle.std.specs.List.{AllByRecursion}
use Rattle.std.specs.declared.clone.Clone.{Ghosts as CloneOf}
use Rattle.std.specs.declared.convert.Infallible.{Infallible}
use Rattle.futures.specs.declared.task.Poll.{Poll}
use Rattle.futures.specs.declared.task.Poll.TheVariants.{Ready, Pending}
use Rattle.tower_base.specs.ServiceRun.{Relations, relations, Action}
use Rattle.tower_base.specs.Projection.{Once, MappedOrNone, Never, Projects, RunInside}
use Rattle.tower_base.specs.ProjectionLemmas.{forwards, no_action, one_poll, one_call}
use Rattle.tower_base.specs.Sleep.{SleepView}
use Rattle.tower_latch.specs.declared.Latch.{Ghosts as LatchOf}
use Rattle.tower_base.specs.declared.service.Clock.{Ghosts as ClockOf}
use Rattle.tower_base.specs.declared.service.Service.{Ghosts as ServiceOf}
use Rattle.tower_retry.specs.Delay as De
use Rattle.tower_retry.specs.Hedge as He
use Rattle.tower_retry.specs.Select as Se
use Rattle.tower_retry.specs.declared.hedge.delay.error.Error.{Error as DelayError}
use Rattle.tower_retry.specs.declared.hedge.delay.policy.Policy.{Ghosts as DelayPolicyOf}
use Rattle.tower_retry.specs.declared.hedge.delay.state.State.{State as DelayState}
use Rattle.tower_retry.specs.declared.hedge.delay.state.State.TheVariants.{Delaying, InFlight, NoClone}
use Rattle.tower_retry.specs.declared.hedge.error.Error.{Error as HedgeError}
use Rattle.tower_retry.specs.declared.hedge.select.error.Error.{Error as SelectError}
use Rattle.tower_retry.specs.declared.hedge.select.policy.Policy.{Ghosts as SelectPolicyOf}
use Rattle.tower_util.specs.Projections.{RunsInOneshot, oneshot}
use Rattle.tower_util.specs.declared.util.oneshot.Oneshot.{Oneshot}
use Rattle.tower_util.specs.declared.util.oneshot.State.TheVariants.{NotReady}
use Rattle.tower_ware.specs.declared.filter.error.Error.{Error as FilterError}
use Rattle.tower_limit.specs.Discover.{Found, MayInsert}
use Rattle.tower_pool.specs.ReadyCache.{PendingView}
use Rattle.tower_buffer.specs.Worker.{WorkerView}
use Rattle.tower_buffer.specs.declared.buffer.mail.MailStep.{MailStep}
use Rattle.tower_buffer.specs.declared.buffer.mail.MailStep.TheVariants.{Take}
use Rattle.tower_buffer.specs.declared.buffer.mail.MailReply.{MailReply}
use Rattle.tower_buffer.specs.declared.buffer.mail.MailReply.TheVariants.{Message}
use Rattle.tower_pool.specs.Balance.{BalanceView, Sound as BalanceSound}
use Rattle.tower_pool.specs.SpawnReady as Sp
use Rattle.tower_pool.specs.declared.spawn_ready.error.Error.{Error as SpawnError}
use Rattle.tower_pool.specs.declared.spawn_ready.slot_core.Slot.{Slot}
use Rattle.tower_pool.specs.declared.spawn_ready.slot_core.SlotStep.{SlotStep}
use Rattle.tower_pool.specs.declared.spawn_ready.slot_core.SlotStep.TheVariants.{Put, PutError, Look, Aborted}
use Rattle.tower_pool.specs.declared.spawn_ready.slot_core.SlotReply.{SlotReply}
use Rattle.tower_pool.specs.declared.spawn_ready.slot_core.SlotReply.TheVariants.{Service}
use Rattle.tower_pool.specs.declared.spawn_ready.task.Held.{Held}

-- The policy of a `Select`, at some value of it, may make this copy of the request.
abbrev pub Copies : {P Q : Type 0} → SelectPolicyOf P Q → Q → Q → Type 0
Copies {P} p request copy = (before after : P) × p.cloned before request (Some copy) after

module _ {P A B Q T E G F H : Type 0} (p : SelectPolicyOf P Q) (a : ServiceOf A Q T E F) (b : ServiceOf B Q T G H) where
  abbrev select_of : Relations (Se.SelectView P A B) Q (SelectError E G) (Se.ResponseFutureView F H)
  select_of = record { ready = λ v. a.ready v.a × b.ready v.b; polled = Se.Polled a b; called = Se.Called p a b }

  pub first : Projects select_of (relations a) (λ v. v.a) Once
  first = forwards select_of (relations a) (λ v. v.a) (λ old new answer h. (h.first, h.first_polled)) (λ old new request future h. (future.a_fut, h.ready, h.called))

  copied : (old new : Se.SelectView P A B) (request : Q) (copy : Option Q) (future : Option H) → p.cloned old.policy request copy new.policy
      → Se.SecondCalled p a b old.b copy future new.b → RunInside (relations b) (MappedOrNone (Copies p) request) old.b new.b
  copied old new request (Some copy) (Some future) cloned h = one_call (relations b) old.b new.b copy future h.0 h.1 (inl (copy, (old.policy, new.policy, cloned), refl))
  copied old new request None None cloned h = no_action (relations b) old.b new.b h (inr refl)
  copied old new request (Some copy) None cloned h = absurd h
  copied old new request None (Some future) cloned h = absurd h

  pub second : Projects select_of (relations b) (λ v. v.b) (MappedOrNone (Copies p))
  second old (Action.poll answer) new takes = one_poll (relations b) old.b new.b takes.second takes.second_polled refl
  second old (Action.call request future) new takes = copied old new request takes.1.copy future.b_fut takes.1.cloned takes.1.second_called

module _ {S Q A E F C : Type 0} (s : ServiceOf S Q A E F) where
  -- The service of a delayed call, a clone, stays as it was until the delay is over. From then on it is that of a `Oneshot`.
  abbrev pub RunsInDelay : DelayState (SleepView C) S Q (Oneshot S Q A E F) → DelayState (SleepView C) S Q (Oneshot S Q A E F) → Type 0
  RunsInDelay (Delaying before old request) (Delaying after new same) = (new ≡ old) × (same ≡ request)
  RunsInDelay (Delaying before old request) (InFlight new) = RunsInOneshot s (NotReady old request) new.state
  RunsInDelay (InFlight old) (InFlight new) = RunsInOneshot s old.state new.state
  RunsInDelay NoClone NoClone = Unit {0}
  RunsInDelay old new = ⊥

  module _ {P O : Type 0} (p : DelayPolicyOf P Q) (clones : CloneOf S) (c : ClockOf C) where
    abbrev delay_of : Relations (De.DelayView P S C) Q (DelayError E) (DelayState (SleepView C) S Q O)
    delay_of = record { ready = λ d. ⊤; polled = λ old answer new. (answer ≡ Ready (Ok tt)) × (new ≡ old); called = De.Called p clones c }

    pub delay : Projects delay_of (relations s) (λ d. d.service) Never
    delay old (Action.poll answer) new takes = no_action (relations s) old.service new.service (ap (λ d. d.service) takes.1) refl
    delay old (Action.call request future) new takes = no_action (relations s) old.service new.service (ap (λ d. d.service) takes.1.same) refl

  module _ (f : F → Poll (Result A E) → F → Type 0) (c : ClockOf C) where
    slept : (before after : SleepView C) (service : S) (request : Q) (slept : Poll (Unit {0})) (answer : Poll (Result A (DelayError E)))
        (new : DelayState (SleepView C) S Q (Oneshot S Q A E F)) → De.AfterDelay s f c slept after service request answer new → RunsInDelay (Delaying before service request) new
    slept before after service request Pending answer new h = subst (λ v. RunsInDelay (Delaying before service request) v) (sym h.1) (refl, refl)
    slept before after service request (Ready x) answer new h =
        subst (λ v. RunsInDelay (Delaying before service request) v) (sym h.after) (oneshot s f (NotReady service request) h.inner h.left.state h.stepped)

    pub delayed : (old : DelayState (SleepView C) S Q (Oneshot S Q A E F)) (answer : Poll (Result A (DelayError E)))
        (new : DelayState (SleepView C) S Q (Oneshot S Q A E F)) → De.Stepped s f c old answer new → RunsInDelay old new
    delayed (Delaying before service request) answer new h = slept before h.1 service request h.0 answer new h.3
    delayed (InFlight old) answer new h = subst (λ v. RunsInDelay (InFlight old) v) (sym h.after) (oneshot s f old.state h.inner h.left.state h.stepped)
    delayed NoClone answer new h = subst (λ v. RunsInDelay NoClone v) (sym h.1) tt

module _ {N Q A E F : Type 0} (n : ServiceOf N Q A (SelectError E (DelayError (FilterError E Infallible))) F) where
  abbrev hedge_of : Relations N Q (HedgeError E) F
  hedge_of = record { ready = n.ready; polled = He.Polled n.polled; called = n.called }

  pub hedge : Projects hedge_of (relations n) (λ v. v) Once
  hedge old (Action.poll answer) new takes = one_poll (relations n) old new takes.inner takes.polled refl
  hedge old (Action.call request future) new takes = one_call (relations n) old new request future takes.0 takes.1 refl

module _ {S Q A E F L : Type 0} (s : ServiceOf S Q A E F) (l : LatchOf L (Slot S E) (SlotStep S E) (SlotReply S E) (Unit {0})) where
  -- a run without calls, from the service that was here
  abbrev pub FromHere : Option S → S → Type 0
  FromHere (Some old) new = RunInside (relations s) (λ x. x ≡ []) old new
  FromHere None new = ⊥

  -- The service that is here is the one from before, after such a run, or one that the slot gave since, after such a run.
  abbrev pub IsHereAgain : L → Option S → Option S → Type 0
  IsHereAgain latch old (Some new) = FromHere old new ⊎ ((given : S) × l.gave latch Look (Service given) × RunInside (relations s) (λ x. x ≡ []) given new)
  IsHereAgain latch old None = Unit {0}

  -- What an action on a `SpawnReady` does to the service that is here. A call goes to it.
  abbrev pub RunsHere : {X G : Type 0} → Sp.SpawnReadyView S X L → Action Q (SpawnError E) G → Sp.SpawnReadyView S X L → Type 0
  RunsHere old (Action.poll answer) new = IsHereAgain old.latch old.service new.service
  RunsHere old (Action.call request future) new =
      (service : S) × (left : S) × (old.service ≡ Some service) × (new.service ≡ Some left) × RunInside (relations s) (Once request) service left

  -- How a task ends: its service went into the slot after such a run, or failed, or nobody waits for it.
  abbrev pub EndsWith : Held S L → Type 0
  EndsWith old = ((left : S) × RunInside (relations s) (λ x. x ≡ []) old.service left × Sp.StepMade l old.latch (Put left))
      ⊎ ((error : E) × Sp.StepMade l old.latch (PutError error)) ⊎ ((reply : SlotReply S E) × l.gave old.latch Aborted reply × (Sp.tells reply ≡ true))

  -- A poll of a task doesn't call its service.
  abbrev pub RunsInTask : Option (Held S L) → Option (Held S L) → Type 0
  RunsInTask (Some old) (Some new) = RunInside (relations s) (λ x. x ≡ []) old.service new.service × (new.latch ≡ old.latch)
  RunsInTask (Some old) None = EndsWith old
  RunsInTask None new = ⊥

module _ {S Q A E F : Type 0} (s : ServiceOf S Q A E F) where
  -- A run whose requests satisfy `Has` leads to the service `left`, from one that satisfies `P`.
  abbrev pub LedTo : (S → Type 0) → (List Q → Type 0) → S → Type 0
  LedTo P Has left = (first : S) × P first × RunInside (relations s) Has first left

-- The service is that of an endpoint of the balancer, or one that its discovery may insert.
abbrev pub MayBeEndpoint : {D R K S X : Type 0} → (D → Found K S X → D → Type 0) → BalanceView D R K S → S → Type 0
MayBeEndpoint {K = K} {S = S} discovered v service = ((key : K) × Contains v.services.ready (key, service))
    ⊎ ((pending : PendingView K S) × Contains v.services.pending pending × (pending.service ≡ service))
    ⊎ ((key : K) × (v.change ≡ Some (key, service))) ⊎ ((key : K) × MayInsert discovered v.discover key service)

-- `P` holds for each endpoint of a balancer that isn't cancelled, and for whatever its discovery may insert.
abbrev pub EachEndpoint : {D R K S X : Type 0} → (D → Found K S X → D → Type 0) → (S → Type 0) → BalanceView D R K S → Type 0
EachEndpoint discovered P v = BalanceSound (λ d. Unit {0}) discovered P v

module _ {L S Q A E F : Type 0} (gave : L → MailStep Q F E → MailReply Q F E → Type 0) (s : ServiceOf S Q A E F) where
  -- The request is that of the message that the worker keeps, or of one that the mail gave it.
  abbrev pub IsMessage : WorkerView L S Q → Q → Type 0
  IsMessage worker request = ((id : ℕ) × (worker.message ≡ Some (id, request))) ⊎ ((id : ℕ) × gave worker.latch Take (Message id request))

  -- A poll of a buffer's worker is a run of its service, whose requests are all those of messages.
  abbrev pub RunsInWorker : WorkerView L S Q → WorkerView L S Q → Type 0
  RunsInWorker old new = RunInside (relations s) (AllByRecursion (IsMessage old)) old.service new.service
