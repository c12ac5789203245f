-- The machine of `spawn_ready`.
use Rattle.std.specs.Prelude.{◌≡◌, ◌⊎◌, ℕ, Bool, true, false, Option, None, Some, Result, Ok, Err, IfSome}
use Rattle.std.specs.declared.alloc.AllocError.{AllocError}
use Rattle.futures.specs.declared.task.Poll.{Poll}
use Rattle.futures.specs.declared.task.Poll.TheVariants.{Ready, Pending}
use Rattle.tower_base.specs.Answers.{answered}
use Rattle.tower_base.specs.Iterations.{Iterates, Iterations, limit}
use Rattle.tower_base.specs.Quiet.{Ever}
use Rattle.tower_latch.specs.declared.Latch.{Ghosts as LatchOf}
use Rattle.tower_base.specs.declared.service.Executor.{Ghosts as ExecutorOf}
use Rattle.tower_base.specs.declared.service.Service.{Ghosts as ServiceOf}
use Rattle.tower_base.specs.declared.service.Steps.{Ghosts as StepsOf}
use Rattle.tower_util.specs.Fuse.{Stepped as FuseStepped}
use Rattle.tower_pool.specs.declared.spawn_ready.error.Error.{Error}
use Rattle.tower_pool.specs.declared.spawn_ready.error.Error.TheVariants.{Inner, Memory, Gone, NotSpawned}
use Rattle.tower_pool.specs.declared.spawn_ready.slot_core.Slot.{Slot}
use Rattle.tower_pool.specs.declared.spawn_ready.slot_core.SlotStep.{SlotStep}
use Rattle.tower_pool.specs.declared.spawn_ready.slot_core.SlotStep.TheVariants.{Start, Put, PutError, Look, Aborted}
use Rattle.tower_pool.specs.declared.spawn_ready.slot_core.SlotReply.{SlotReply}
use Rattle.tower_pool.specs.declared.spawn_ready.slot_core.SlotReply.TheVariants.{Truth, Waiting, Service, Error as Failed, Unknown}
use Rattle.tower_pool.specs.declared.spawn_ready.service.SpawnReady.{SpawnReady}
use Rattle.tower_pool.specs.declared.spawn_ready.task.Held.{Held}
use Rattle.tower_pool.specs.declared.spawn_ready.task.ReadyTask.{ReadyTask}

-- The value of a `SpawnReady`, which has its service unless a task has it or had it last. The slot may run while the service is here, if the
-- executor gave a task back.
pub record SpawnReadyView (S X L : Type 0) : Type 0 where
  pub service : Option S
  pub is_running : Bool
  pub executor : X
  pub latch : L

-- the view of a `SpawnReady`
abbrev pub view_of : {S Q E X L A F : Type 0} → SpawnReady S Q E X L A F → SpawnReadyView S X L
view_of v = record { service = v.service; is_running = v.is_running; executor = v.executor; latch = v.latch }

-- the view of a task: its service and its share of the slot, until it is done
abbrev pub held_of : {S Q E L A F : Type 0} → ReadyTask S Q E L A F → Option (Held S L)
held_of task = task.held

-- a new `SpawnReady`: the service is here, and no task had it
abbrev pub New : {S X L : Type 0} → S → X → SpawnReadyView S X L → Type 0
New service executor made = made ≡ record { service = Some service; is_running = false; executor = executor; latch = made.latch }

-- the `SpawnReady` that a layer with this executor makes
abbrev pub Made : {S X L : Type 0} → (X → X → Type 0) → X → S → SpawnReadyView S X L → Type 0
Made is_clone executor service made = is_clone executor made.executor × New service made.executor made

-- A task may be polled while it has its service, which is sound.
abbrev pub CanPoll : {S L : Type 0} → (S → Type 0) → Option (Held S L) → Type 0
CanPoll sound (Some held) = sound held.service
CanPoll sound None = ⊥

-- What a task waits for while it has its service: the service, and an abort at its share of the slot.
abbrev pub TaskNeeds : {S L : Type 0} → (S → ℕ → Type 0) → (L → ℕ → Type 0) → Option (Held S L) → ℕ → Type 0
TaskNeeds needs source (Some held) s = needs held.service s ⊎ source held.latch s
TaskNeeds needs source None s = ⊥

-- A `SpawnReady` is sound if a service that is here is sound, and the executor accepts each task that may be polled.
pub record Sound {S Q E L A F X : Type 0} (sound : S → Type 0) (x : ExecutorOf X (ReadyTask S Q E L A F)) (v : SpawnReadyView S X L) : Type 0 where
  pub service : IfSome v.service sound
  pub spawns : (task : ReadyTask S Q E L A F) → CanPoll sound (held_of task) → x.can_spawn v.executor task

-- The reply to a check for an abort (the step `Aborted`) doesn't say whether there is one. A slot's own core always says it.
abbrev pub is_unclear : {S E : Type 0} → SlotReply S E → Bool
is_unclear (Truth b) = false
is_unclear _ = true

-- The reply says that nobody waits for the service any more.
abbrev pub tells : {S E : Type 0} → SlotReply S E → Bool
tells (Truth b) = b
tells _ = false

module _ {S E L : Type 0} (l : LatchOf L (Slot S E) (SlotStep S E) (SlotReply S E) (Unit {0})) where
  -- The step had a reply, as the latch's `gave` says: in some run of a slot.
  abbrev pub StepMade : L → SlotStep S E → Type 0
  StepMade latch step = (reply : SlotReply S E) × l.gave latch step reply

  -- A check for an abort (the step `Aborted`) found none, as the latch's `gave` says: in some run of a slot.
  abbrev pub IsWaitedFor : L → Type 0
  IsWaitedFor latch = (reply : SlotReply S E) × l.gave latch Aborted reply × (tells reply ≡ false)

  -- Why a check for an abort may ask for another poll: the latch's causes, or an unclear reply.
  abbrev pub CheckStirs : (L → Type 0) → L → Type 0
  CheckStirs stirs latch = stirs latch ⊎ ((reply : SlotReply S E) × l.gave latch Aborted reply × (is_unclear reply ≡ true))

  -- Why the poll of a task's service may ask for another: the service's causes, be it kept or dropped or put into the slot.
  abbrev pub ServiceStirs : (S → S → Type 0) → S → Option (Held S L) → Type 0
  ServiceStirs stirs old (Some new) = stirs old new.service
  ServiceStirs stirs old None = (left : S) × stirs old left

  -- Why a poll of a task may ask for another: the causes of the check for an abort, and those of the service.
  abbrev pub TaskStirs : (S → S → Type 0) → (L → Type 0) → Option (Held S L) → Option (Held S L) → Type 0
  TaskStirs service latch (Some old) new = CheckStirs latch old.latch ⊎ ServiceStirs service old.service new
  TaskStirs service latch None new = ⊥

  module _ {Q A F : Type 0} (s : ServiceOf S Q A E F) where
    -- After the service's poll, a service that is ready, or its error, goes into the slot. Then the task has neither the service nor the slot any
    -- more.
    abbrev pub AfterReadiness : Held S L → S → Poll (Result (Unit {0}) E) → Poll (Unit {0}) → Option (Held S L) → Type 0
    AfterReadiness old left Pending answer new = (answer ≡ Pending) × (new ≡ Some (record { service = left; latch = old.latch }))
    AfterReadiness old left (Ready (Ok x)) answer new = StepMade old.latch (Put left) × (answer ≡ Ready tt) × (new ≡ None)
    AfterReadiness old left (Ready (Err e)) answer new = StepMade old.latch (PutError e) × (answer ≡ Ready tt) × (new ≡ None)

    -- If the slot is aborted the task is done, and otherwise the service is polled once.
    abbrev pub Drives : Bool → Held S L → Poll (Unit {0}) → Option (Held S L) → Type 0
    Drives true old answer new = (answer ≡ Ready tt) × (new ≡ None)
    Drives false old answer new = (readiness : Poll (Result (Unit {0}) E)) × (left : S) × s.polled old.service readiness left
        × AfterReadiness old left readiness answer new

    -- A poll of a task first checks once for an abort, by the step `Aborted`.
    abbrev pub TaskStepped : Option (Held S L) → Poll (Unit {0}) → Option (Held S L) → Type 0
    TaskStepped (Some held) answer new = (reply : SlotReply S E) × l.gave held.latch Aborted reply × Drives (tells reply) held answer new
    TaskStepped None answer new = ⊥

module _ {S Q A E F L X : Type 0} (s : ServiceOf S Q A E F) (l : LatchOf L (Slot S E) (SlotStep S E) (SlotReply S E) (Unit {0}))
    (x : ExecutorOf X (ReadyTask S Q E L A F)) where
  -- the outcome of one iteration: no answer yet, or the poll's
  abbrev pub Answer : Type 0
  Answer = Option (Poll (Result (Unit {0}) (Error E)))

  -- After the reply to a look the service is here again, or the poll is over. A look that doesn't fit the slot counts as one that has to wait.
  abbrev pub AfterReply : SpawnReadyView S X L → SlotReply S E → Answer → SpawnReadyView S X L → Type 0
  AfterReply old Waiting answer new = (answer ≡ Some Pending) × (new ≡ old)
  AfterReply old (Service service) answer new = (answer ≡ None) × (new ≡ record old { service = Some service; is_running = false })
  AfterReply old Unknown answer new = (answer ≡ Some Pending) × (new ≡ old)
  AfterReply old (Failed e) answer new = (answer ≡ Some (Ready (Err (Inner e)))) × (new ≡ old)
  AfterReply old _ answer new = (answer ≡ Some (Ready (Err Gone))) × (new ≡ old)

  -- The service is requested from the slot once.
  abbrev pub Looks : SpawnReadyView S X L → Answer → SpawnReadyView S X L → Type 0
  Looks old answer new = (reply : SlotReply S E) × l.gave old.latch Look reply × AfterReply old reply answer new

  -- The slot starts to run, unless it runs already.
  abbrev pub StartsAt : Bool → L → Type 0
  StartsAt true latch = Unit {0}
  StartsAt false latch = StepMade l latch Start

  abbrev pub Starts : SpawnReadyView S X L → SpawnReadyView S X L → Type 0
  Starts old new = StartsAt old.is_running old.latch × (new ≡ record old { is_running = true })

  -- A task that the executor gives back still has the service.
  abbrev pub AfterSpawn : SpawnReadyView S X L → S → Result (Unit {0}) (ReadyTask S Q E L A F) → Answer → SpawnReadyView S X L → Type 0
  AfterSpawn old service (Ok u) answer new = (answer ≡ None) × (new ≡ record old { service = None })
  AfterSpawn old service (Err task) answer new = (answer ≡ Some (Ready (Err NotSpawned))) × (new ≡ record old { service = Some service })

  -- The latch refuses the share for a task, and the service is kept.
  pub record Refused (old : SpawnReadyView S X L) (service : S) (answer : Answer) (new : SpawnReadyView S X L) : Type 0 where
    pub error : AllocError
    pub shared : l.shares old.latch (Err error)
    pub answers : answer ≡ Some (Ready (Err Memory))
    pub same : new ≡ record old { service = Some service }

  -- A task with the share and the service is passed to the executor while the slot runs.
  pub record HandsTo (old : SpawnReadyView S X L) (share : L) (service : S) (answer : Answer) (new : SpawnReadyView S X L) : Type 0 where
    pub runs : old.is_running ≡ true
    pub task : ReadyTask S Q E L A F
    pub holds : held_of task ≡ Some (record { service = service; latch = share })
    pub taken : Result (Unit {0}) (ReadyTask S Q E L A F)
    pub spawned : x.spawned old.executor task taken
    pub after : AfterSpawn old service taken answer new

  -- The share is made, the slot runs, and then the task is passed to the executor.
  pub record Spawns (old : SpawnReadyView S X L) (service : S) (answer : Answer) (new : SpawnReadyView S X L) : Type 0 where
    pub share : L
    pub shared : l.shares old.latch (Ok share)
    pub shares : (step : SlotStep S E) (reply : SlotReply S E) → l.gave share step reply → l.gave old.latch step reply
    pub running : SpawnReadyView S X L
    pub starts : Starts (record old { service = None }) running
    pub hands : HandsTo running share service answer new

  -- The service, which is pending, is handed to a new task, unless the task's share is refused.
  abbrev pub HandsOver : SpawnReadyView S X L → S → Answer → SpawnReadyView S X L → Type 0
  HandsOver old service answer new = Refused old service answer new ⊎ Spawns old service answer new

  -- what follows a poll of the service, which is here
  abbrev pub AfterPoll : SpawnReadyView S X L → S → Poll (Result (Unit {0}) E) → Answer → SpawnReadyView S X L → Type 0
  AfterPoll old left Pending answer new = HandsOver old left answer new
  AfterPoll old left (Ready (Ok u)) answer new = (answer ≡ Some (Ready (Ok tt))) × (new ≡ record old { service = Some left })
  AfterPoll old left (Ready (Err e)) answer new = (answer ≡ Some (Ready (Err (Inner e)))) × (new ≡ record old { service = Some left })

  -- One iteration polls the service if it is here, and otherwise requests it from the slot.
  abbrev pub IterationAt : Option S → SpawnReadyView S X L → Answer → SpawnReadyView S X L → Type 0
  IterationAt (Some service) old answer new = (readiness : Poll (Result (Unit {0}) E)) × (left : S) × s.polled service readiness left
      × AfterPoll old left readiness answer new
  IterationAt None old answer new = Looks old answer new

  abbrev pub Iteration : SpawnReadyView S X L → Answer → SpawnReadyView S X L → Type 0
  Iteration old answer new = IterationAt old.service old answer new

  -- The end of an iteration, which has polled the service if it is here.
  abbrev pub Ends : Option (Poll (Result (Unit {0}) E)) → SpawnReadyView S X L → Answer → SpawnReadyView S X L → Type 0
  Ends (Some readiness) old answer new = IfSome old.service (λ left. AfterPoll old left readiness answer new)
  Ends None old answer new = Looks old answer new

  -- a poll of readiness: iterations until one has an answer, or 64 without one, and then it is pending
  pub record Polled (old : SpawnReadyView S X L) (answer : Poll (Result (Unit {0}) (Error E))) (new : SpawnReadyView S X L) : Type 0 where
    pub iterations : Iterations Iteration Pending old answer new

  -- Why an iteration may ask for another poll: the service's causes, the latch's, or a slot that doesn't know a look.
  abbrev pub IterationStirs : (L → Type 0) → L → Type 0
  IterationStirs stirs latch = Ever s.stirs ⊎ stirs latch ⊎ l.gave latch Look Unknown

  -- Why a poll of readiness may ask for another: the causes of its iterations, or the limit: 64 of them in a row gave no answer.
  abbrev pub Stirs : (L → Type 0) → SpawnReadyView S X L → SpawnReadyView S X L → Type 0
  Stirs stirs old new = IterationStirs stirs new.latch ⊎ Iterates Iteration limit old new

module _ {S Q A E F : Type 0} (s : ServiceOf S Q A E F) where
  -- The beginning of an iteration: the service is polled if it is here.
  abbrev pub Begins : {X L : Type 0} → SpawnReadyView S X L → Option (Poll (Result (Unit {0}) E)) → SpawnReadyView S X L → Type 0
  Begins old (Some readiness) new = (service : S) × (left : S) × (old.service ≡ Some service) × s.polled service readiness left
      × (new ≡ record old { service = Some left })
  Begins old None new = (old.service ≡ None) × (new ≡ old)

  -- a call: one call of the service, which is here and ready
  pub record Called {X L : Type 0} (old : SpawnReadyView S X L) (request : Q) (future : Option F) (new : SpawnReadyView S X L) : Type 0 where
    pub service : S
    pub left : S
    pub inner : F
    pub here : old.service ≡ Some service
    pub ready : s.ready service
    pub called : s.called service request inner left
    pub response : future ≡ Some inner
    pub same : new ≡ record old { service = Some left }

module _ {F A E : Type 0} (f : StepsOf F (Result A E)) where
  -- A poll of the future polls the response once, whose error is wrapped in `Inner`. The response is dropped once it is ready.
  abbrev pub Stepped : Option F → Poll (Result A (Error E)) → Option F → Type 0
  Stepped old answer new = (inner : Poll (Result A E)) × FuseStepped f.stepped old inner new × (answer ≡ answered Inner inner)
