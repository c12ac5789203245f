-- How a `Buffer` and its worker are created.
use Rattle.std.specs.Prelude.{◌≡◌, ◌⊎◌, ℕ, None, false, Result, Ok, Err}
use Rattle.std.specs.declared.alloc.AllocError.{AllocError}
use Rattle.tower_buffer.specs.Buffer.{BufferView}
use Rattle.tower_buffer.specs.Worker.{WorkerView}
use Rattle.tower_buffer.specs.declared.buffer.error.Error.{Error}
use Rattle.tower_buffer.specs.declared.buffer.error.Error.TheVariants.{Memory as NoMemory, NotSpawned}
use Rattle.tower_buffer.specs.declared.buffer.reservation.Reservation.TheVariants.{Away}

-- A `Buffer` that has no place and waits for none. It keeps no share of the latch for a response either.
abbrev pub initial_buffer : {L : Type 0} → L → BufferView L
initial_buffer latch = record { latch = latch; reservation = Away; share = None }

-- a worker that has taken no message
abbrev pub initial_worker : {L S Q : Type 0} → L → S → WorkerView L S Q
initial_worker latch service = record { latch = latch; service = service; message = None; has_failed = false }

-- a `Buffer` and a worker of the service, whose latch is a share of the `Buffer`'s
pub record Paired {L S Q : Type 0} (shares : L → Result L AllocError → Type 0) (service : S) (buffer : BufferView L) (worker : WorkerView L S Q) : Type 0 where
  pub reservation : buffer ≡ initial_buffer buffer.latch
  pub work : worker ≡ initial_worker worker.latch service
  pub shared : shares buffer.latch (Ok worker.latch)

-- such a pair over this latch
pub record PairedOver {L S Q : Type 0} (shares : L → Result L AllocError → Type 0) (latch : L) (service : S) (buffer : BufferView L) (worker : WorkerView L S Q) : Type 0 where
  pub first : buffer.latch ≡ latch
  pub pair : Paired shares service buffer worker

-- The executor takes the task, and the other value is returned. Or the executor gives the task back, and the error is `NotSpawned`.
abbrev pub HandsOver : {X T B E : Type 0} → (X → T → Result (Unit {0}) T → Type 0) → X → T → B → Result B (Error E) → Type 0
HandsOver spawned executor task other (Ok kept) = (kept ≡ other) × spawned executor task (Ok tt)
HandsOver {T = T} spawned executor task other (Err NotSpawned) = (back : T) × spawned executor task (Err back)
HandsOver spawned executor task other (Err _) = ⊥

-- The executor takes the task or gives it back.
abbrev pub Tries : {X T : Type 0} → (X → T → Result (Unit {0}) T → Type 0) → X → T → Type 0
Tries {T = T} spawned executor task = (answer : Result (Unit {0}) T) × spawned executor task answer

module _ {L S Q X : Type 0} (shares : L → Result L AllocError → Type 0) (spawned : X → WorkerView L S Q → Result (Unit {0}) (WorkerView L S Q) → Type 0) where
  -- The executor takes the worker of a pair, and its `Buffer` is returned. Or the executor gives the worker back. Or allocation fails.
  abbrev pub Begins : {E : Type 0} → X → S → Result (BufferView L) (Error E) → Type 0
  Begins executor service answer = (answer ≡ Err NoMemory)
      ⊎ ((buffer : BufferView L) × (worker : WorkerView L S Q) × Paired shares service buffer worker × HandsOver spawned executor worker buffer answer)

  -- What a `BufferLayer` returns: the `Buffer` of a pair, whose worker the executor took, or gave back.
  abbrev pub Wraps : X → S → BufferView L → Type 0
  Wraps executor service buffer = (worker : WorkerView L S Q) × Paired shares service buffer worker × Tries spawned executor worker

-- a `BufferLayer`
pub record BufferLayerView (X : Type 0) : Type 0 where
  pub bound : ℕ
  pub executor : X

-- A clone passes its workers to a clone of the executor.
pub record ClonesLayer {X : Type 0} (is_clone : X → X → Type 0) (old copy : BufferLayerView X) : Type 0 where
  pub same : copy.bound ≡ old.bound
  pub cloned : is_clone old.executor copy.executor
