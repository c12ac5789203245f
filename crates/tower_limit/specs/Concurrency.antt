-- The machine of `limit::concurrency`.
use Rattle.std.specs.Prelude.{◌≡◌, ◌⊎◌, ℕ, Option, None, Some, Result, Ok, Err, IsSome}
use Rattle.std.specs.declared.alloc.AllocError.{AllocError}
use Rattle.futures.specs.declared.task.Poll.{Poll}
use Rattle.futures.specs.declared.task.Poll.TheVariants.{Ready, Pending}
use Rattle.tower_base.specs.Answers.{answered}
use Rattle.tower_latch.specs.declared.Latch.{Ghosts as LatchOf}
use Rattle.tower_latch.specs.declared.guarded.token.Token.{Token}
use Rattle.tower_base.specs.declared.service.Service.{Ghosts as ServiceOf}
use Rattle.tower_base.specs.declared.service.Steps.{Ghosts as StepsOf}
use Rattle.tower_limit.specs.declared.limit.concurrency.error.Error.{Error}
use Rattle.tower_limit.specs.declared.limit.concurrency.error.Error.TheVariants.{Inner, Memory as NoMemory}
use Rattle.tower_limit.specs.declared.limit.concurrency.line_core.LineCore.{LineCore}
use Rattle.tower_limit.specs.declared.limit.concurrency.line_core.LineStep.{LineStep}
use Rattle.tower_limit.specs.declared.limit.concurrency.line_core.LineStep.TheVariants.{Join, Look}
use Rattle.tower_limit.specs.declared.limit.concurrency.line_core.LineReply.{LineReply}
use Rattle.tower_limit.specs.declared.limit.concurrency.line_core.LineReply.TheVariants.{Granted, Waiting, Unknown, Memory}

-- a `Semaphore`
pub record SemaphoreView (L : Type 0) : Type 0 where
  pub latch : L
  pub max : ℕ

-- a `Permit`
pub record PermitView (L : Type 0) : Type 0 where
  pub latch : L

-- a `PollSemaphore`, which may wait under a key
pub record PollSemaphoreView (L : Type 0) : Type 0 where
  pub semaphore : SemaphoreView L
  pub key : Option ℕ

-- a `ConcurrencyLimit`, which may hold a permit
pub record ConcurrencyLimitView (S L : Type 0) : Type 0 where
  pub inner : S
  pub asking : PollSemaphoreView L
  pub permit : Option (PermitView L)

-- its response future, which holds the permit of its call
pub record ResponseFutureView (F L : Type 0) : Type 0 where
  pub response : F
  pub permit : Option (PermitView L)

-- the step that requests a permit, if this key waits
abbrev pub step_of : Option ℕ → LineStep
step_of None = Join
step_of (Some key) = Look key

-- a `ConcurrencyLimit` that doesn't wait and holds no permit
abbrev pub initial : {S L : Type 0} → S → SemaphoreView L → ConcurrencyLimitView S L
initial inner semaphore = record { inner = inner; asking = record { semaphore = semaphore; key = None }; permit = None }

-- An initial `ConcurrencyLimit` around the service, over a semaphore of its own with `max` permits. (`places` gives a latch's terms: the number of its
-- permits.)
pub record New {S L : Type 0} (places : L → ℕ) (service : S) (max : ℕ) (made : ConcurrencyLimitView S L) : Type 0 where
  pub number : made.asking.semaphore.max ≡ max
  pub terms : places made.asking.semaphore.latch ≡ max
  pub starts : made ≡ initial service made.asking.semaphore

-- What a pending poll of readiness waits for: a permit, at the sources of its latch, or the inner service if a permit is held.
abbrev pub NeedsAt : {P : Type 0} → Option P → Type 0 → Type 0 → Type 0
NeedsAt (Some permit) inner latch = inner
NeedsAt None inner latch = latch

abbrev pub Needs : {S L : Type 0} → (S → ℕ → Type 0) → (L → ℕ → Type 0) → ConcurrencyLimitView S L → ℕ → Type 0
Needs needs source v s = NeedsAt v.permit (needs v.inner s) (source v.asking.semaphore.latch s)

-- The result is that allocation failed.
abbrev pub RanOut : {T : Type 0} → Poll (Result T AllocError) → Type 0
RanOut (Ready (Err e)) = Unit {0}
RanOut (Ready (Ok x)) = ⊥
RanOut Pending = ⊥

module _ {L : Type 0} (l : LatchOf L LineCore LineStep LineReply ℕ) where
  -- The second latch is a share of the first: what it gave, the first gave, and their tokens are the same.
  pub record Shares (latch other : L) : Type 0 where
    pub gives : (step : LineStep) (reply : LineReply) → l.gave other step reply → l.gave latch step reply
    pub terms : l.terms other ≡ l.terms latch
    pub its : (token : Token) → l.its other token → l.its latch token
    pub takes : (token : Token) → l.its latch token → l.its other token

  -- The permit is one of the semaphore's: tokens of its latch are tokens of the semaphore's latch.
  abbrev pub IsOf : SemaphoreView L → PermitView L → Type 0
  IsOf semaphore permit = (token : Token) → l.its permit.latch token → l.its semaphore.latch token

  -- a semaphore that shares the permits of the first, over a share that the first one's latch created
  pub record SharesPermits (semaphore other : SemaphoreView L) : Type 0 where
    pub shared : l.shares semaphore.latch (Ok other.latch)
    pub latch : Shares semaphore.latch other.latch
    pub max : other.max ≡ semaphore.max

  -- After this reply, a poll for a permit returns this result and keeps the new key. A permit takes the share that was created for it.
  abbrev pub Replies : PollSemaphoreView L → L → LineReply → Poll (Result (PermitView L) AllocError) → Option ℕ → Type 0
  Replies old share Granted (Ready (Ok permit)) key = (permit.latch ≡ share) × (key ≡ None)
  Replies old share (Waiting place) Pending key = key ≡ Some place
  Replies old share Unknown Pending key = key ≡ old.key
  Replies old share Memory (Ready (Err e)) key = key ≡ old.key
  Replies old share _ _ key = ⊥

  -- The latch refuses the permit's share, and nothing changes.
  pub record Refused (old : PollSemaphoreView L) (answer : Poll (Result (PermitView L) AllocError)) (new : PollSemaphoreView L) : Type 0 where
    pub error : AllocError
    pub shared : l.shares old.semaphore.latch (Err error)
    pub ran_out : RanOut answer
    pub same : new ≡ old

  -- The permit's share is created, and one step requests the permit.
  pub record Requested (old : PollSemaphoreView L) (answer : Poll (Result (PermitView L) AllocError)) (new : PollSemaphoreView L) : Type 0 where
    pub share : L
    pub shared : l.shares old.semaphore.latch (Ok share)
    pub shares : Shares old.semaphore.latch share
    pub reply : LineReply
    pub requested : l.gave old.semaphore.latch (step_of old.key) reply
    pub replies : Replies old share reply answer new.key
    pub same : new.semaphore ≡ old.semaphore

  -- a poll for a permit
  abbrev pub Acquired : PollSemaphoreView L → Poll (Result (PermitView L) AllocError) → PollSemaphoreView L → Type 0
  Acquired old answer new = Refused old answer new ⊎ Requested old answer new

  -- Why a poll for a permit may ask for another: the latch's causes, and a core that doesn't know the key. (The line's own core knows it.)
  abbrev pub StirsLine : (L → Type 0) → PollSemaphoreView L → Type 0
  StirsLine latch v = latch v.semaphore.latch ⊎ l.gave v.semaphore.latch (step_of v.key) Unknown

  -- Why a poll of readiness may ask for another: those of a poll for a permit, and those of the inner service.
  abbrev pub Stirs : {S : Type 0} → (L → Type 0) → (S → S → Type 0) → ConcurrencyLimitView S L → ConcurrencyLimitView S L → Type 0
  Stirs latch inner old new = StirsLine latch new.asking ⊎ inner old.inner new.inner

  module _ {S : Type 0} where
    -- what the layer over a semaphore creates: an initial `ConcurrencyLimit` around the service, over a share of the permits
    pub record Made (semaphore : SemaphoreView L) (service : S) (made : ConcurrencyLimitView S L) : Type 0 where
      pub shares : SharesPermits semaphore made.asking.semaphore
      pub starts : made ≡ initial service made.asking.semaphore

    -- a clone: an initial `ConcurrencyLimit` around a clone of the inner service, over a share of the permits
    pub record IsClone (is_clone : S → S → Type 0) (old copy : ConcurrencyLimitView S L) : Type 0 where
      pub inner : is_clone old.inner copy.inner
      pub shares : SharesPermits old.asking.semaphore copy.asking.semaphore
      pub starts : copy ≡ initial copy.inner copy.asking.semaphore

  -- the permit that is held, or one that is requested
  abbrev pub Acquires : Option (PermitView L) → PollSemaphoreView L → Poll (Result (PermitView L) AllocError) → PollSemaphoreView L → Type 0
  Acquires (Some permit) old got new = (got ≡ Ready (Ok permit)) × (new ≡ old)
  Acquires None old got new = Acquired old got new

  module _ {S Q A E F : Type 0} (s : ServiceOf S Q A E F) where
    -- After the result of the request for a permit: if there is a permit, the inner service is polled once, and the permit is kept.
    abbrev pub AfterPermit : Poll (Result (PermitView L) AllocError) → ConcurrencyLimitView S L → Poll (Result (Unit {0}) (Error E)) → ConcurrencyLimitView S L → Type 0
    AfterPermit (Ready (Ok permit)) old answer new =
        (new.permit ≡ Some permit) × ((inner : Poll (Result (Unit {0}) E)) × s.polled old.inner inner new.inner × (answer ≡ answered Inner inner))
    AfterPermit (Ready (Err e)) old answer new = (new.permit ≡ None) × (new.inner ≡ old.inner) × (answer ≡ Ready (Err NoMemory))
    AfterPermit Pending old answer new = (new.permit ≡ None) × (new.inner ≡ old.inner) × (answer ≡ Pending)

    -- a poll of readiness: a permit is held or is requested, and if there is one, the inner service is polled once
    pub record Polled (old : ConcurrencyLimitView S L) (answer : Poll (Result (Unit {0}) (Error E))) (new : ConcurrencyLimitView S L) : Type 0 where
      pub got : Poll (Result (PermitView L) AllocError)
      pub gets : Acquires old.permit old.asking got new.asking
      pub goes : AfterPermit got old answer new

module _ {L S Q A E F : Type 0} (s : ServiceOf S Q A E F) where
  -- a call: one call of the inner service, which is ready, and the permit goes into the future
  pub record Called (old : ConcurrencyLimitView S L) (request : Q) (future : ResponseFutureView F L) (new : ConcurrencyLimitView S L) : Type 0 where
    pub ready : s.ready old.inner
    pub called : s.called old.inner request future.response new.inner
    pub held : IsSome old.permit
    pub moved : future.permit ≡ old.permit
    pub left : new.permit ≡ None
    pub same : new.asking ≡ old.asking

module _ {F L A E : Type 0} (f : StepsOf F (Result A E)) where
  -- a poll of the future: one poll of the response, and the permit stays
  pub record Stepped (old : ResponseFutureView F L) (answer : Poll (Result A (Error E))) (new : ResponseFutureView F L) : Type 0 where
    pub inner : Poll (Result A E)
    pub stepped : f.stepped old.response inner new.response
    pub answers : answer ≡ answered Inner inner
    pub same : new.permit ≡ old.permit
