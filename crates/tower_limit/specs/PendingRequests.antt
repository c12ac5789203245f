-- The machine of `load::pending_requests`.
use Rattle.std.specs.Prelude.{◌≡◌, ◌⊎◌, ℕ, Option, None, Some, Result, Ok, Err}
use Rattle.std.specs.declared.alloc.AllocError.{AllocError}
use Rattle.futures.specs.declared.task.Poll.{Poll}
use Rattle.futures.specs.declared.task.Poll.TheVariants.{Ready}
use Rattle.tower_latch.specs.declared.Latch.{Ghosts as LatchOf}
use Rattle.tower_base.specs.declared.service.Service.{Ghosts as ServiceOf}
use Rattle.tower_limit.specs.Completion.{TrackCompletionFutureView}
use Rattle.tower_limit.specs.Discover.{Found, changed}
use Rattle.tower_limit.specs.declared.load.error.Error.{Error}
use Rattle.tower_limit.specs.declared.load.error.Error.TheVariants.{Inner, Memory}
use Rattle.tower_limit.specs.declared.load.pending_requests.count_core.CountCore.{CountCore}
use Rattle.tower_limit.specs.declared.load.pending_requests.count_core.CountStep.{CountStep}
use Rattle.tower_limit.specs.declared.load.pending_requests.count_core.CountStep.TheVariants.{Take, Load}
use Rattle.tower_limit.specs.declared.load.pending_requests.count_core.CountReply.{CountReply}
use Rattle.tower_limit.specs.declared.load.pending_requests.count_core.CountReply.TheVariants.{Counted, Count}

-- a `Handle`, which is counted if it has a share of the latch
pub record HandleView (L : Type 0) : Type 0 where
  pub share : Option L

-- a `PendingRequests`
pub record PendingRequestsView (S L C : Type 0) : Type 0 where
  pub service : S
  pub latch : L
  pub completion : C

-- a `PendingRequestsDiscover`
pub record PendingRequestsDiscoverView (D C : Type 0) : Type 0 where
  pub discover : D
  pub completion : C

-- a `PendingRequests` around the service, with this completion, over the first latch of a core of its own
pub record New {S L C : Type 0} (is_first : L → Type 0) (service : S) (completion : C) (made : PendingRequestsView S L C) : Type 0 where
  pub inside : made.service ≡ service
  pub same : made.completion ≡ completion
  pub first : is_first made.latch

module _ {L : Type 0} (l : LatchOf L CountCore CountStep CountReply (Unit {0})) where
  -- The second latch is a share that the first one created: what it gave, the first gave.
  pub record IsShare (latch other : L) : Type 0 where
    pub shared : l.shares latch (Ok other)
    pub same : (step : CountStep) (reply : CountReply) → l.gave other step reply → l.gave latch step reply

  -- The handle has the share exactly if the reply says that it was counted.
  abbrev pub Holds : L → CountReply → Option L → Type 0
  Holds share Counted held = held ≡ Some share
  Holds share _ held = held ≡ None

  -- The latch refuses the share, and there is no step.
  pub record Refused (latch : L) (handle : HandleView L) : Type 0 where
    pub error : AllocError
    pub shared : l.shares latch (Err error)
    pub none : handle.share ≡ None

  -- The handle's share is created, and one `Take` step is made.
  pub record Asked (latch : L) (handle : HandleView L) : Type 0 where
    pub share : L
    pub shares : IsShare latch share
    pub reply : CountReply
    pub took : l.gave latch Take reply
    pub holds : Holds share reply handle.share

  -- a new holder
  abbrev pub Taken : L → HandleView L → Type 0
  Taken latch handle = Refused latch handle ⊎ Asked latch handle

  -- the load: the reply to one step
  abbrev pub Loaded : {S C : Type 0} → PendingRequestsView S L C → ℕ → Type 0
  Loaded pending number = l.gave pending.latch Load (Count number)

  module _ {S Q A E F C : Type 0} (s : ServiceOf S Q A E F) where
    -- a poll of readiness: that of the inner service
    pub record Polled (old : PendingRequestsView S L C) (answer : Poll (Result (Unit {0}) E)) (new : PendingRequestsView S L C) : Type 0 where
      pub polled : s.polled old.service answer new.service
      pub latch : new.latch ≡ old.latch
      pub completion : new.completion ≡ old.completion

    -- a call: a new holder, and one call of the inner service, which is ready; the future gets the holder
    pub record Called (old : PendingRequestsView S L C) (request : Q) (future : TrackCompletionFutureView F C (HandleView L)) (new : PendingRequestsView S L C) : Type 0 where
      pub ready : s.ready old.service
      pub handle : HandleView L
      pub taken : Taken old.latch handle
      pub called : s.called old.service request future.future new.service
      pub held : future.handle ≡ Some handle
      pub tracks : future.completion ≡ old.completion
      pub latch : new.latch ≡ old.latch
      pub completion : new.completion ≡ old.completion

-- a `PendingRequests` around a discovered service, with a latch of its own
abbrev pub counted : {S L C : Type 0} → C → L → S → PendingRequestsView S L C
counted completion latch service = record { service = service; latch = latch; completion = completion }

module _ {D K S E L C : Type 0} (is_first : L → Type 0) (discovered : D → Found K S E → D → Type 0) where
  -- The latch of the next service is there and is no share of another's, and the inner discovery is polled once.
  pub record FoundInside (old : PendingRequestsDiscoverView D C) (answer : Found K (PendingRequestsView S L C) (Error E)) (new : PendingRequestsDiscoverView D C) : Type 0 where
    pub latch : L
    pub first : is_first latch
    pub inner : Found K S E
    pub found : discovered old.discover inner new.discover
    pub answers : answer ≡ changed (counted old.completion latch) Inner inner
    pub same : new.completion ≡ old.completion

  -- a poll of the discovery: either allocation of a latch fails and the inner discovery isn't polled, or it is polled once
  abbrev pub Discovered : PendingRequestsDiscoverView D C → Found K (PendingRequestsView S L C) (Error E) → PendingRequestsDiscoverView D C → Type 0
  Discovered old answer new = ((answer ≡ Ready (Some (Err Memory))) × (new ≡ old)) ⊎ FoundInside old answer new
