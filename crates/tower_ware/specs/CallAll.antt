-- The machine of `util::call_all`: a stream of calls, ordered or not.
use Rattle.std.specs.Prelude.{◌≡◌, All, Bool, true, false, Option, Some, None, IsSomeAnd, Result, Ok, Err, ◌⊎◌}
use Rattle.futures.specs.declared.task.Poll.{Poll}
use Rattle.futures.specs.declared.task.Poll.TheVariants.{Ready, Pending}
use Rattle.tower_base.specs.Iterations.{Iterations}
use Rattle.tower_base.specs.declared.service.Flow.{Ghosts as FlowOf}
use Rattle.tower_base.specs.declared.service.Service.{Ghosts as ServiceOf}
use Rattle.tower_base.specs.declared.service.Steps.{Ghosts as StepsOf}
use Rattle.tower_ware.specs.Bag.{bag}
use Rattle.tower_ware.specs.IterationsQuiet.{StirsOrTires}
use Rattle.tower_ware.specs.OrderedCalls.{MayAsk, line}
use Rattle.tower_ware.specs.Queue.{Queue, Empty}
use Rattle.tower_ware.specs.declared.util.call_all.caller.Caller.{Caller}
use Rattle.tower_ware.specs.declared.util.call_all.call_queue.CallQueue.{Ghosts as CallQueueOf}
use Rattle.tower_ware.specs.declared.util.call_all.error.Error.{Error}
use Rattle.tower_ware.specs.declared.util.call_all.error.Error.TheVariants.{Inner, Memory}
use Rattle.tower_ware.specs.declared.util.call_all.slot.Slot.{Slot}

-- A `CallAll` or a `CallAllUnordered`: the service, unless it was taken out, the requests to come, the queue of the calls whose answers weren't
-- yielded yet, whether the requests have ended, and the request that was taken but not called yet.
pub record CallerView (S Q D R : Type 0) : Type 0 where
  pub service : Option S
  pub requests : Q
  pub queue : D
  pub ended : Bool
  pub kept : Option R

abbrev pub view_of : {S Q D R : Type 0} → Caller S Q D R → CallerView S Q D R
view_of c = record { service = c.service; requests = c.requests; queue = c.queue; ended = c.ended; kept = c.kept }

-- a new stream, with the request that another stream kept, if any
pub record New {S Q X R : Type 0} (service : Option S) (requests : Q) (kept : Option R) (new : CallerView S Q (Queue X) R) : Type 0 where
  pub serves : new.service ≡ service
  pub asks : new.requests ≡ requests
  pub none : Empty new.queue
  pub goes : new.ended ≡ false
  pub keeps : new.kept ≡ kept

-- A stream may be polled: the service is there and sound, the calls may be polled, and so may the requests until they have ended.
pub record CanFlow {S Q D R : Type 0} (sound : S → Type 0) (queue : D → Type 0) (can_poll : Q → Type 0) (v : CallerView S Q D R) : Type 0 where
  pub there : IsSomeAnd v.service sound
  pub calls : queue v.queue
  pub flow : v.ended ≡ false → can_poll v.requests

-- A `CallAll` may be polled. A call whose answer is there may be asked.
abbrev pub CallAllCanFlow : {S Q F T R : Type 0} → (S → Type 0) → (F → Type 0) → (Q → Type 0) → CallerView S Q (Queue (Slot F T)) R → Type 0
CallAllCanFlow sound future requests = CanFlow sound (λ q. All (MayAsk future) q.calls) requests

-- a `CallAllUnordered` may be polled
abbrev pub CallAllUnorderedCanFlow : {S Q F R : Type 0} → (S → Type 0) → (F → Type 0) → (Q → Type 0) → CallerView S Q (Queue F) R → Type 0
CallAllUnorderedCanFlow sound future requests = CanFlow sound (λ q. All future q.calls) requests

-- the answer of a call, as it is yielded
abbrev pub yielded : {A E : Type 0} → Result A E → Result A (Error E)
yielded (Ok x) = Ok x
yielded (Err e) = Err (Inner e)

module _ {S Q D R A E F : Type 0} (s : ServiceOf S R A E F) (q : FlowOf Q R) (d : CallQueueOf D (Result A E) F) where
  -- the result of one iteration: no answer yet, or the answer of the poll
  abbrev pub Answer : Type 0
  Answer = Option (Poll (Option (Result A (Error E))))

  -- What follows a poll of the service's readiness. A ready service is called with the request. A readiness error ends the requests.
  abbrev pub AfterReady : CallerView S Q D R → R → S → Poll (Result (Unit {0}) E) → Answer → CallerView S Q D R → Type 0
  AfterReady old request polled Pending answer new = (answer ≡ Some Pending) × (new ≡ record old { service = Some polled; kept = Some request })
  AfterReady old request polled (Ready (Err e)) answer new = (answer ≡ Some (Ready (Some (Err (Inner e)))))
      × (new ≡ record old { service = Some polled; ended = true; kept = Some request })
  AfterReady old request polled (Ready (Ok x)) answer new = (future : F) × (left : S) × (queue : D) × s.ready polled
      × s.called polled request future left × d.pushed old.queue future queue × (answer ≡ None)
      × (new ≡ record old { service = Some left; queue = queue; kept = None })

  -- The service is to be called with a request: room for the call is allocated, and then the service's readiness is polled. If allocation fails,
  -- which is the first case and happens only if the queue had no room left, the request is kept. `grown`, `pushed` and `polled` are the queue's own relations.
  abbrev pub Called : CallerView S Q D R → R → Answer → CallerView S Q D R → Type 0
  Called old request answer new = (queue : D) × d.grown old.queue queue
      × (((answer ≡ Some (Ready (Some (Err Memory)))) × (new ≡ record old { queue = queue; kept = Some request })
      × ¬ (d.has_room old.queue))
      ⊎ ((service polled : S) × (readiness : Poll (Result (Unit {0}) E)) × (old.service ≡ Some service) × s.polled service readiness polled
      × AfterReady (record old { queue = queue }) request polled readiness answer new))

  -- what follows a poll of the requests
  abbrev pub AfterFlow : CallerView S Q D R → Poll (Option R) → Answer → CallerView S Q D R → Type 0
  AfterFlow old Pending answer new = (answer ≡ Some Pending) × (new ≡ old)
  AfterFlow old (Ready None) answer new = (answer ≡ None) × (new ≡ record old { ended = true })
  AfterFlow old (Ready (Some request)) answer new = Called old request answer new

  -- The queue has no answer to yield. After the end of the requests, the stream ends if no call is left. Before it, the service is called with a
  -- request, the kept one first.
  abbrev pub GoesOn : Bool → Option R → CallerView S Q D R → Answer → CallerView S Q D R → Type 0
  GoesOn true kept old answer new =
      (new ≡ old) × ((d.empty old.queue × (answer ≡ Some (Ready None))) ⊎ (¬ d.empty old.queue × (answer ≡ Some Pending)))
  GoesOn false (Some request) old answer new = Called (record old { kept = None }) request answer new
  GoesOn false None old answer new = (next : Poll (Option R)) × (left : Q) × q.flowed old.requests next left
      × AfterFlow (record old { requests = left }) next answer new

  -- What follows a poll of the queue. An answer is yielded.
  abbrev pub AfterAsk : CallerView S Q D R → Poll (Option (Result A E)) → Answer → CallerView S Q D R → Type 0
  AfterAsk old (Ready (Some x)) answer new = (answer ≡ Some (Ready (Some (yielded x)))) × (new ≡ old)
  AfterAsk old (Ready None) answer new = GoesOn old.ended old.kept old answer new
  AfterAsk old Pending answer new = GoesOn old.ended old.kept old answer new

  -- one iteration: the queue is polled first
  abbrev pub Iteration : CallerView S Q D R → Answer → CallerView S Q D R → Type 0
  Iteration old answer new = (first : Poll (Option (Result A E))) × (queue : D) × d.polled old.queue first queue
      × AfterAsk (record old { queue = queue }) first answer new

  -- why a poll of the service's readiness may ask for another
  abbrev pub ServiceStirs : Option S → Type 0
  ServiceStirs service = IsSomeAnd service (λ polled. (left : S) × s.stirs polled left)

  -- Why going on may ask for another poll: the causes of the requests, unless one is kept, and those of the service. After the end of the
  -- requests, neither is polled.
  abbrev pub GoingOnStirs : Bool → Option R → CallerView S Q D R → Type 0
  GoingOnStirs true kept v = ⊥
  GoingOnStirs false (Some request) v = ServiceStirs v.service
  GoingOnStirs false None v = ((left : Q) × q.stirs v.requests left) ⊎ ServiceStirs v.service

  -- why an iteration may: the causes of the queue, and those of going on
  abbrev pub StirsOnce : CallerView S Q D R → Type 0
  StirsOnce v = d.stirs v.queue ⊎ GoingOnStirs v.ended v.kept v

  -- why a poll may: the causes of one of its iterations, or 64 iterations without an answer
  abbrev pub Stirs : CallerView S Q D R → CallerView S Q D R → Type 0
  Stirs = StirsOrTires Iteration StirsOnce

  -- a poll: iterations up to an answer, or 64 without one, and then it is pending
  pub record Flowed (old : CallerView S Q D R) (answer : Poll (Option (Result A (Error E)))) (new : CallerView S Q D R) : Type 0 where
    pub iterations : Iterations Iteration Pending old answer new

module _ {S Q R A E F : Type 0} (s : ServiceOf S R A E F) (q : FlowOf Q R) (f : StepsOf F (Result A E)) (can_poll : F → Type 0) where
  -- a poll of a `CallAll`
  abbrev pub CallAllFlowed : CallerView S Q (Queue (Slot F (Result A E))) R → Poll (Option (Result A (Error E)))
      → CallerView S Q (Queue (Slot F (Result A E))) R → Type 0
  CallAllFlowed = Flowed s q (line f can_poll)

  -- a poll of a `CallAllUnordered`
  abbrev pub CallAllUnorderedFlowed : CallerView S Q (Queue F) R → Poll (Option (Result A (Error E))) → CallerView S Q (Queue F) R → Type 0
  CallAllUnorderedFlowed = Flowed s q (bag f can_poll)

  -- why a poll of a `CallAll` may ask for another
  abbrev pub CallAllStirs : CallerView S Q (Queue (Slot F (Result A E))) R → CallerView S Q (Queue (Slot F (Result A E))) R → Type 0
  CallAllStirs = Stirs s q (line f can_poll)

  -- why a poll of a `CallAllUnordered` may ask for another
  abbrev pub CallAllUnorderedStirs : CallerView S Q (Queue F) R → CallerView S Q (Queue F) R → Type 0
  CallAllUnorderedStirs = Stirs s q (bag f can_poll)
