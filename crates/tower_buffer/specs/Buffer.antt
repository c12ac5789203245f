-- The machine of `Buffer` and of its response future.
use Rattle.std.specs.Prelude.{◌≡◌, ◌⊎◌, ℕ, Option, None, Some, Result, Ok, Err}
use Rattle.std.specs.declared.alloc.AllocError.{AllocError}
use Rattle.futures.specs.declared.task.Poll.{Poll}
use Rattle.futures.specs.declared.task.Poll.TheVariants.{Ready, Pending}
use Rattle.tower_buffer.specs.declared.buffer.error.Error.{Error}
use Rattle.tower_buffer.specs.declared.buffer.error.Error.TheVariants.{Inner, Service as HasFailed, Closed as IsClosed, Memory as NoMemory}
use Rattle.tower_buffer.specs.declared.buffer.reservation.Reservation.{Reservation}
use Rattle.tower_buffer.specs.declared.buffer.reservation.Reservation.TheVariants.{Away, Asking, Reserved}
use Rattle.tower_buffer.specs.declared.buffer.reservation.ResponseState.{ResponseState}
use Rattle.tower_buffer.specs.declared.buffer.reservation.ResponseState.TheVariants.{Told, Sent as IsSent, Polls}
use Rattle.tower_buffer.specs.declared.buffer.mail.MailStep.{MailStep}
use Rattle.tower_buffer.specs.declared.buffer.mail.MailStep.TheVariants.{Join, Reserve, Look, Cancel, Unreserve, Send, Outcome, Forget}
use Rattle.tower_buffer.specs.declared.buffer.mail.MailReply.{MailReply}
use Rattle.tower_buffer.specs.declared.buffer.mail.MailReply.TheVariants.{Done, Place, Waiting, Memory, Failed, Closed, Sent, Future, Lost, Unknown}

-- a `Buffer`: its share of the mail, its reservation there, and the share that it keeps for a response
pub record BufferView (L : Type 0) : Type 0 where
  pub latch : L
  pub reservation : Reservation
  pub share : Option L

-- the step that requests a place
abbrev pub step_of : {Q F E : Type 0} → Reservation → MailStep Q F E
step_of (Asking key) = Look key
step_of _ = Reserve

-- the error of a service that failed to be ready, as callers get it
abbrev pub failed : {E : Type 0} → E → Error E
failed e = HasFailed (record { error = e })

-- `gave latch step reply` says that mail with the latch's bound had this reply to this step in some run, and `shares latch result` that the latch's
-- `share` may return this result.
module _ {L Q F E : Type 0} (gave : L → MailStep Q F E → MailReply Q F E → Type 0) (shares : L → Result L AllocError → Type 0) where
  -- what a poll of readiness returns after the reply, and the reservation that it leaves
  abbrev pub Replies : Reservation → MailReply Q F E → Poll (Result (Unit {0}) (Error E)) → Reservation → Type 0
  Replies old Place answer new = (answer ≡ Ready (Ok tt)) × (new ≡ Reserved)
  Replies old (Waiting key) answer new = (answer ≡ Pending) × (new ≡ Asking key)
  Replies old Memory answer new = (answer ≡ Ready (Err NoMemory)) × (new ≡ old)
  Replies old (Failed e) answer new = (answer ≡ Ready (Err (failed e))) × (new ≡ Away)
  Replies old Closed answer new = (answer ≡ Ready (Err IsClosed)) × (new ≡ Away)
  Replies old Unknown answer new = (answer ≡ Pending) × (new ≡ old)
  Replies old _ answer new = ⊥

  -- The response's share is refused, and nothing changes.
  abbrev pub Refused : BufferView L → Poll (Result (Unit {0}) (Error E)) → BufferView L → Type 0
  Refused old answer new = (error : AllocError) × (old.share ≡ None) × shares old.latch (Err error) × (answer ≡ Ready (Err NoMemory)) × (new ≡ old)

  -- The response's share is there or is created, and one step requests a place.
  pub record Asked (old : BufferView L) (answer : Poll (Result (Unit {0}) (Error E))) (new : BufferView L) : Type 0 where
    pub share : L
    pub has : (old.share ≡ Some share) ⊎ ((old.share ≡ None) × shares old.latch (Ok share))
    pub reply : MailReply Q F E
    pub gave_reply : gave old.latch (step_of old.reservation) reply
    pub replies : Replies old.reservation reply answer new.reservation
    pub kept : new.share ≡ Some share
    pub same : new.latch ≡ old.latch

  abbrev pub PolledAt : Reservation → BufferView L → Poll (Result (Unit {0}) (Error E)) → BufferView L → Type 0
  PolledAt Reserved old answer new = (answer ≡ Ready (Ok tt)) × (new ≡ old)
  PolledAt _ old answer new = Refused old answer new ⊎ Asked old answer new

  -- a poll of readiness: if a place is reserved, it returns `Ok` without a step
  abbrev pub Polled : BufferView L → Poll (Result (Unit {0}) (Error E)) → BufferView L → Type 0
  Polled old answer new = PolledAt old.reservation old answer new

  -- Why a poll of readiness may ask for another: if it asks for a place, the latch's causes, and mail that doesn't know the key. (A `MailCore` knows
  -- the key that it told to wait.)
  abbrev pub StirsAt : Reservation → (L → Type 0) → L → Type 0
  StirsAt Reserved latch at = ⊥
  StirsAt Away latch at = latch at ⊎ gave at Reserve Unknown
  StirsAt (Asking key) latch at = latch at ⊎ gave at (Look key) Unknown

  -- what a call returns after the reply: a message that was sent takes the share along
  abbrev pub Sends : BufferView L → L → MailReply Q F E → ResponseState L F (Error E) → BufferView L → Type 0
  Sends old share (Sent id) future new = (future ≡ IsSent share id) × (new ≡ record { latch = old.latch; reservation = Away; share = None })
  Sends old share (Failed e) future new = (future ≡ Told (Some (failed e))) × (new ≡ record old { reservation = Away })
  Sends old share Closed future new = (future ≡ Told (Some IsClosed)) × (new ≡ record old { reservation = Away })
  Sends old share Unknown future new = (future ≡ Told (Some IsClosed)) × (new ≡ record old { reservation = Away })
  Sends old share Memory future new = (future ≡ Told (Some NoMemory)) × (new ≡ old)
  Sends old share _ future new = ⊥

  -- a call: one step, which sends into the reserved place
  pub record Called (old : BufferView L) (request : Q) (future : ResponseState L F (Error E)) (new : BufferView L) : Type 0 where
    pub reserved : old.reservation ≡ Reserved
    pub share : L
    pub has : old.share ≡ Some share
    pub reply : MailReply Q F E
    pub gave_reply : gave old.latch (Send request) reply
    pub sends : Sends old share reply future new

-- the inner future's result, whose error becomes `Inner`
abbrev pub outward : {A E : Type 0} → Poll (Result A E) → Poll (Result A (Error E))
outward (Ready (Ok x)) = Ready (Ok x)
outward (Ready (Err e)) = Ready (Err (Inner e))
outward Pending = Pending

-- one poll of the inner future
abbrev pub Carries : {F E A : Type 0} → (F → Poll (Result A E) → F → Type 0) → F → Poll (Result A (Error E)) → F → Type 0
Carries {E = E} {A = A} stepped old answer new = (inner : Poll (Result A E)) × stepped old inner new × (answer ≡ outward inner)

module _ {L Q F E A : Type 0} (gave : L → MailStep Q F E → MailReply Q F E → Type 0) (stepped : F → Poll (Result A E) → F → Type 0) where
  -- what a poll of the response returns after the reply to `Outcome`, and the state that it leaves; a future that came is polled at once
  abbrev pub Tells : L → ℕ → MailReply Q F E → Poll (Result A (Error E)) → ResponseState L F (Error E) → Type 0
  Tells latch id (Waiting again) answer new = (answer ≡ Pending) × (new ≡ IsSent latch id)
  Tells latch id Unknown answer new = (answer ≡ Pending) × (new ≡ IsSent latch id)
  Tells latch id (Future future) answer new = (left : F) × Carries stepped future answer left × (new ≡ Polls left)
  Tells latch id (Failed e) answer new = (answer ≡ Ready (Err (failed e))) × (new ≡ Told None)
  Tells latch id Lost answer new = (answer ≡ Ready (Err IsClosed)) × (new ≡ Told None)
  Tells latch id Memory answer new = (answer ≡ Ready (Err NoMemory)) × (new ≡ IsSent latch id)
  Tells latch id _ answer new = ⊥

  -- a poll of the response: it returns the error of the call, or requests the outcome by one step, or polls the inner future once
  abbrev pub Stepped : ResponseState L F (Error E) → Poll (Result A (Error E)) → ResponseState L F (Error E) → Type 0
  Stepped (Told (Some error)) answer new = (answer ≡ Ready (Err error)) × (new ≡ Told None)
  Stepped (Told None) answer new = ⊥
  Stepped (IsSent latch id) answer new = (reply : MailReply Q F E) × gave latch (Outcome id) reply × Tells latch id reply answer new
  Stepped (Polls future) answer new = (left : F) × Carries stepped future answer left × (new ≡ Polls left)

  -- Why a poll of the response may ask for another: until its outcome is there, the latch's causes, and mail that doesn't know its message (a
  -- `MailCore` knows it); and then the inner future's, that came in this poll or before.
  abbrev pub Stirs : (L → Type 0) → (F → F → Type 0) → ResponseState L F (Error E) → ResponseState L F (Error E) → Type 0
  Stirs latch inner (Told error) new = ⊥
  Stirs latch inner (IsSent at id) new = latch at ⊎ gave at (Outcome id) Unknown
      ⊎ ((future : F) × (left : F) × gave at (Outcome id) (Future future) × (new ≡ Polls left) × inner future left)
  Stirs latch inner (Polls future) new = (left : F) × (new ≡ Polls left) × inner future left

-- whether a response may be polled: it has an error to return, or waits for its outcome, or its inner future may be polled
abbrev pub CanPoll : {L F E : Type 0} → (F → Type 0) → ResponseState L F (Error E) → Type 0
CanPoll can_poll (Told (Some error)) = Unit {0}
CanPoll can_poll (Told None) = ⊥
CanPoll can_poll (IsSent latch id) = Unit {0}
CanPoll can_poll (Polls future) = can_poll future

-- the sources that a response waits for: those of its latch until its outcome is there, and then those of its inner future
abbrev pub Needs : {L F E : Type 0} → (L → ℕ → Type 0) → (F → ℕ → Type 0) → ResponseState L F E → ℕ → Type 0
Needs source needs (IsSent latch id) = source latch
Needs source needs (Polls future) = needs future
Needs source needs (Told error) = λ source. ⊥

-- A `Buffer` that is dropped cancels its wait or gives its place back, by one step.
abbrev pub GivesUp : {L Q F E : Type 0} → (L → MailStep Q F E → MailReply Q F E → Type 0) → L → Reservation → Type 0
GivesUp gave latch Away = Unit {0}
GivesUp {Q = Q} {F = F} {E = E} gave latch (Asking key) = (reply : MailReply Q F E) × gave latch (Cancel key) reply
GivesUp {Q = Q} {F = F} {E = E} gave latch Reserved = (reply : MailReply Q F E) × gave latch Unreserve reply

-- If a response is dropped before its outcome came, the mail forgets its message, by one step.
abbrev pub Forgets : {L Q F E X : Type 0} → (L → MailStep Q F E → MailReply Q F E → Type 0) → ResponseState L X (Error E) → Type 0
Forgets {Q = Q} {F = F} {E = E} gave (IsSent latch id) = (reply : MailReply Q F E) × gave latch (Forget id) reply
Forgets gave _ = Unit {0}

-- a clone: over a share that its latch created, with one `Buffer` more counted, and without a place, a wait or a kept share
pub record IsClone {L Q F E : Type 0} (gave : L → MailStep Q F E → MailReply Q F E → Type 0) (shares : L → Result L AllocError → Type 0) (old copy : BufferView L) : Type 0 where
  pub shared : shares old.latch (Ok copy.latch)
  pub latch : (step : MailStep Q F E) (reply : MailReply Q F E) → gave copy.latch step reply → gave old.latch step reply
  pub joined : gave old.latch Join Done
  pub away : copy ≡ record { latch = copy.latch; reservation = Away; share = None }

-- a clone that fails: the latch refuses the share; or the mail, which is unchanged, can't count another `Buffer`
abbrev pub CloneRefused : {L Q F E : Type 0} → (L → MailStep Q F E → MailReply Q F E → Type 0) → (L → Result L AllocError → Type 0) → BufferView L → AllocError → Type 0
CloneRefused {L = L} gave shares old error = shares old.latch (Err error) ⊎ ((share : L) × shares old.latch (Ok share) × gave old.latch Join Memory)
