-- Mail as plain lists: every message in the order of sending, and the line for places.
use Rattle.std.specs.Prelude.{◌≡◌, ◌≢◌, ◌⊎◌, ◌<◌, ◌≤◌, ◌+◌, ◌-◌, ◌^◌, ℕ, zero, suc, Bool, true, false, nat_eq, ◌&&◌, ◌||◌, if◌then◌else◌, unwrap_or, is_some, Option, Some, None, List, [], ◌∷◌, ◌++◌, slice_get, slice_set}
use Rattle.tower_limit.specs.Line.{Ticket, Steps}
use Rattle.tower_limit.specs.declared.limit.concurrency.line_core.LineStep.TheVariants.{Join as AskPlace, Look as SeePlace, Cancel as LeaveLine, Release}
use Rattle.tower_limit.specs.declared.limit.concurrency.line_core.LineReply.TheVariants.{Granted, Waiting as Waits, Left, Unknown as NoTicket}
use Rattle.tower_buffer.specs.declared.buffer.message.Fate.{Fate}
use Rattle.tower_buffer.specs.declared.buffer.message.Fate.TheVariants.{Open, Answered, Failed as HasFailed, Cancelled, Lost as WasLost}
use Rattle.tower_buffer.specs.declared.buffer.mail.MailStep.{MailStep}
use Rattle.tower_buffer.specs.declared.buffer.mail.MailStep.TheVariants.{Join, Part, Reserve, Look, Cancel, Unreserve, Send, Take, Live, Answer, Fail, FailStored, Outcome, Forget, WorkerGone}
use Rattle.tower_buffer.specs.declared.buffer.mail.MailReply.{MailReply}
use Rattle.tower_buffer.specs.declared.buffer.mail.MailReply.TheVariants.{Done, Place, Waiting, Memory, Failed, Closed, Sent, Message, Cleared, Empty, End, Truth, Back, Future, Lost, Unknown}

-- A message that still has its id. It has its request while it is queued.
pub record SentMessage (Q F : Type 0) : Type 0 where
  pub id : ℕ
  pub request : Option Q
  pub fate : Fate F

-- A message that was sent. Either it still has its id, and its request while it is queued, or it is gone, and what became of it is kept.
pub data Entry (Q F : Type 0) : Type 0 where
  here : SentMessage Q F → Entry Q F
  gone : Fate F → Entry Q F

-- The line is that of permits. Its tickets are the waiters, and the holders of the places, which are the reserved places and the queued messages.
-- `reserved` counts the reserved places, `stored` is the first error of the service, and `buffers` counts the `Buffer`s.
pub record Mail (Q F E : Type 0) : Type 0 where
  pub bound : ℕ
  pub messages : List (Entry Q F)
  pub line : List Ticket
  pub reserved : ℕ
  pub stored : Option E
  pub is_closed : Bool
  pub buffers : ℕ
  pub has_worker : Bool

-- mail of one `Buffer` and its worker, before any step
abbrev pub initial : {Q F E : Type 0} → ℕ → Mail Q F E
initial bound = record { bound = bound; messages = []; line = []; reserved = 0; stored = None; is_closed = false; buffers = 1; has_worker = true }

-- the line once nobody waits
abbrev pub holding : List Ticket → List Ticket
holding [] = []
holding (Ticket.held ∷ line) = Ticket.held ∷ holding line
holding (Ticket.waits key ∷ line) = holding line

-- This many holders leave the line, one after another.
abbrev pub Leave : ℕ → ℕ → List Ticket → List Ticket → Type 0
Leave max zero old new = new ≡ old
Leave max (suc n) old new = (mid : List Ticket) × Steps max old Release Left mid × Leave max n mid new

module _ {Q F : Type 0} where
  -- This message, which still has its id, stands at that place.
  abbrev pub At : List (Entry Q F) → ℕ → SentMessage Q F → Type 0
  At messages place item = slice_get messages place ≡ Some (Entry.here item)

  -- No message of which P holds has this id.
  abbrev pub NoneWith : (SentMessage Q F → Type 0) → List (Entry Q F) → ℕ → Type 0
  NoneWith P messages id = (place : ℕ) (item : SentMessage Q F) → At messages place item → item.id ≡ id → ¬ (P item)

  -- The worker has the message, and it has no outcome, or nobody waits for it.
  abbrev pub IsTaken : SentMessage Q F → Type 0
  IsTaken item = (item.request ≡ None) × ((item.fate ≡ Open) ⊎ (item.fate ≡ Cancelled))

  -- This message, which was taken and has the id, stands at that place.
  abbrev pub TakenAt : List (Entry Q F) → ℕ → ℕ → SentMessage Q F → Type 0
  TakenAt messages id place item = At messages place item × (item.id ≡ id) × (item.request ≡ None)

  -- A taken message with the id gets an outcome, which it keeps. If nobody waits for it, it is gone.
  abbrev pub Settles : Fate F → List (Entry Q F) → ℕ → List (Entry Q F) → Type 0
  Settles fate old id new = (place : ℕ) × (item : SentMessage Q F) × TakenAt old id place item
      × (((item.fate ≡ Open) × (new ≡ slice_set old place (Entry.here (record item { fate = fate }))))
      ⊎ ((item.fate ≡ Cancelled) × (new ≡ slice_set old place (Entry.gone Cancelled))))

  -- The oldest queued message stands at that place.
  abbrev pub OldestAt : List (Entry Q F) → ℕ → SentMessage Q F → Q → Type 0
  OldestAt messages place item request = At messages place item × (item.request ≡ Some request)
      × ((before : ℕ) (other : SentMessage Q F) → before < place → At messages before other → other.request ≡ None)

  -- No message is queued.
  abbrev pub NoneQueued : List (Entry Q F) → Type 0
  NoneQueued messages = (place : ℕ) (item : SentMessage Q F) → At messages place item → item.request ≡ None

  -- what the worker leaves when it is gone: a message without an outcome is lost, and one that nobody waits for is gone
  abbrev pub left_by : SentMessage Q F → Fate F → Entry Q F
  left_by item Open = Entry.here (record { id = item.id; request = None; fate = WasLost })
  left_by item Cancelled = Entry.gone Cancelled
  left_by item _ = Entry.here item

  abbrev pub abandoned : List (Entry Q F) → List (Entry Q F)
  abandoned [] = []
  abandoned (Entry.gone fate ∷ rest) = Entry.gone fate ∷ abandoned rest
  abandoned (Entry.here item ∷ rest) = left_by item item.fate ∷ abandoned rest

  -- how many messages are queued
  abbrev pub queued : List (Entry Q F) → ℕ
  queued [] = 0
  queued (Entry.gone fate ∷ rest) = queued rest
  queued (Entry.here item ∷ rest) = (if is_some item.request then 1 else 0) + queued rest

module _ {Q F E : Type 0} where
  -- The reply of closed mail: the stored error, or `Closed` if there is none. It is `Memory` if allocation of the error's clone fails.
  abbrev pub Tells : Option E → MailReply Q F E → Type 0
  Tells (Some e) (Failed f) = f ≡ e
  Tells (Some e) Memory = Unit {0}
  Tells None Closed = Unit {0}
  Tells _ _ = ⊥

  -- whether no message will be queued any more: no place is reserved, and the mail is closed or no `Buffer` is left
  abbrev pub is_over : Mail Q F E → Bool
  is_over mail = nat_eq mail.reserved 0 && (mail.is_closed || nat_eq mail.buffers 0)

  -- The oldest queued message, which nobody waits for, leaves its place and is gone.
  abbrev pub ClearsOldest : Mail Q F E → Mail Q F E → Type 0
  ClearsOldest old new = (place : ℕ) × (item : SentMessage Q F) × (request : Q) × OldestAt old.messages place item request × (item.fate ≡ Cancelled)
      × Steps old.bound old.line Release Left new.line
      × (new ≡ record old { line = new.line; messages = slice_set old.messages place (Entry.gone Cancelled) })

  -- This many such messages leave, one after another.
  abbrev pub Clears : ℕ → Mail Q F E → Mail Q F E → Type 0
  Clears zero old new = new ≡ old
  Clears (suc n) old new = (mid : Mail Q F E) × Clears n old mid × ClearsOldest mid new

  -- The oldest queued message, which somebody waits for, leaves its place with its request.
  abbrev pub TakesOldest : Mail Q F E → ℕ → Q → Mail Q F E → Type 0
  TakesOldest old id request new = (place : ℕ) × (item : SentMessage Q F) × OldestAt old.messages place item request × (item.fate ≡ Open) × (item.id ≡ id)
      × Steps old.bound old.line Release Left new.line
      × (new ≡ record old { line = new.line; messages = slice_set old.messages place (Entry.here (record item { request = None })) })

  -- The mail's machine: the step may give this reply and leave the new mail.
  abbrev pub MailSteps : Mail Q F E → MailStep Q F E → MailReply Q F E → Mail Q F E → Type 0
  MailSteps old Join Done new = new ≡ record old { buffers = old.buffers + 1 }
  MailSteps old Join Memory new = (2 ^ 64 ≤ old.buffers + 1) × (new ≡ old)
  MailSteps old Part Done new = (0 < old.buffers) × (new ≡ record old { buffers = old.buffers - 1 })
  MailSteps old Part Unknown new = (old.buffers ≡ 0) × (new ≡ old)
  -- A place below the bound is free, or the caller waits. Closed mail replies that it is closed.
  MailSteps old Reserve Place new = (old.is_closed ≡ false) × Steps old.bound old.line AskPlace Granted new.line
      × (new ≡ record old { line = new.line; reserved = old.reserved + 1 })
  MailSteps old Reserve (Waiting key) new = (old.is_closed ≡ false) × Steps old.bound old.line AskPlace (Waits key) new.line × (new ≡ record old { line = new.line })
  MailSteps old Reserve Memory new = ((old.is_closed ≡ false) ⊎ ((old.is_closed ≡ true) × Tells old.stored Memory)) × (new ≡ old)
  MailSteps old Reserve (Failed e) new = (old.is_closed ≡ true) × Tells old.stored (Failed e) × (new ≡ old)
  MailSteps old Reserve Closed new = (old.is_closed ≡ true) × Tells old.stored Closed × (new ≡ old)
  -- A waiter that looks and has a place reserves it, and its key ends. In closed mail no key waits.
  MailSteps old (Look key) Place new = (old.is_closed ≡ false) × Steps old.bound old.line (SeePlace key) Granted new.line
      × (new ≡ record old { line = new.line; reserved = old.reserved + 1 })
  MailSteps old (Look key) (Waiting again) new = (old.is_closed ≡ false) × Steps old.bound old.line (SeePlace key) (Waits again) new.line × (new ≡ old)
  MailSteps old (Look key) Unknown new = (old.is_closed ≡ false) × Steps old.bound old.line (SeePlace key) NoTicket new.line × (new ≡ old)
  MailSteps old (Look key) Memory new = (old.is_closed ≡ true) × Tells old.stored Memory × (new ≡ old)
  MailSteps old (Look key) (Failed e) new = (old.is_closed ≡ true) × Tells old.stored (Failed e) × (new ≡ old)
  MailSteps old (Look key) Closed new = (old.is_closed ≡ true) × Tells old.stored Closed × (new ≡ old)
  -- A waiter leaves the line, with or without a place. A reserved place is given back.
  MailSteps old (Cancel key) Done new = ((old.is_closed ≡ true) × (new ≡ old))
      ⊎ ((old.is_closed ≡ false) × Steps old.bound old.line (LeaveLine key) Left new.line × (new ≡ record old { line = new.line }))
  MailSteps old (Cancel key) Unknown new = (old.is_closed ≡ false) × Steps old.bound old.line (LeaveLine key) NoTicket new.line × (new ≡ old)
  MailSteps old Unreserve Done new = (0 < old.reserved) × Steps old.bound old.line Release Left new.line
      × (new ≡ record old { line = new.line; reserved = old.reserved - 1 })
  MailSteps old Unreserve Unknown new = (old.reserved ≡ 0) × (new ≡ old)
  -- The reserved place becomes the message's. If the worker is gone, the place is given back, unless a clone of the stored error is refused.
  MailSteps old (Send request) (Sent id) new = (0 < old.reserved) × (old.has_worker ≡ true) × NoneWith (λ item. Unit {0}) old.messages id
      × (new ≡ record old { reserved = old.reserved - 1; messages = old.messages ++ Entry.here (record { id = id; request = Some request; fate = Open }) ∷ [] })
  MailSteps old (Send request) (Failed e) new = (0 < old.reserved) × (old.has_worker ≡ false) × Tells old.stored (Failed e)
      × Steps old.bound old.line Release Left new.line × (new ≡ record old { line = new.line; reserved = old.reserved - 1 })
  MailSteps old (Send request) Closed new = (0 < old.reserved) × (old.has_worker ≡ false) × Tells old.stored Closed
      × Steps old.bound old.line Release Left new.line × (new ≡ record old { line = new.line; reserved = old.reserved - 1 })
  MailSteps old (Send request) Memory new = (0 < old.reserved) × (old.has_worker ≡ false) × Tells old.stored Memory × (new ≡ old)
  MailSteps old (Send request) Unknown new = (old.reserved ≡ 0) × (new ≡ old)
  -- The oldest queued message that somebody waits for leaves its place, and so do those before it, which nobody waits for.
  MailSteps old Take (Message id request) new = (n : ℕ) × (mid : Mail Q F E) × Clears n old mid × TakesOldest mid id request new
  MailSteps old Take Cleared new = (n : ℕ) × Clears (suc n) old new × NoneQueued new.messages
  MailSteps old Take Empty new = NoneQueued old.messages × (is_over old ≡ false) × (new ≡ old)
  MailSteps old Take End new = NoneQueued old.messages × (is_over old ≡ true) × (new ≡ old)
  -- A taken message that nobody waits for is gone.
  MailSteps old (Live id) (Truth true) new = (place : ℕ) × (item : SentMessage Q F) × TakenAt old.messages id place item × (item.fate ≡ Open) × (new ≡ old)
  MailSteps old (Live id) (Truth false) new = (place : ℕ) × (item : SentMessage Q F) × TakenAt old.messages id place item × (item.fate ≡ Cancelled)
      × (new ≡ record old { messages = slice_set old.messages place (Entry.gone Cancelled) })
  MailSteps old (Live id) Unknown new = NoneWith IsTaken old.messages id × (new ≡ old)
  MailSteps old (Answer id future) Done new = (place : ℕ) × (item : SentMessage Q F) × TakenAt old.messages id place item × (item.fate ≡ Open)
      × (new ≡ record old { messages = slice_set old.messages place (Entry.here (record item { fate = Answered future })) })
  MailSteps old (Answer id future) (Back back) new = (place : ℕ) × (item : SentMessage Q F) × TakenAt old.messages id place item × (item.fate ≡ Cancelled)
      × (back ≡ future) × (new ≡ record old { messages = slice_set old.messages place (Entry.gone Cancelled) })
  MailSteps old (Answer id future) Unknown new = NoneWith IsTaken old.messages id × (new ≡ old)
  -- The first error is stored, whether anybody waits for this message or not, and the mail is closed.
  MailSteps old (Fail id e) Done new = Settles HasFailed old.messages id new.messages
      × (new ≡ record old { messages = new.messages; line = holding old.line; is_closed = true; stored = Some (unwrap_or old.stored e) })
  MailSteps old (Fail id e) Unknown new = NoneWith IsTaken old.messages id × (new ≡ old)
  MailSteps old (FailStored id) Done new = (is_some old.stored ≡ true) × Settles HasFailed old.messages id new.messages × (new ≡ record old { messages = new.messages })
  MailSteps old (FailStored id) Unknown new = ((old.stored ≡ None) ⊎ NoneWith IsTaken old.messages id) × (new ≡ old)
  -- An outcome is returned, and the message is gone. If a clone of the stored error is refused (`Memory`), the message stays.
  MailSteps old (Outcome id) (Waiting again) new = (place : ℕ) × (item : SentMessage Q F) × At old.messages place item × (item.id ≡ id) × (item.fate ≡ Open)
      × (again ≡ id) × (new ≡ old)
  MailSteps old (Outcome id) (Future future) new = (place : ℕ) × (item : SentMessage Q F) × At old.messages place item × (item.id ≡ id) × (item.fate ≡ Answered future)
      × (new ≡ record old { messages = slice_set old.messages place (Entry.gone item.fate) })
  MailSteps old (Outcome id) (Failed e) new = (place : ℕ) × (item : SentMessage Q F) × At old.messages place item × (item.id ≡ id) × (item.fate ≡ HasFailed)
      × (old.stored ≡ Some e) × (new ≡ record old { messages = slice_set old.messages place (Entry.gone item.fate) })
  MailSteps old (Outcome id) Memory new = (place : ℕ) × (item : SentMessage Q F) × At old.messages place item × (item.id ≡ id) × (item.fate ≡ HasFailed) × (new ≡ old)
  MailSteps old (Outcome id) Lost new = (place : ℕ) × (item : SentMessage Q F) × At old.messages place item × (item.id ≡ id) × (item.fate ≡ WasLost)
      × (new ≡ record old { messages = slice_set old.messages place (Entry.gone item.fate) })
  MailSteps old (Outcome id) Unknown new = NoneWith (λ item. item.fate ≢ Cancelled) old.messages id × (new ≡ old)
  -- A message without an outcome is cancelled. Any other is gone, and keeps its outcome.
  MailSteps old (Forget id) Done new = (place : ℕ) × (item : SentMessage Q F) × At old.messages place item × (item.id ≡ id)
      × (((item.fate ≡ Open) × (new ≡ record old { messages = slice_set old.messages place (Entry.here (record item { fate = Cancelled })) }))
      ⊎ ((item.fate ≢ Open) × (item.fate ≢ Cancelled) × (new ≡ record old { messages = slice_set old.messages place (Entry.gone item.fate) })))
  MailSteps old (Forget id) Unknown new = NoneWith (λ item. item.fate ≢ Cancelled) old.messages id × (new ≡ old)
  -- The mail is closed, and each queued message leaves its place.
  MailSteps old WorkerGone Done new = Leave old.bound (queued old.messages) (holding old.line) new.line
      × (new ≡ record old { line = new.line; messages = abandoned old.messages; is_closed = true; has_worker = false })
  -- No other reply is given.
  MailSteps old _ _ new = ⊥

  -- whether the reply requires its caller to ask again
  abbrev pub is_waiting : MailReply Q F E → Bool
  is_waiting (Waiting key) = true
  is_waiting Empty = true
  is_waiting _ = false
