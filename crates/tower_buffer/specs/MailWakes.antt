-- Who waits in mail, and for what.
use Rattle.std.specs.Prelude.{◌≡◌, ◌≢◌, ◌⊎◌, ◌≤◌, ◌+◌, ◌^◌, ◌-◌, ◌&&◌, ◌||◌, ℕ, Bool, true, false, nat_eq, List, Option, Some}
use Rattle.slab.specs.Slab.{get}
use Rattle.tower_base.specs.Order.{has}
use Rattle.tower_latch.specs.WaitQueue.{stalls as queue_stalls}
use Rattle.tower_latch.specs.Wakes.{IsNamed}
use Rattle.tower_latch.specs.declared.wait_queue.WaitQueue.{WaitQueue}
use Rattle.tower_latch.specs.declared.Wakes.{Wakes}
use Rattle.tower_latch.specs.declared.Wakes.TheVariants.{Wait, One, Unstalled, All}
use Rattle.tower_buffer.specs.Mail.{At, Entry, SentMessage}
use Rattle.tower_buffer.specs.MailKeys.{response_key, shared_from, ticket_key}
use Rattle.tower_buffer.specs.MessageSteps.{queued}
use Rattle.tower_buffer.specs.declared.buffer.mailbox.Mailbox.{Mailbox}
use Rattle.tower_buffer.specs.declared.buffer.mail.MailStep.{MailStep}
use Rattle.tower_buffer.specs.declared.buffer.mail.MailStep.TheVariants.{Answer, Cancel, Fail, FailStored, Forget, Send, Take, Unreserve, WorkerGone}
use Rattle.tower_buffer.specs.declared.buffer.mail.MailReply.{MailReply}
use Rattle.tower_buffer.specs.declared.buffer.mail.MailReply.TheVariants.{Done}
use Rattle.tower_buffer.specs.declared.buffer.message.Message.{Message}
use Rattle.tower_buffer.specs.declared.buffer.message.Fate.TheVariants.{Open}

-- Who waits in mail: the worker, a ticket for its place, and a response for its outcome.
pub data Waiter : Type 0 where
  worker : Waiter
  ticket : ℕ → Waiter
  response : ℕ → Waiter

-- the key at which it waits
abbrev pub key_at : Waiter → ℕ
key_at Waiter.worker = 0
key_at (Waiter.ticket key) = ticket_key key
key_at (Waiter.response id) = response_key id

-- The waiter would still be told to wait, by the number of queued messages, whether none will follow (`over`), whether the mail is closed, the keys
-- of the tickets that wait (`order`), and the messages that are kept under their ids. Closed mail tells no ticket to wait.
abbrev pub StallsAt : {Q F : Type 0} → ℕ → Bool → Bool → List ℕ → (ℕ → Option (Message Q F)) → Waiter → Type 0
StallsAt messages over closed order kept Waiter.worker = (messages ≡ 0) × (over ≡ false)
StallsAt messages over closed order kept (Waiter.ticket key) = (closed ≡ false) × (has order key ≡ true)
StallsAt {Q} {F} messages over closed order kept (Waiter.response id) = (message : Message Q F) × (kept id ≡ Some message) × (message.fate ≡ Open)

module _ {Q F E : Type 0} where
  -- whether no message will be queued any more
  abbrev pub is_over : Mailbox Q F E → Bool
  is_over box = nat_eq box.reserved 0 && (box.closed || nat_eq box.buffers 0)

  -- This waiter would still be told to wait.
  abbrev pub Stalls : Mailbox Q F E → Waiter → Type 0
  Stalls box = StallsAt (queued box.messages) (is_over box) box.closed box.queue.waiters.order (get box.messages.links.entries)

  -- Whoever waits at this key would still be told to wait.
  abbrev pub stalls : Mailbox Q F E → ℕ → Type 0
  stalls box key = (waiter : Waiter) × (key_at waiter ≡ key) × Stalls box waiter

  -- The worker, if it would be told to wait, still would be, or is named.
  abbrev pub NamesWorker : Mailbox Q F E → Mailbox Q F E → Wakes → Type 0
  NamesWorker old new wakes = Stalls old Waiter.worker → Stalls new Waiter.worker ⊎ IsNamed wakes 0

  -- Each ticket that would be told to wait still would be, or is named.
  abbrev pub NamesTickets : Mailbox Q F E → Mailbox Q F E → Wakes → Type 0
  NamesTickets old new wakes = (key : ℕ) → Stalls old (Waiter.ticket key) → Stalls new (Waiter.ticket key) ⊎ IsNamed wakes (ticket_key key)

  -- If the caller waits, its key stalls.
  abbrev pub WaitsWell : Mailbox Q F E → Wakes → Type 0
  WaitsWell new wakes = (key : ℕ) → wakes ≡ Wait key → stalls new key

  -- The worker, and each ticket, that would be told to wait still would be, or is named.
  abbrev pub NamesPlaces : Mailbox Q F E → Mailbox Q F E → Wakes → Type 0
  NamesPlaces old new wakes = NamesWorker old new wakes × NamesTickets old new wakes

-- If `One` key is named, it is that of a ticket, which has the key alone and no longer waits.
abbrev pub TicketGoesOn : WaitQueue → Wakes → Type 0
TicketGoesOn queue wakes = (key : ℕ) → wakes ≡ One key → (at : ℕ) × (ticket_key at ≢ 2 ^ 64 - 1) × (ticket_key at ≡ key) × ¬ (queue_stalls queue at)

module _ {Q F : Type 0} where
  -- The response of this message waits for its outcome.
  abbrev pub Awaits : List (Entry Q F) → ℕ → Type 0
  Awaits messages id = (place : ℕ) × (item : SentMessage Q F) × At messages place item × (item.id ≡ id) × (item.fate ≡ Open)

module _ {Q F E : Type 0} where
  -- The step decides what becomes of this message, or reports that nobody waits for it.
  abbrev pub Decides : MailStep Q F E → MailReply Q F E → ℕ → Type 0
  Decides (Answer other future) Done id = other ≡ id
  Decides (FailStored other) Done id = other ≡ id
  Decides (Forget other) Done id = other ≡ id
  Decides (Fail other e) Done id = other ≡ id
  Decides WorkerGone Done id = Unit {0}
  Decides _ _ id = ⊥

-- A ticket waits whose key others share.
abbrev pub SharesKey : WaitQueue → Type 0
SharesKey queue = (key : ℕ) × (shared_from ≤ key) × queue_stalls queue key

-- At most one ticket is named: by its key, or, only if a ticket waits whose key others share, as all who no longer stall.
abbrev pub NamesOneTicket : WaitQueue → Wakes → Type 0
NamesOneTicket queue wakes = (wakes ≡ All → ⊥) × (wakes ≡ Unstalled → SharesKey queue)

module _ {Q F E : Type 0} where
  -- The step may end several waits, or one at a key that others share. A failure closes the mail. If several messages leave the queue, each may give
  -- its place to a ticket. A place that is given back may go to a ticket, and the worker goes on if no message will be queued any more; so does a place
  -- whose message is refused, since the worker is gone.
  abbrev pub EndsSeveral : Mailbox Q F E → MailStep Q F E → MailReply Q F E → Mailbox Q F E → Type 0
  EndsSeveral old (Fail id e) reply new = reply ≡ Done
  EndsSeveral old Take reply new = (queued new.messages + 2 ≤ queued old.messages) ⊎ SharesKey old.queue
  EndsSeveral old Unreserve reply new = (is_over new ≡ true) ⊎ SharesKey old.queue
  EndsSeveral old (Send request) reply new = (old.has_worker ≡ false) × ((is_over new ≡ true) ⊎ SharesKey old.queue)
  EndsSeveral old (Cancel key) reply new = SharesKey old.queue
  EndsSeveral old (Answer id future) reply new = shared_from ≤ id
  EndsSeveral old (FailStored id) reply new = shared_from ≤ id
  EndsSeveral old (Forget id) reply new = shared_from ≤ id
  EndsSeveral old _ reply new = ⊥

  -- Whom a step names at most: all only if it reports that the worker is gone, and all who no longer stall only if it may end several waits. Any other
  -- step names at most one key.
  abbrev pub NamesAtMost : Mailbox Q F E → MailStep Q F E → MailReply Q F E → Mailbox Q F E → Wakes → Type 0
  NamesAtMost old step reply new wakes = (wakes ≡ All → step ≡ WorkerGone) × (wakes ≡ Unstalled → EndsSeveral old step reply new)
