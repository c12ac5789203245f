-- Which plain mail a `Mailbox` stands for.
use Rattle.std.specs.Prelude.{◌≡◌, ◌<◌, ◌≤◌, ◌+◌, ◌*◌, ℕ, List}
use Rattle.tower_limit.specs.Line.{Ticket}
use Rattle.tower_limit.specs.LineCore.{StandsAt}
use Rattle.tower_latch.specs.WaitQueue.{room, size, touches as queue_touches}
use Rattle.tower_buffer.specs.Mail.{Entry, Mail, MailSteps, initial}
use Rattle.tower_buffer.specs.MessageSteps.{Holds, capacity, len, queued, touches as messages_touches}
use Rattle.tower_buffer.specs.declared.buffer.mail.MailStep.{MailStep}
use Rattle.tower_buffer.specs.declared.buffer.mail.MailStep.TheVariants.{Take, WorkerGone}
use Rattle.tower_buffer.specs.declared.buffer.mail.MailReply.{MailReply}
use Rattle.tower_buffer.specs.declared.buffer.mailbox.Mailbox.{Mailbox}

module _ {Q F E : Type 0} where
  -- how many entries of the wait queue and of the messages were reached so far
  abbrev pub touches : Mailbox Q F E → ℕ
  touches box = queue_touches box.queue + messages_touches box.messages

  -- At most six entries are reached for each message that left the queue.
  abbrev pub FewEach : Mailbox Q F E → Mailbox Q F E → Type 0
  FewEach old new = touches new + 6 * queued new.messages ≤ touches old + 6 * queued old.messages

  -- `Take` reaches at most six entries for each message that leaves the queue. Any other step reaches at most six, except `WorkerGone`. (`Fail`
  -- drops the wait queue with its count, so the touches of that queue before aren't seen.)
  abbrev pub Few : Mailbox Q F E → MailStep Q F E → Mailbox Q F E → Type 0
  Few old Take new = FewEach old new
  Few old WorkerGone new = Unit {0}
  Few old _ new = touches new ≤ touches old + 6

  -- the mail with these messages and this line
  abbrev pub plain_of : Mailbox Q F E → List (Entry Q F) → List Ticket → Mail Q F E
  plain_of box messages line = record {
    bound = box.bound;
    messages = messages;
    line = line;
    reserved = box.reserved;
    stored = box.messages.stored;
    is_closed = box.closed;
    buffers = box.buffers;
    has_worker = box.has_worker;
  }

  -- The line has the same waiters, and its holders are the reserved places and the queued messages.
  abbrev pub HasLine : Mailbox Q F E → List Ticket → Type 0
  HasLine box = StandsAt box.bound (box.reserved + queued box.messages) box.queue

  -- The same messages have their ids, and all else is as in the box.
  abbrev pub StandsFor : Mailbox Q F E → Mail Q F E → Type 0
  StandsFor box mail = Holds box.messages.links mail.messages × HasLine box mail.line × (mail ≡ plain_of box mail.messages mail.line)

  -- a new box: it stands for initial mail
  abbrev pub Opens : Mailbox Q F E → Type 0
  Opens box = (bound : ℕ) × (0 < bound) × StandsFor box (initial bound)

  -- Each mail that the old box stands for is changed in this way, to one that the new box stands for.
  abbrev pub Changes : (Mail Q F E → Mail Q F E → Type 0) → Mailbox Q F E → Mailbox Q F E → Type 0
  Changes change old new = (messages : List (Entry Q F)) (line : List Ticket) → Holds old.messages.links messages → HasLine old line
      → (left : List (Entry Q F)) × (goes : List Ticket) × change (plain_of old messages line) (plain_of new left goes)
      × Holds new.messages.links left × HasLine new goes

  -- From each mail that the old box stands for, the machine's step leads to one that the new box stands for.
  abbrev pub Follows : Mailbox Q F E → MailStep Q F E → MailReply Q F E → Mailbox Q F E → Type 0
  Follows old step reply new = (messages : List (Entry Q F)) (line : List Ticket) → Holds old.messages.links messages → HasLine old line
      → (left : List (Entry Q F)) × (goes : List Ticket) × MailSteps (plain_of old messages line) step reply (plain_of new left goes)
      × Holds new.messages.links left × HasLine new goes

  -- There is room for a further request for a place: for its message and for its key.
  abbrev pub HasRoom : Mailbox Q F E → Type 0
  HasRoom box = (len box.messages + box.reserved + size box.queue < capacity box.messages) × (size box.queue < room box.queue)
