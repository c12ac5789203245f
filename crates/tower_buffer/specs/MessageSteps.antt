-- What a contract sees of `Messages`, and what its methods do to the messages of plain mail.
use Rattle.std.specs.Prelude.{◌≡◌, ◌≤◌, ◌++◌, ℕ, if◌then◌else◌, is_some, Some, None, List, [], ◌∷◌, length, slice_set}
use Rattle.slab.specs.Slab.{get, slab_len}
use Rattle.tower_base.specs.Links.{LinksView}
use Rattle.tower_buffer.specs.Mail.{At, Entry, SentMessage, Mail, MailSteps, NoneWith, OldestAt}
use Rattle.tower_buffer.specs.declared.buffer.message.Message.{Message}
use Rattle.tower_buffer.specs.declared.buffer.message.Fate.TheVariants.{Open, Cancelled}
use Rattle.tower_buffer.specs.declared.buffer.mail.MailStep.{MailStep}
use Rattle.tower_buffer.specs.declared.buffer.mail.MailReply.{MailReply}
use Rattle.tower_buffer.specs.declared.buffer.messages.Messages.{Messages}

module _ {Q F : Type 0} where
  -- the ids of the queued messages, in the order of sending
  abbrev pub queue : List (Entry Q F) → List ℕ
  queue [] = []
  queue (Entry.gone fate ∷ rest) = queue rest
  queue (Entry.here item ∷ rest) = if is_some item.request then item.id ∷ queue rest else queue rest

  -- the message as it is kept under its id
  abbrev pub kept : SentMessage Q F → Message Q F
  kept item = record { request = item.request; fate = item.fate }

  -- the message that is kept under this id
  abbrev pub known : ℕ → Message Q F → SentMessage Q F
  known id message = record { id = id; request = message.request; fate = message.fate }

  -- Each message that still has its id is kept under it, and nothing else is. No two messages have the same id. The queued messages are linked in
  -- their order.
  pub record Holds (links : LinksView (Message Q F)) (messages : List (Entry Q F)) : Type 0 where
    pub stands : (place : ℕ) (item : SentMessage Q F) → At messages place item → get links.entries item.id ≡ Some (kept item)
    pub sent : (id : ℕ) (message : Message Q F) → get links.entries id ≡ Some message → (place : ℕ) × At messages place (known id message)
    pub once : (place other : ℕ) (item another : SentMessage Q F) → At messages place item → At messages other another → item.id ≡ another.id → place ≡ other
    pub order : links.order ≡ queue messages

module _ {Q F E : Type 0} where
  -- how many messages are queued, how many are kept under their ids, how many fit, and how many entries were reached so far
  abbrev pub queued : Messages Q F E → ℕ
  queued messages = length messages.links.order

  abbrev pub len : Messages Q F E → ℕ
  len messages = slab_len messages.links.entries

  abbrev pub capacity : Messages Q F E → ℕ
  capacity messages = messages.links.entries.capacity

  abbrev pub touches : Messages Q F E → ℕ
  touches messages = messages.links.touches

  -- As many messages are queued, no more are kept, as many fit, and the stored error is the same.
  abbrev pub KeepsRest : Messages Q F E → Messages Q F E → Type 0
  KeepsRest old new = (queued new ≡ queued old) × (len new ≤ len old) × (capacity new ≡ capacity old) × (new.stored ≡ old.stored)

  -- Each list that the old messages stand for is changed in this way, to one that the new messages stand for.
  abbrev pub Becomes : Messages Q F E → (List (Entry Q F) → List (Entry Q F) → Type 0) → Messages Q F E → Type 0
  Becomes old change new = (plain : List (Entry Q F)) → Holds old.links plain → (left : List (Entry Q F)) × change plain left × Holds new.links left

  -- All mail with these messages and this stored error makes the machine's step, which changes only its messages.
  abbrev pub Follows : Messages Q F E → MailStep Q F E → MailReply Q F E → Messages Q F E → Type 0
  Follows old step reply new = (mail : Mail Q F E) → mail.stored ≡ old.stored → Holds old.links mail.messages
      → (left : List (Entry Q F)) × MailSteps mail step reply (record mail { messages = left }) × Holds new.links left

module _ {Q F : Type 0} where
  -- A message is queued behind all others, under an id that no other has.
  abbrev pub Sends : List (Entry Q F) → Q → ℕ → List (Entry Q F) → Type 0
  Sends old request id new = NoneWith (λ item. Unit {0}) old id × (new ≡ old ++ Entry.here (record { id = id; request = Some request; fate = Open }) ∷ [])

  -- The oldest queued message, which nobody waits for, is gone.
  abbrev pub Clears : List (Entry Q F) → List (Entry Q F) → Type 0
  Clears old new = (place : ℕ) × (item : SentMessage Q F) × (request : Q) × OldestAt old place item request × (item.fate ≡ Cancelled)
      × (new ≡ slice_set old place (Entry.gone Cancelled))

  -- The oldest queued message, which somebody waits for, leaves the queue.
  abbrev pub Opens : List (Entry Q F) → ℕ → Q → List (Entry Q F) → Type 0
  Opens old id request new = (place : ℕ) × (item : SentMessage Q F) × OldestAt old place item request × (item.fate ≡ Open) × (item.id ≡ id)
      × (new ≡ slice_set old place (Entry.here (record item { request = None })))
