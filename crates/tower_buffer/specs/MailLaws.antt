-- What holds of every list of steps that mail makes.
use Rattle.std.specs.Prelude.{◌≡◌, ◌⊎◌, ◌<◌, ℕ, suc, true, unwrap_or, Option, Some, None, List, slice_get}
use Rattle.tower_latch.specs.Latch.{Serves}
use Rattle.tower_buffer.specs.Mail.{At, Entry, SentMessage, Mail, MailSteps, Settles}
use Rattle.tower_buffer.specs.declared.buffer.message.Fate.{Fate}
use Rattle.tower_buffer.specs.declared.buffer.message.Fate.TheVariants.{Open, Failed}
use Rattle.tower_buffer.specs.declared.buffer.mail.MailStep.{MailStep}
use Rattle.tower_buffer.specs.declared.buffer.mail.MailStep.TheVariants.{Fail, Take}
use Rattle.tower_buffer.specs.declared.buffer.mail.MailReply.{MailReply}
use Rattle.tower_buffer.specs.declared.buffer.mail.MailReply.TheVariants.{Done, Message}

module _ {Q F : Type 0} where
  -- what became of a message so far
  abbrev pub fate_of : Entry Q F → Fate F
  fate_of (Entry.here item) = item.fate
  fate_of (Entry.gone fate) = fate

  -- its request, while it is queued
  abbrev pub request_of : Entry Q F → Option Q
  request_of (Entry.here item) = item.request
  request_of (Entry.gone fate) = None

  -- An outcome is kept, and a message that has left the queue stays out of it.
  pub record Lasts (old new : Entry Q F) : Type 0 where
    pub outcome : (fate_of old ≡ Open) ⊎ (fate_of new ≡ fate_of old)
    pub out : (request_of new ≡ None) ⊎ (request_of new ≡ request_of old)

  -- Each message still has its place in the order of sending, and lasts.
  abbrev pub Grow : List (Entry Q F) → List (Entry Q F) → Type 0
  Grow old new = (place : ℕ) (entry : Entry Q F) → slice_get old place ≡ Some entry → (after : Entry Q F) × (slice_get new place ≡ Some after) × Lasts entry after

-- Each message has at most one outcome, and is taken at most once.
abbrev pub EachOnce : (Q F E : Type 0) → Type 0
EachOnce Q F E = (old new : Mail Q F E) (steps : List (MailStep Q F E × MailReply Q F E)) → Serves MailSteps old steps new → Grow old.messages new.messages

-- A message that is taken leaves the queue, where no older message is queued.
abbrev pub InOrder : (Q F E : Type 0) → Type 0
InOrder Q F E = (old new : Mail Q F E) (id : ℕ) (request : Q) → MailSteps old Take (Message id request) new
    → (place : ℕ) × (item : SentMessage Q F) × At new.messages place item × (item.id ≡ id)
    × ((before : ℕ) (other : SentMessage Q F) → before < suc place → At new.messages before other → other.request ≡ None)

-- A failure stores the first error, closes the mail, and fails its message unless nobody waits for it, in one step.
abbrev pub FailsAtOnce : (Q F E : Type 0) → Type 0
FailsAtOnce Q F E = (old new : Mail Q F E) (id : ℕ) (e : E) → MailSteps old (Fail id e) Done new
    → (new.stored ≡ Some (unwrap_or old.stored e)) × (new.is_closed ≡ true) × Settles Failed old.messages id new.messages

-- Closed mail stays closed, and the first stored error stays.
abbrev pub StaysShut : (Q F E : Type 0) → Type 0
StaysShut Q F E = (old new : Mail Q F E) (steps : List (MailStep Q F E × MailReply Q F E)) → Serves MailSteps old steps new
    → (old.is_closed ≡ true → new.is_closed ≡ true) × ((e : E) → old.stored ≡ Some e → new.stored ≡ Some e)
