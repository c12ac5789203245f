-- The keys at which callers wait in mail.
use Rattle.std.specs.Prelude.{◌≡◌, ◌<◌, ◌+◌, ◌-◌, ◌*◌, ◌^◌, ℕ, nat_lt, if◌then◌else◌}
use Rattle.tower_buffer.specs.declared.buffer.mail.MailStep.{MailStep}
use Rattle.tower_buffer.specs.declared.buffer.mail.MailStep.TheVariants.{Look, Outcome, Take}
use Rattle.tower_buffer.specs.declared.buffer.mail.MailReply.{MailReply}
use Rattle.tower_buffer.specs.declared.buffer.mail.MailReply.TheVariants.{Waiting}

-- Every ticket and every message from here on shares one key to wait at. No memory holds so many.
abbrev pub shared_from : ℕ
shared_from = 2 ^ 63 - 1

-- the key at which a ticket waits for its place
abbrev pub ticket_key : ℕ → ℕ
ticket_key key = if nat_lt key shared_from then key * 2 + 1 else 2 ^ 64 - 1

-- the key at which a response waits for its outcome
abbrev pub response_key : ℕ → ℕ
response_key id = if nat_lt id shared_from then id * 2 + 2 else 2 ^ 64 - 1

-- the key at which the caller waits: the worker waits at 0
abbrev pub key_of : {Q F E : Type 0} → MailStep Q F E → MailReply Q F E → ℕ
key_of (Outcome id) reply = response_key id
key_of step (Waiting key) = ticket_key key
key_of step reply = 0

-- The step asks again at this key: for a place, for an outcome, or for a message.
abbrev pub Asks : {Q F E : Type 0} → MailStep Q F E → ℕ → Type 0
Asks (Look key) at = (key < shared_from) × (ticket_key key ≡ at)
Asks (Outcome id) at = (id < shared_from) × (response_key id ≡ at)
Asks Take at = 0 ≡ at
Asks step at = ⊥
