-- What a closed mail tells.
use Rattle.std.proofs.Common.{◌≡◌, ◌≢◌, ◌<◌, ◌-◌, ℕ, true, false, is_some, slice_set, ap, sym, Option, Some, None, List, refl}
use Rattle.tower_limit.specs.Line.{Ticket, Steps}
use Rattle.tower_limit.specs.declared.limit.concurrency.line_core.LineStep.TheVariants.{Release}
use Rattle.tower_limit.specs.declared.limit.concurrency.line_core.LineReply.TheVariants.{Left}
use Rattle.tower_buffer.specs.Mail.{At, Entry, SentMessage, Mail, MailSteps, Tells}
use Rattle.tower_buffer.specs.declared.buffer.mail.MailStep.TheVariants.{Outcome, Send}
use Rattle.tower_buffer.specs.declared.buffer.message.Fate.TheVariants.{Failed as HasFailed}
use Rattle.tower_buffer.specs.declared.buffer.mail.MailReply.{MailReply}
use Rattle.tower_buffer.specs.declared.buffer.mail.MailReply.TheVariants.{Memory, Failed, Closed}

module _ {Q F E : Type 0} where
  -- it is one of three replies
  abbrev IsTold : MailReply Q F E → Type 0
  IsTold (Failed e) = Unit {0}
  IsTold Closed = Unit {0}
  IsTold Memory = Unit {0}
  IsTold _ = ⊥

  told : (stored : Option E) (reply : MailReply Q F E) → Tells stored reply → IsTold reply
  told None Closed t = tt
  told (Some e) (Failed f) t = tt
  told (Some e) Memory t = tt
  told _ _ t = absurd t

  -- where the worker is gone, a place is used up as the mail tells
  pub refused : (mail : Mail Q F E) (request : Q) (reply : MailReply Q F E) (next : List Ticket) → 0 < mail.reserved → mail.has_worker ≡ false → Tells mail.stored reply
      → reply ≢ Memory → Steps mail.bound mail.line Release Left next
      → MailSteps mail (Send request) reply (record mail { line = next; reserved = mail.reserved - 1 })
  refused mail request (Failed e) next some gone t not leaves = (some, gone, t, leaves, refl)
  refused mail request Closed next some gone t not leaves = (some, gone, t, leaves, refl)
  refused mail request Memory next some gone t not leaves = absurd (not refl)
  refused mail request reply next some gone t not leaves = absurd (told mail.stored reply t)

  told_is : (mail : Mail Q F E) (stored : Option E) (e : E) → Tells {Q = Q} {F = F} stored (Failed e) → stored ≡ Some e
  told_is mail None e t = absurd t
  told_is mail (Some f) e t = ap Some (sym t)

  told_some : (mail : Mail Q F E) (stored : Option E) → is_some stored ≡ true → Tells {Q = Q} {F = F} stored Closed → ⊥
  told_some mail None some t = cc
  told_some mail (Some f) some t = t

  -- where the service failed, the message that asked is gone as the mail tells
  pub told_failure : (mail : Mail Q F E) (id : ℕ) (reply : MailReply Q F E) (spot : ℕ) (item : SentMessage Q F) → At mail.messages spot item → item.id ≡ id
      → item.fate ≡ HasFailed → is_some mail.stored ≡ true → Tells mail.stored reply → reply ≢ Memory
      → MailSteps mail (Outcome id) reply (record mail { messages = slice_set mail.messages spot (Entry.gone item.fate) })
  told_failure mail id (Failed e) spot item at is failed some t not = (spot, item, at, is, failed, told_is mail mail.stored e t, refl)
  told_failure mail id Closed spot item at is failed some t not = absurd (told_some mail mail.stored some t)
  told_failure mail id Memory spot item at is failed some t not = absurd (not refl)
  told_failure mail id reply spot item at is failed some t not = absurd (told mail.stored reply t)
