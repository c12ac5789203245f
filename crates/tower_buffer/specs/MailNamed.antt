-- Whom a step of mail wakes.
use Rattle.std.specs.Prelude.{◌≡◌, ◌⊎◌, ◌<◌, ℕ, true}
use Rattle.tower_latch.specs.Latch.{StepsAs}
use Rattle.tower_latch.specs.Wakes.{IsWoken, NamesAll}
use Rattle.tower_latch.specs.declared.Wakes.{Wakes}
use Rattle.tower_buffer.specs.Mail.{MailSteps}
use Rattle.tower_buffer.specs.Mailbox.{StandsFor}
use Rattle.tower_buffer.specs.MailKeys.{response_key, shared_from, ticket_key}
use Rattle.tower_buffer.specs.MailWakes.{Waiter, Decides, Stalls, is_over, stalls}
use Rattle.tower_buffer.specs.declared.buffer.mail.MailStep.{MailStep}
use Rattle.tower_buffer.specs.declared.buffer.mail.MailReply.{MailReply}
use Rattle.tower_buffer.specs.declared.buffer.mail.MailReply.TheVariants.{Sent}
use Rattle.tower_buffer.specs.declared.buffer.mailbox.Mailbox.{Mailbox}

module _ (Q F E : Type 0) where
  -- P holds for each step of mail that names all who no longer stall.
  abbrev pub OfEach : (Mailbox Q F E → MailStep Q F E → MailReply Q F E → Mailbox Q F E → Wakes → Type 0) → Type 0
  OfEach P = (old new : Mailbox Q F E) (step : MailStep Q F E) (reply : MailReply Q F E) (wakes : Wakes) → StepsAs StandsFor MailSteps old step reply new
      → NamesAll stalls old new wakes → P old step reply new wakes

  -- A ticket that waits for a place is woken by the step that frees one for it, or ends its wait.
  abbrev pub TicketsAreNamed : Type 0
  TicketsAreNamed = OfEach (λ old step reply new wakes. (key : ℕ) → key < shared_from → Stalls old (Waiter.ticket key) → ¬ (Stalls new (Waiter.ticket key)) → IsWoken stalls new wakes (ticket_key key))

  -- A response that waits for its outcome is woken by the step that decides it.
  abbrev pub ResponsesAreNamed : Type 0
  ResponsesAreNamed = OfEach (λ old step reply new wakes. (id : ℕ) → id < shared_from → Stalls old (Waiter.response id) → Decides step reply id → IsWoken stalls new wakes (response_key id))

  -- A worker that waits for a message is woken by a `Send`, and by the step that ends the mail.
  abbrev pub WorkerIsNamed : Type 0
  WorkerIsNamed = OfEach (λ old step reply new wakes. Stalls old Waiter.worker → ((id : ℕ) × (reply ≡ Sent id)) ⊎ (is_over new ≡ true) → IsWoken stalls new wakes 0)

  -- No response waits for an outcome that the step decides.
  abbrev pub DecidedWaitsNoMore : Type 0
  DecidedWaitsNoMore = OfEach (λ old step reply new wakes. (id : ℕ) → Decides step reply id → ¬ (Stalls new (Waiter.response id)))
