-- Who is named as the one in mail, and would no longer be told to wait.
use Rattle.std.proofs.Common.{◌≡◌, ◌≢◌, ◌⊎◌, ◌<◌, ◌-◌, ◌^◌, ℕ, Bool, true, List, Option, inl, inr, sym, subst, ◌∙◌, arith}
use Rattle.tower_base.specs.Order.{has}
use Rattle.tower_latch.specs.WaitQueue.{stalls as queue_stalls}
use Rattle.tower_latch.specs.Wakes.{StallsOn}
use Rattle.tower_latch.specs.declared.Wakes.{Wakes}
use Rattle.tower_latch.specs.declared.Wakes.TheVariants.{Nobody, One}
use Rattle.tower_latch.specs.declared.wait_queue.WaitQueue.{WaitQueue}
use Rattle.tower_buffer.specs.MailKeys.{shared_from, ticket_key}
use Rattle.tower_buffer.specs.MailWakes.{Waiter, StallsAt, TicketGoesOn, key_at}
use Rattle.tower_buffer.specs.declared.buffer.message.Message.{Message}
use Rattle.tower_buffer.proofs.MailAsks.{is_ticket, is_worker, ticket_is}

-- Where both name one, only the one is named.
abbrev pub IsEither : Wakes → Wakes → Wakes → Type 0
IsEither left right both = (key : ℕ) → both ≡ One key → ((left ≡ One key) × (right ≡ Nobody)) ⊎ ((right ≡ One key) × (left ≡ Nobody))

-- a ticket that was named before waits no more, since no ticket begins to wait
pub ticket_then : (old new : WaitQueue) (first second both : Wakes) → IsEither first second both → TicketGoesOn old first → StallsOn queue_stalls new old → TicketGoesOn new second → TicketGoesOn new both
ticket_then old new first second both either was fewer now key is = elim (either key is) [
  | inl h ↦ let t = was key h.0 in (t.0, t.1, t.2, λ s. t.3 (fewer t.0 s))
  | inr h ↦ now key h.0
]

-- the ticket that is named by its key
pub named_goes : (queue : WaitQueue) (found wakes : Wakes)
    → ((key : ℕ) → wakes ≡ One key → (at : ℕ) × (found ≡ One at) × (ticket_key at ≢ 2 ^ 64 - 1) × (ticket_key at ≡ key))
    → ((at : ℕ) → found ≡ One at → ¬ (queue_stalls queue at)) → TicketGoesOn queue wakes
named_goes queue found wakes one goes key is = let n = one key is in (n.0, n.2, n.3, goes n.0 n.1)

pub same_one : (a b : ℕ) → One a ≡ One b → a ≡ b
same_one a b e = cc e

module _ {Q F : Type 0} (messages : ℕ) (over closed : Bool) (order : List ℕ) (kept : ℕ → Option (Message Q F)) where
  abbrev pub GoesOn : Wakes → Type 0
  GoesOn wakes = (key : ℕ) → wakes ≡ One key → ¬ ((waiter : Waiter) × (key_at waiter ≡ key) × StallsAt messages over closed order kept waiter)

  pub ticket_goes : (wakes : Wakes) → ((key : ℕ) → wakes ≡ One key → (at : ℕ) × (ticket_key at ≢ 2 ^ 64 - 1) × (ticket_key at ≡ key) × ¬ (has order at ≡ true)) → GoesOn wakes
  ticket_goes wakes one key is s =
      let t = one key is in
      let low : t.0 < shared_from = elim (ticket_is t.0) [ inl h ↦ h.0 | inr h ↦ absurd (t.1 h) ] in
      let w = subst (StallsAt messages over closed order kept) (is_ticket s.0 t.0 low (s.1 ∙ sym t.2)) s.2 in
      t.3 w.1

  pub worker_goes : (wakes : Wakes) → ((key : ℕ) → wakes ≡ One key → ((over ≡ true) ⊎ (0 < messages)) × (0 ≡ key)) → GoesOn wakes
  worker_goes wakes one key is s =
      let o = one key is in
      let w = subst (StallsAt messages over closed order kept) (is_worker s.0 (s.1 ∙ sym o.1)) s.2 in
      elim o.0 [
        | inl ended ↦ absurd (let a = sym ended ∙ w.1 in cc)
        | inr some ↦ absurd (omega (arith, some, w.0))
      ]

  pub either_goes : (left right both : Wakes) → IsEither left right both → GoesOn left → GoesOn right → GoesOn both
  either_goes left right both either l r key is = elim (either key is) [ inl h ↦ l key h.0 | inr h ↦ r key h.0 ]
