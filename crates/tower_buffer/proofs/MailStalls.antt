-- Who waits at a key of which mail is asked.
use Rattle.std.proofs.Common.{◌≡◌, ◌≢◌, ◌<◌, ◌-◌, ◌/◌, ◌%◌, ◌^◌, ℕ, sym, ◌∙◌, arith}
use Rattle.tower_buffer.specs.MailKeys.{shared_from}
use Rattle.tower_buffer.specs.MailWakes.{Waiter, Stalls, stalls}
use Rattle.tower_buffer.specs.declared.buffer.mailbox.Mailbox.{Mailbox}
use Rattle.tower_buffer.proofs.MailAsks.{asks_response, asks_ticket, asks_worker, response_low, ticket_low}

module _ {Q F E : Type 0} (box : Mailbox Q F E) where
  pub stalls_worker : (key : ℕ) → key ≡ 0 → Stalls box Waiter.worker → stalls box key
  stalls_worker key none s = (Waiter.worker, sym none, s)

  pub stalls_ticket : (key : ℕ) → key < 2 ^ 64 → key ≢ 2 ^ 64 - 1 → key % 2 ≡ 1 → Stalls box (Waiter.ticket (key / 2)) → stalls box key
  stalls_ticket key fits apart odd s = (Waiter.ticket (key / 2), ticket_low (key / 2) (omega (arith, fits, apart, odd)) ∙ omega (arith, odd), s)

  pub stalls_response : (key : ℕ) → key < 2 ^ 64 → key ≢ 2 ^ 64 - 1 → key ≢ 0 → key % 2 ≢ 1 → Stalls box (Waiter.response (key / 2 - 1)) → stalls box key
  stalls_response key fits apart some even s =
      (Waiter.response (key / 2 - 1), response_low (key / 2 - 1) (omega (arith, fits, apart, even, some)) ∙ omega (arith, even, some), s)

  -- Whoever stalls at a key that it has alone is the one of whom mail is asked.
  pub worker_stalls : (key : ℕ) → key ≡ 0 → stalls box key → Stalls box Waiter.worker
  worker_stalls key none s = asks_worker box key (sym none) s

  pub ticket_stalls : (key : ℕ) → key < 2 ^ 64 → key ≢ 2 ^ 64 - 1 → key % 2 ≡ 1 → stalls box key → Stalls box (Waiter.ticket (key / 2))
  ticket_stalls key fits apart odd s =
      let low : key / 2 < shared_from = omega (arith, fits, apart, odd) in
      asks_ticket box (key / 2) key low (ticket_low (key / 2) low ∙ omega (arith, odd)) s

  pub response_stalls : (key : ℕ) → key < 2 ^ 64 → key ≢ 2 ^ 64 - 1 → key ≢ 0 → key % 2 ≢ 1 → stalls box key → Stalls box (Waiter.response (key / 2 - 1))
  response_stalls key fits apart some even s =
      let low : key / 2 - 1 < shared_from = omega (arith, fits, apart, even, some) in
      asks_response box (key / 2 - 1) key low (response_low (key / 2 - 1) low ∙ omega (arith, even, some)) s
