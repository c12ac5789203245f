-- Who asks again at a key is the one who waits there.
use Rattle.std.proofs.Common.{◌≡◌, ◌≢◌, ◌⊎◌, ◌<◌, ◌+◌, ◌-◌, ◌*◌, ◌^◌, ℕ, true, false, nat_lt, inl, inr, refl, sym, ap, subst, ◌∙◌, arith}
use Rattle.std.proofs.lemmas.Bool.{lt-ltb, ltb-true}
use Rattle.tower_buffer.specs.MailKeys.{Asks, response_key, shared_from, ticket_key}
use Rattle.tower_buffer.specs.MailWakes.{Waiter, Stalls, key_at, stalls}
use Rattle.tower_buffer.specs.declared.buffer.mail.MailStep.{MailStep}
use Rattle.tower_buffer.specs.declared.buffer.mail.MailStep.TheVariants.{Look, Outcome, Take}
use Rattle.tower_buffer.specs.declared.buffer.mailbox.Mailbox.{Mailbox}
use Rattle.tower_buffer.proofs.MailNames.{decide}

pub ticket_low : (key : ℕ) → key < shared_from → ticket_key key ≡ key * 2 + 1
ticket_low key low = rw (lt-ltb key shared_from low) refl

pub response_low : (id : ℕ) → id < shared_from → response_key id ≡ id * 2 + 2
response_low id low = rw (lt-ltb id shared_from low) refl

pub ticket_is : (key : ℕ) → ((key < shared_from) × (ticket_key key ≡ key * 2 + 1)) ⊎ (ticket_key key ≡ 2 ^ 64 - 1)
ticket_is key = elim (decide (nat_lt key shared_from)) [
  | inl low ↦ let l = ltb-true key shared_from low in inl (l, ticket_low key l)
  | inr high ↦ inr (rw high refl)
]

pub response_is : (id : ℕ) → ((id < shared_from) × (response_key id ≡ id * 2 + 2)) ⊎ (response_key id ≡ 2 ^ 64 - 1)
response_is id = elim (decide (nat_lt id shared_from)) [
  | inl low ↦ let l = ltb-true id shared_from low in inl (l, response_low id l)
  | inr high ↦ inr (rw high refl)
]

-- below those that share one, each waiter has its key alone
pub is_worker : (w : Waiter) → key_at w ≡ 0 → w ≡ Waiter.worker
is_worker Waiter.worker is = refl
is_worker (Waiter.ticket key) is = absurd (elim (ticket_is key) [ inl h ↦ omega (arith, h.1, is) | inr h ↦ omega (arith, h, is) ])
is_worker (Waiter.response id) is = absurd (elim (response_is id) [ inl h ↦ omega (arith, h.1, is) | inr h ↦ omega (arith, h, is) ])

pub is_ticket : (w : Waiter) (key : ℕ) → key < shared_from → key_at w ≡ ticket_key key → w ≡ Waiter.ticket key
is_ticket Waiter.worker key low is = absurd (omega (arith, ticket_low key low, is))
is_ticket (Waiter.ticket other) key low is = ap Waiter.ticket (elim (ticket_is other) [ inl h ↦ omega (arith, h.1, ticket_low key low, is) | inr h ↦ omega (arith, low, h, ticket_low key low, is) ])
is_ticket (Waiter.response id) key low is = absurd (elim (response_is id) [ inl h ↦ omega (arith, h.1, ticket_low key low, is) | inr h ↦ omega (arith, low, h, ticket_low key low, is) ])

pub is_response : (w : Waiter) (id : ℕ) → id < shared_from → key_at w ≡ response_key id → w ≡ Waiter.response id
is_response Waiter.worker id low is = absurd (omega (arith, response_low id low, is))
is_response (Waiter.ticket key) id low is = absurd (elim (ticket_is key) [ inl h ↦ omega (arith, h.1, response_low id low, is) | inr h ↦ omega (arith, low, h, response_low id low, is) ])
is_response (Waiter.response other) id low is = ap Waiter.response (elim (response_is other) [ inl h ↦ omega (arith, h.1, response_low id low, is) | inr h ↦ omega (arith, low, h, response_low id low, is) ])

module _ {Q F E : Type 0} (box : Mailbox Q F E) where
  pub asks_worker : (at : ℕ) → 0 ≡ at → stalls box at → Stalls box Waiter.worker
  asks_worker at a s = subst (Stalls box) (is_worker s.0 (s.1 ∙ sym a)) s.2

  pub asks_ticket : (key at : ℕ) → key < shared_from → ticket_key key ≡ at → stalls box at → Stalls box (Waiter.ticket key)
  asks_ticket key at low a s = subst (Stalls box) (is_ticket s.0 key low (s.1 ∙ sym a)) s.2

  pub asks_response : (id at : ℕ) → id < shared_from → response_key id ≡ at → stalls box at → Stalls box (Waiter.response id)
  asks_response id at low a s = subst (Stalls box) (is_response s.0 id low (s.1 ∙ sym a)) s.2

  -- if each step that asks is told to wait, so is whoever stalls
  pub told_take : (P : Type 0) → (Stalls box Waiter.worker → P) → (asked : MailStep Q F E) → asked ≡ Take → (at : ℕ) → Asks asked at → stalls box at → P
  told_take P told asked is at a s = told (asks_worker at (subst (λ (m : MailStep Q F E). Asks m at) is a) s)

  pub told_look : (P : Type 0) (key : ℕ) → (Stalls box (Waiter.ticket key) → P) → (asked : MailStep Q F E) → asked ≡ Look key → (at : ℕ) → Asks asked at → stalls box at → P
  told_look P key told asked is at a s = let asks : Asks {Q = Q} {F = F} {E = E} (Look key) at = subst (λ (m : MailStep Q F E). Asks m at) is a in told (asks_ticket key at asks.0 asks.1 s)

  pub told_outcome : (P : Type 0) (id : ℕ) → (Stalls box (Waiter.response id) → P) → (asked : MailStep Q F E) → asked ≡ Outcome id → (at : ℕ) → Asks asked at → stalls box at → P
  told_outcome P id told asked is at a s = let asks : Asks {Q = Q} {F = F} {E = E} (Outcome id) at = subst (λ (m : MailStep Q F E). Asks m at) is a in told (asks_response id at asks.0 asks.1 s)

pub told_at : {Q F E : Type 0} (was old : Mailbox Q F E) (w : Waiter) (P : Type 0) → was ≡ old → (Stalls was w → P) → Stalls old w → P
told_at {Q = Q} {F = F} {E = E} was old w P same told s = told (subst (λ (m : Mailbox Q F E). Stalls m w) (sym same) s)
