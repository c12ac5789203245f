-- Who is named in mail.
use Rattle.std.proofs.Common.{◌≡◌, ◌≢◌, ◌⊎◌, ◌<◌, ◌+◌, ◌*◌, ◌&&◌, ◌||◌, ℕ, zero, suc, Bool, List, true, false, nat_eq, nat_lt, inl, inr, refl, sym, ap, subst, ◌∙◌, arith}
use Rattle.tower_latch.specs.Wakes.{IsNamed, NamesAll}
use Rattle.tower_latch.specs.declared.Wakes.{Wakes}
use Rattle.tower_base.specs.Order.{has}
use Rattle.tower_buffer.specs.MailKeys.{response_key, shared_from, ticket_key}
use Rattle.tower_buffer.specs.MailWakes.{Waiter, NamesTickets, NamesWorker, Stalls, WaitsWell, is_over, key_at, stalls}
use Rattle.tower_buffer.specs.MessageSteps.{queued}
use Rattle.tower_buffer.specs.declared.buffer.mailbox.Mailbox.{Mailbox}

pub decide : (b : Bool) → (b ≡ true) ⊎ (b ≡ false)
decide true = inl refl
decide false = inr refl

module _ {Q F E : Type 0} (old new : Mailbox Q F E) (wakes : Wakes) where
  abbrev pub NamesResponses : Type 0
  NamesResponses = (id : ℕ) → Stalls old (Waiter.response id) → Stalls new (Waiter.response id) ⊎ IsNamed wakes (response_key id)

  -- whoever waits is named, so its key is
  pub names_all : NamesWorker old new wakes → NamesTickets old new wakes → NamesResponses → WaitsWell new wakes → NamesAll stalls old new wakes
  names_all worker tickets responses waits = (λ key s. at_key key s.0 s.1 (each s.0 s.2), waits)
    where
      each : (w : Waiter) → Stalls old w → Stalls new w ⊎ IsNamed wakes (key_at w)
      each Waiter.worker s = worker s
      each (Waiter.ticket key) s = tickets key s
      each (Waiter.response id) s = responses id s

      at_key : (key : ℕ) (w : Waiter) → key_at w ≡ key → Stalls new w ⊎ IsNamed wakes (key_at w) → stalls new key ⊎ IsNamed wakes key
      at_key key w is (inl t) = inl (w, is, t)
      at_key key w is (inr n) = inr (subst (λ (k : ℕ). IsNamed wakes k) is n)

-- the worker is named once mail is over
pub worker_at_end : (before after : ℕ) (over ended : Bool) (wakes : Wakes) → after ≡ before → (ended ≡ true → IsNamed wakes 0) → (before ≡ 0) × (over ≡ false)
    → ((after ≡ 0) × (ended ≡ false)) ⊎ IsNamed wakes 0
worker_at_end before after over ended wakes same named s = elim (decide ended) [ inl e ↦ inr (named e) | inr e ↦ inl (same ∙ s.0, e) ]

pub one_named : (wakes : Wakes) (key : ℕ) → wakes ≡ Wakes.One key → IsNamed wakes key
one_named wakes key is = subst (λ (w : Wakes). IsNamed w key) (sym is) refl

-- those who leave the line for places, or get one, are named
pub tickets_named : (closed : Bool) (before after : List ℕ) (found wakes : Wakes) → ((key : ℕ) → has before key ≡ true → (has after key ≡ true) ⊎ IsNamed found key)
    → ((key : ℕ) → IsNamed found key → IsNamed wakes (ticket_key key)) → (key : ℕ) → (closed ≡ false) × (has before key ≡ true)
    → ((closed ≡ false) × (has after key ≡ true)) ⊎ IsNamed wakes (ticket_key key)
tickets_named closed before after found wakes names named key s = elim (names key s.1) [ inl t ↦ inl (s.0, t) | inr n ↦ inr (named key n) ]

-- nobody waits, where each of two names
pub neither_waits : (left right wakes : Wakes)
    → ((key : ℕ) → wakes ≡ Wakes.Wait key → ((left ≡ Wakes.Wait key) × (right ≡ Wakes.Nobody)) ⊎ ((right ≡ Wakes.Wait key) × (left ≡ Wakes.Nobody)))
    → ((key : ℕ) → left ≡ Wakes.Wait key → ⊥) → ((key : ℕ) → right ≡ Wakes.Wait key → ⊥) → (key : ℕ) → wakes ≡ Wakes.Wait key → ⊥
neither_waits left right wakes both l r key e = elim (both key e) [ inl w ↦ l key w.0 | inr w ↦ r key w.0 ]

-- one after another
pub tickets_then : (P Q R : ℕ → Type 0) (first second both : Wakes) → ((key : ℕ) → P key → Q key ⊎ IsNamed first (ticket_key key))
    → ((key : ℕ) → Q key → R key ⊎ IsNamed second (ticket_key key)) → ((key : ℕ) → IsNamed first key ⊎ IsNamed second key → IsNamed both key)
    → (key : ℕ) → P key → R key ⊎ IsNamed both (ticket_key key)
tickets_then P Q R first second both one two named key s = elim (one key s) [
  | inl t ↦ elim (two key t) [ inl u ↦ inl u | inr m ↦ inr (named (ticket_key key) (inr m)) ]
  | inr m ↦ inr (named (ticket_key key) (inl m))
]

pub none_named : (P : Type 0) (wakes : Wakes) (key : ℕ) → wakes ≡ Wakes.Nobody → P ⊎ IsNamed wakes key → P ⊎ ⊥
none_named P wakes key nobody n = elim n [ inl p ↦ inl p | inr m ↦ inr (subst (λ (w : Wakes). IsNamed w key) nobody m) ]

pub same_key : (a b : ℕ) → Wakes.Wait a ≡ Wakes.Wait b → a ≡ b
same_key a b e = ap (λ (w : Wakes). elim w [ Wakes.Wait key ↦ key | Wakes.Nobody ↦ a | Wakes.One key ↦ a | Wakes.Unstalled ↦ a | Wakes.All ↦ a ]) e
