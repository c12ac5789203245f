-- Whom a step of mail names at most.
use Rattle.std.proofs.Common.{◌≡◌, ◌≢◌, ◌⊎◌, ◌≤◌, ◌+◌, ◌-◌, ◌^◌, ℕ, nat_lt, inl, inr, sym, subst, ◌∙◌, arith}
use Rattle.std.proofs.lemmas.Bool.{ltb-false, ltb-true}
use Rattle.tower_latch.specs.WaitQueue.{stalls as queue_stalls}
use Rattle.tower_latch.specs.Wakes.{FreesOne, StallsOn}
use Rattle.tower_latch.specs.declared.Wakes.{Wakes}
use Rattle.tower_latch.specs.declared.Wakes.TheVariants.{Wait, Nobody, One, Unstalled, All}
use Rattle.tower_latch.specs.declared.wait_queue.WaitQueue.{WaitQueue}
use Rattle.tower_buffer.specs.MailKeys.{response_key, shared_from, ticket_key}
use Rattle.tower_buffer.specs.MailWakes.{NamesAtMost, NamesOneTicket, SharesKey}
use Rattle.tower_buffer.specs.declared.buffer.mail.MailStep.{MailStep}
use Rattle.tower_buffer.specs.declared.buffer.mail.MailReply.{MailReply}
use Rattle.tower_buffer.specs.declared.buffer.mailbox.Mailbox.{Mailbox}
use Rattle.tower_buffer.proofs.MailAsks.{response_low, ticket_low}
use Rattle.tower_buffer.proofs.MailNames.{decide}

-- whoever waits at the key that several share has one of the last numbers
pub ticket_shared : (key : ℕ) → ticket_key key ≡ 2 ^ 64 - 1 → shared_from ≤ key
ticket_shared key is = elim (decide (nat_lt key shared_from)) [
  | inl low ↦ let l = ltb-true key shared_from low in absurd (omega (arith, l, ticket_low key l, is))
  | inr high ↦ ltb-false key shared_from high
]

pub response_shared : (id : ℕ) → response_key id ≡ 2 ^ 64 - 1 → shared_from ≤ id
response_shared id is = elim (decide (nat_lt id shared_from)) [
  | inl low ↦ let l = ltb-true id shared_from low in absurd (omega (arith, l, response_low id l, is))
  | inr high ↦ ltb-false id shared_from high
]

-- who is freed alone isn't named among others
pub frees_few : (old new : WaitQueue) (wakes : Wakes) → FreesOne queue_stalls old new wakes → NamesOneTicket old wakes
frees_few old new (Wait key) frees = absurd frees
frees_few old new Nobody frees = ((λ e. absurd (cc e)), (λ e. absurd (cc e)))
frees_few old new (One key) frees = ((λ e. absurd (cc e)), (λ e. absurd (cc e)))
frees_few old new Unstalled frees = absurd frees
frees_few old new All frees = absurd frees

-- the key of the one that is freed
pub freed_shares : (old new : WaitQueue) (key : ℕ) (wakes found : Wakes) → found ≡ One key → FreesOne queue_stalls old new found → (wakes ≡ All → ⊥)
    → (wakes ≡ Unstalled → ticket_key key ≡ 2 ^ 64 - 1) → NamesOneTicket old wakes
freed_shares old new key wakes found is frees none shared =
    let freed = subst (FreesOne queue_stalls old new) is frees in
    (none, λ e. (key, ticket_shared key (shared e), freed.0))

abbrev Few : Type 0 → Wakes → Type 0
Few several wakes = (wakes ≡ All → ⊥) × (wakes ≡ Unstalled → several)

-- The worker is named alone, if at all.
pub ended_few : (over several : Type 0) (wakes : Wakes) → (wakes ≡ Nobody) ⊎ (over × (wakes ≡ One 0)) → Few several wakes
ended_few over several wakes ended = (
  λ e. elim ended [ inl n ↦ absurd (let a = sym e ∙ n in cc a) | inr o ↦ absurd (let a = sym e ∙ o.1 in cc a) ],
  λ e. elim ended [ inl n ↦ absurd (let a = sym e ∙ n in cc a) | inr o ↦ absurd (let a = sym e ∙ o.1 in cc a) ],
)

-- Two are named: those of one name, or all who no longer stall if both name somebody.
pub few_both : (over several : Type 0) (left right both : Wakes) → Few several left → (right ≡ Nobody) ⊎ (over × (right ≡ One 0))
    → (both ≡ All → (left ≡ All) ⊎ (right ≡ All))
    → (both ≡ Unstalled → (left ≡ Unstalled) ⊎ (right ≡ Unstalled) ⊎ ((left ≢ Nobody) × (right ≢ Nobody))) → Few (over ⊎ several) both
few_both over several left right both few ended all unstalled = (
  λ e. elim (all e) [ inl l ↦ few.0 l | inr r ↦ elim ended [ inl n ↦ absurd (let a = sym r ∙ n in cc a) | inr o ↦ absurd (let a = sym r ∙ o.1 in cc a) ] ],
  λ e. elim (unstalled e) [
    | inl l ↦ inr (few.1 l)
    | inr (inl r) ↦ elim ended [ inl n ↦ absurd (let a = sym r ∙ n in cc a) | inr o ↦ absurd (let a = sym r ∙ o.1 in cc a) ]
    | inr (inr b) ↦ elim ended [ inl n ↦ absurd (b.1 n) | inr o ↦ inl o.0 ]
  ],
)

-- One message more has left the queue.
pub few_more : (before left now : ℕ) (old mid : WaitQueue) (first second both : Wakes) → StallsOn queue_stalls mid old
    → Few ((left + 2 ≤ before) ⊎ SharesKey old) first → (first ≢ Nobody → left + 1 ≤ before) → NamesOneTicket mid second → now + 1 ≡ left
    → (both ≡ All → (first ≡ All) ⊎ (second ≡ All))
    → (both ≡ Unstalled → (first ≡ Unstalled) ⊎ (second ≡ Unstalled) ⊎ ((first ≢ Nobody) × (second ≢ Nobody))) → Few ((now + 2 ≤ before) ⊎ SharesKey old) both
few_more before left now old mid first second both still few some more less all unstalled = (
  λ e. elim (all e) [ inl l ↦ few.0 l | inr r ↦ more.0 r ],
  λ e. elim (unstalled e) [
    | inl l ↦ elim (few.1 l) [ inl h ↦ inl (omega (arith, h, less)) | inr s ↦ inr s ]
    | inr (inl r) ↦ let s = more.1 r in inr (s.0, s.1, still s.0 s.2)
    | inr (inr b) ↦ inl (omega (arith, some b.0, less))
  ],
)

module _ {Q F E : Type 0} where
  pub few_at : (was old new : Mailbox Q F E) (step made : MailStep Q F E) (reply : MailReply Q F E) (wakes : Wakes) → was ≡ old → made ≡ step
      → NamesAtMost was step reply new wakes → NamesAtMost old made reply new wakes
  few_at was old new step made reply wakes same is few =
      subst (λ (m : MailStep Q F E). NamesAtMost old m reply new wakes) (sym is) (subst (λ (m : Mailbox Q F E). NamesAtMost m step reply new wakes) same few)
