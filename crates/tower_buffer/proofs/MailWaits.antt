-- Which steps of mail have replies that wait.
use Rattle.std.proofs.Common.{◌≡◌, ◌⊎◌, ℕ, true, inl, inr, refl, subst}
use Rattle.tower_buffer.specs.Mail.{Mail, MailSteps, is_waiting}
use Rattle.tower_buffer.specs.declared.buffer.mail.MailStep.{MailStep}
use Rattle.tower_buffer.specs.declared.buffer.mail.MailReply.{MailReply}
use Rattle.tower_buffer.specs.declared.buffer.mail.MailReply.TheVariants.{Done, Place, Waiting, Memory, Failed, Closed, Sent, Message, Cleared, Empty, End, Truth, Back, Future, Lost, Unknown}

module _ {Q F E : Type 0} where
  pub waiting_is : (reply : MailReply Q F E) → is_waiting reply ≡ true → ((key : ℕ) × (reply ≡ Waiting key)) ⊎ (reply ≡ Empty)
  waiting_is Done w = absurd (cc)
  waiting_is Place w = absurd (cc)
  waiting_is (Waiting key) w = inl (key, refl)
  waiting_is Memory w = absurd (cc)
  waiting_is (Failed e) w = absurd (cc)
  waiting_is Closed w = absurd (cc)
  waiting_is (Sent id) w = absurd (cc)
  waiting_is (Message id request) w = absurd (cc)
  waiting_is Cleared w = absurd (cc)
  waiting_is Empty w = inr refl
  waiting_is End w = absurd (cc)
  waiting_is (Truth b) w = absurd (cc)
  waiting_is (Back f) w = absurd (cc)
  waiting_is (Future f) w = absurd (cc)
  waiting_is Lost w = absurd (cc)
  waiting_is Unknown w = absurd (cc)

  -- a step that is never told to wait isn't told so here
  pub quiet : (step made : MailStep Q F E) (reply : MailReply Q F E) (p q : Mail Q F E) → made ≡ step → MailSteps p made reply q
      → ((key : ℕ) → MailSteps p step (Waiting key) q → ⊥) → (MailSteps p step Empty q → ⊥) → is_waiting reply ≡ true → ⊥
  quiet step made reply p q is s no_key no_message waits = pick (waiting_is reply waits)
    where
      as_made : MailSteps p step reply q
      as_made = subst (λ (m : MailStep Q F E). MailSteps p m reply q) is s

      pick : ((key : ℕ) × (reply ≡ Waiting key)) ⊎ (reply ≡ Empty) → ⊥
      pick (inl w) = no_key w.0 (subst (λ (r : MailReply Q F E). MailSteps p step r q) w.1 as_made)
      pick (inr w) = no_message (subst (λ (r : MailReply Q F E). MailSteps p step r q) w as_made)
