-- No step of mail changes its bound.
use Rattle.std.proofs.Common.{◌≡◌, inl, inr, ℕ, zero, suc, true, false, ap, sym, ◌∙◌}
use Rattle.tower_latch.specs.Latch.{StepsAs}
use Rattle.tower_buffer.specs.Mail.{Clears, Mail, MailSteps}
use Rattle.tower_buffer.specs.Mailbox.{StandsFor}
use Rattle.tower_buffer.specs.declared.buffer.mailbox.Mailbox.{Mailbox}
use Rattle.tower_buffer.specs.declared.buffer.mail.MailStep.{MailStep}
use Rattle.tower_buffer.specs.declared.buffer.mail.MailStep.TheVariants.{Join, Part, Reserve, Look, Cancel, Unreserve, Send, Take, Live, Answer, Fail, FailStored, Outcome, Forget, WorkerGone}
use Rattle.tower_buffer.specs.declared.buffer.mail.MailReply.{MailReply}
use Rattle.tower_buffer.specs.declared.buffer.mail.MailReply.TheVariants.{Done, Place, Waiting, Memory, Failed, Closed, Sent, Message, Cleared, Empty, End, Truth, Back, Future, Lost, Unknown}

module _ {Q F E : Type 0} where
  clears : (n : ℕ) (old new : Mail Q F E) → Clears n old new → new.bound ≡ old.bound
  clears zero old new c = ap (λ (m : Mail Q F E). m.bound) c
  clears (suc n) old new c = ap (λ (m : Mail Q F E). m.bound) c.2.6 ∙ clears n old c.0 c.1

  bounds : (old : Mail Q F E) (step : MailStep Q F E) (reply : MailReply Q F E) (new : Mail Q F E) → MailSteps old step reply new → new.bound ≡ old.bound
  bounds old Join Done new t = ap (λ (m : Mail Q F E). m.bound) t
  bounds old Join Memory new t = ap (λ (m : Mail Q F E). m.bound) t.1
  bounds old Part Done new t = ap (λ (m : Mail Q F E). m.bound) t.1
  bounds old Part Unknown new t = ap (λ (m : Mail Q F E). m.bound) t.1
  bounds old Reserve Place new t = ap (λ (m : Mail Q F E). m.bound) t.2
  bounds old Reserve (Waiting key) new t = ap (λ (m : Mail Q F E). m.bound) t.2
  bounds old Reserve Memory new t = ap (λ (m : Mail Q F E). m.bound) t.1
  bounds old Reserve (Failed e) new t = ap (λ (m : Mail Q F E). m.bound) t.2
  bounds old Reserve Closed new t = ap (λ (m : Mail Q F E). m.bound) t.2
  bounds old (Look key) Place new t = ap (λ (m : Mail Q F E). m.bound) t.2
  bounds old (Look key) (Waiting again) new t = ap (λ (m : Mail Q F E). m.bound) t.2
  bounds old (Look key) Unknown new t = ap (λ (m : Mail Q F E). m.bound) t.2
  bounds old (Look key) Memory new t = ap (λ (m : Mail Q F E). m.bound) t.2
  bounds old (Look key) (Failed e) new t = ap (λ (m : Mail Q F E). m.bound) t.2
  bounds old (Look key) Closed new t = ap (λ (m : Mail Q F E). m.bound) t.2
  bounds old (Cancel key) Done new t = elim t [ inl h ↦ ap (λ (m : Mail Q F E). m.bound) h.1 | inr h ↦ ap (λ (m : Mail Q F E). m.bound) h.2 ]
  bounds old (Cancel key) Unknown new t = ap (λ (m : Mail Q F E). m.bound) t.2
  bounds old Unreserve Done new t = ap (λ (m : Mail Q F E). m.bound) t.2
  bounds old Unreserve Unknown new t = ap (λ (m : Mail Q F E). m.bound) t.1
  bounds old (Send request) (Sent id) new t = ap (λ (m : Mail Q F E). m.bound) t.3
  bounds old (Send request) (Failed e) new t = ap (λ (m : Mail Q F E). m.bound) t.4
  bounds old (Send request) Closed new t = ap (λ (m : Mail Q F E). m.bound) t.4
  bounds old (Send request) Memory new t = ap (λ (m : Mail Q F E). m.bound) t.3
  bounds old (Send request) Unknown new t = ap (λ (m : Mail Q F E). m.bound) t.1
  bounds old Take (Message id request) new t = ap (λ (m : Mail Q F E). m.bound) t.3.6 ∙ clears t.0 old t.1 t.2
  bounds old Take Cleared new t = clears (suc t.0) old new t.1
  bounds old Take Empty new t = ap (λ (m : Mail Q F E). m.bound) t.2
  bounds old Take End new t = ap (λ (m : Mail Q F E). m.bound) t.2
  bounds old (Live id) (Truth true) new t = ap (λ (m : Mail Q F E). m.bound) t.4
  bounds old (Live id) (Truth false) new t = ap (λ (m : Mail Q F E). m.bound) t.4
  bounds old (Live id) Unknown new t = ap (λ (m : Mail Q F E). m.bound) t.1
  bounds old (Answer id future) Done new t = ap (λ (m : Mail Q F E). m.bound) t.4
  bounds old (Answer id future) (Back back) new t = ap (λ (m : Mail Q F E). m.bound) t.5
  bounds old (Answer id future) Unknown new t = ap (λ (m : Mail Q F E). m.bound) t.1
  bounds old (Fail id e) Done new t = ap (λ (m : Mail Q F E). m.bound) t.1
  bounds old (Fail id e) Unknown new t = ap (λ (m : Mail Q F E). m.bound) t.1
  bounds old (FailStored id) Done new t = ap (λ (m : Mail Q F E). m.bound) t.2
  bounds old (FailStored id) Unknown new t = ap (λ (m : Mail Q F E). m.bound) t.1
  bounds old (Outcome id) (Waiting again) new t = ap (λ (m : Mail Q F E). m.bound) t.6
  bounds old (Outcome id) (Future future) new t = ap (λ (m : Mail Q F E). m.bound) t.5
  bounds old (Outcome id) (Failed e) new t = ap (λ (m : Mail Q F E). m.bound) t.6
  bounds old (Outcome id) Memory new t = ap (λ (m : Mail Q F E). m.bound) t.5
  bounds old (Outcome id) Lost new t = ap (λ (m : Mail Q F E). m.bound) t.5
  bounds old (Outcome id) Unknown new t = ap (λ (m : Mail Q F E). m.bound) t.1
  bounds old (Forget id) Done new t = elim t.4 [ inl h ↦ ap (λ (m : Mail Q F E). m.bound) h.1 | inr h ↦ ap (λ (m : Mail Q F E). m.bound) h.2 ]
  bounds old (Forget id) Unknown new t = ap (λ (m : Mail Q F E). m.bound) t.1
  bounds old WorkerGone Done new t = ap (λ (m : Mail Q F E). m.bound) t.1
  bounds old _ _ new t = absurd t

  pub keeps_bound : (old : Mailbox Q F E) (step : MailStep Q F E) (reply : MailReply Q F E) (new : Mailbox Q F E) → StepsAs StandsFor MailSteps old step reply new → new.bound ≡ old.bound
  keeps_bound old step reply new (stood, follows) =
      let next = follows stood.0 stood.1 in
      sym (ap (λ (m : Mail Q F E). m.bound) next.2.2) ∙ bounds stood.0 step reply next.0 next.1 ∙ ap (λ (m : Mail Q F E). m.bound) stood.1.2
