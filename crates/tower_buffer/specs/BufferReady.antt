-- After a poll that returns `Ok` a place is reserved.
use Rattle.std.specs.Prelude.{◌≡◌, Result, Ok}
use Rattle.std.specs.declared.alloc.AllocError.{AllocError}
use Rattle.std.proofs.Common.{ap, ◌∙◌, inl, inr}
use Rattle.futures.specs.declared.task.Poll.TheVariants.{Ready}
use Rattle.tower_buffer.specs.Buffer.{BufferView, Polled, PolledAt, Replies}
use Rattle.tower_buffer.specs.declared.buffer.reservation.Reservation.{Reservation}
use Rattle.tower_buffer.specs.declared.buffer.reservation.Reservation.TheVariants.{Away, Asking, Reserved}
use Rattle.tower_buffer.specs.declared.buffer.mail.MailStep.{MailStep}
use Rattle.tower_buffer.specs.declared.buffer.mail.MailReply.{MailReply}
use Rattle.tower_buffer.specs.declared.buffer.mail.MailReply.TheVariants.{Place, Waiting, Memory, Failed, Closed, Unknown}

module _ {L Q F E : Type 0} (gave : L → MailStep Q F E → MailReply Q F E → Type 0) (shares : L → Result L AllocError → Type 0) where
  placed : (old new : Reservation) (reply : MailReply Q F E) → Replies gave shares old reply (Ready (Ok tt)) new → new ≡ Reserved
  placed old new Place r = r.1
  placed old new (Waiting key) r = absurd (cc)
  placed old new Memory r = absurd (cc)
  placed old new (Failed e) r = absurd (cc)
  placed old new Closed r = absurd (cc)
  placed old new Unknown r = absurd (cc)
  placed old new _ r = absurd r

  at : (reservation : Reservation) (old new : BufferView L) → old.reservation ≡ reservation → PolledAt gave shares reservation old (Ready (Ok tt)) new → new.reservation ≡ Reserved
  at Reserved old new is p = ap (λ (b : BufferView L). b.reservation) p.1 ∙ is
  at Away old new is p = elim p [ inl r ↦ absurd (cc) | inr a ↦ placed old.reservation new.reservation a.reply a.replies ]
  at (Asking key) old new is p = elim p [ inl r ↦ absurd (cc) | inr a ↦ placed old.reservation new.reservation a.reply a.replies ]

  pub ready_after : (old new : BufferView L) → Polled gave shares old (Ready (Ok tt)) new → new.reservation ≡ Reserved
  ready_after old new p = at old.reservation old new (λ i. old.reservation) p
