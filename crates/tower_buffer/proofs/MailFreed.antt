-- Who no longer waits in mail, and is named.
use Rattle.std.proofs.Common.{◌≡◌, ◌≢◌, ◌⊎◌, inl, inr, ℕ, ◌<◌, ◌-◌, ◌^◌, zero, suc, true, false, Some, None, List, [], ◌∷◌, ◌++◌, length, slice_get, slice_set, refl, sym, ap, subst, ◌∙◌, arith}
use Rattle.std.proofs.lemmas.Bool.Decides.{eqb_tells}
use Rattle.tower_latch.specs.Latch.{StepsAs}
use Rattle.tower_latch.specs.Wakes.{NamesAll, OneGoesOn}
use Rattle.tower_latch.specs.declared.Wakes.{Wakes}
use Rattle.tower_buffer.specs.Mailbox.{StandsFor}
use Rattle.tower_buffer.specs.declared.buffer.mailbox.Mailbox.{Mailbox}
use Rattle.tower_buffer.specs.Mail.{At, Entry, SentMessage, Mail, MailSteps, Settles, abandoned, left_by}
use Rattle.tower_buffer.specs.MailNamed.{DecidedWaitsNoMore, ResponsesAreNamed, TicketsAreNamed, WorkerIsNamed}
use Rattle.tower_buffer.specs.MailKeys.{response_key, shared_from, ticket_key}
use Rattle.tower_buffer.specs.MailWakes.{Awaits, Decides, Waiter, Stalls, is_over, stalls}
use Rattle.tower_buffer.specs.MessageSteps.{known, queue}
use Rattle.tower_buffer.specs.declared.buffer.message.Fate.{Fate}
use Rattle.tower_buffer.specs.declared.buffer.message.Fate.TheVariants.{Open, Answered, Failed as HasFailed, Cancelled, Lost as WasLost}
use Rattle.tower_buffer.specs.declared.buffer.mail.MailStep.{MailStep}
use Rattle.tower_buffer.specs.declared.buffer.mail.MailStep.TheVariants.{Answer, Fail, FailStored, Forget, Send, WorkerGone}
use Rattle.tower_buffer.specs.declared.buffer.mail.MailReply.{MailReply}
use Rattle.tower_buffer.specs.declared.buffer.mail.MailReply.TheVariants.{Done, Sent}
use Rattle.tower_latch.proofs.Settling.{spared_stalls}
use Rattle.tower_buffer.proofs.Fates.{some_is}
use Rattle.tower_buffer.proofs.MailAsks.{is_response, is_ticket, is_worker, response_is}
use Rattle.tower_buffer.proofs.MailResponses.{not_answered, not_cancelled, not_failed, not_lost}
use Rattle.tower_buffer.proofs.Messages.{here_is, not_here, queue_last, set_other, set_same}

some_last : (xs : List ℕ) (x : ℕ) → 0 < length (xs ++ x ∷ [])
some_last [] x = omega arith
some_last (y ∷ xs) x = omega arith

module _ {Q F : Type 0} where
  -- No two messages have the same id.
  abbrev Once : List (Entry Q F) → Type 0
  Once messages = (place other : ℕ) (item another : SentMessage Q F) → At messages place item → At messages other another → item.id ≡ another.id → place ≡ other

  -- nobody waits for one that was changed and isn't open
  away : (old new : List (Entry Q F)) (place : ℕ) (item : SentMessage Q F) (now : Entry Q F) → At old place item → new ≡ slice_set old place now → Once old
      → ((i : SentMessage Q F) → now ≡ Entry.here i → i.fate ≡ Open → ⊥) → (id : ℕ) → item.id ≡ id → Awaits new id → ⊥
  away old new place item now at is once shut id same w = elim (eqb_tells w.0 place) [
    | inl s ↦
        let there : Some now ≡ Some (Entry.here w.1) =
        sym (set_same old place now (Entry.here item) at) ∙ ap (slice_get (slice_set old place now)) (sym s.1) ∙ ap (λ (ms : List (Entry Q F)). slice_get ms w.0) (sym is) ∙ w.2 in
        shut w.1 (some_is now (Entry.here w.1) there) w.4
    | inr d ↦
        let was : At old w.0 w.1 = sym (set_other old place w.0 now d.1) ∙ ap (λ (ms : List (Entry Q F)). slice_get ms w.0) (sym is) ∙ w.2 in
        d.1 (once w.0 place w.1 item was at (w.3 ∙ sym same))
  ]

  fate_shut : (item : SentMessage Q F) (fate : Fate F) → (fate ≡ Open → ⊥) → (i : SentMessage Q F) → Entry.here (record item { fate = fate }) ≡ Entry.here i → i.fate ≡ Open → ⊥
  fate_shut item fate shut i e waited = shut (ap (λ (l : SentMessage Q F). l.fate) (here_is (record item { fate = fate }) i (ap Some e)) ∙ waited)

  gone_shut : (fate : Fate F) (i : SentMessage Q F) → Entry.gone fate ≡ Entry.here i → i.fate ≡ Open → ⊥
  gone_shut fate i e waited = not_here fate i (ap Some e)

  settles_away : (fate : Fate F) → (fate ≡ Open → ⊥) → (old new : List (Entry Q F)) (id : ℕ) → Settles fate old id new → Once old → (other : ℕ) → id ≡ other → Awaits new other → ⊥
  settles_away fate shut old new id s once other is w = elim s.3 [
    | inl h ↦ away old new s.0 s.1 (Entry.here (record s.1 { fate = fate })) s.2.0 h.1 once (fate_shut s.1 fate shut) other (s.2.1 ∙ is) w
    | inr h ↦ away old new s.0 s.1 (Entry.gone Cancelled) s.2.0 h.1 once (gone_shut Cancelled) other (s.2.1 ∙ is) w
  ]

  left_shut : (item : SentMessage Q F) (fate : Fate F) → item.fate ≡ fate → (i : SentMessage Q F) → Some (left_by item fate) ≡ Some (Entry.here i) → i.fate ≡ Open → ⊥
  left_shut item Open is i at waited = not_lost i.fate (sym (ap (λ (l : SentMessage Q F). l.fate) (here_is (record { id = item.id; request = None; fate = WasLost }) i at))) waited
  left_shut item Cancelled is i at waited = not_here Cancelled i at
  left_shut item (Answered f) is i at waited = not_answered i.fate f (sym (ap (λ (l : SentMessage Q F). l.fate) (here_is item i at)) ∙ is) waited
  left_shut item HasFailed is i at waited = not_failed i.fate (sym (ap (λ (l : SentMessage Q F). l.fate) (here_is item i at)) ∙ is) waited
  left_shut item WasLost is i at waited = not_lost i.fate (sym (ap (λ (l : SentMessage Q F). l.fate) (here_is item i at)) ∙ is) waited

  none_at : (old : List (Entry Q F)) (place : ℕ) (i : SentMessage Q F) → At (abandoned old) place i → i.fate ≡ Open → ⊥
  none_at [] place i at waited = absurd (cc)
  none_at (Entry.gone fate ∷ old) zero i at waited = not_here fate i at
  none_at (Entry.gone fate ∷ old) (suc place) i at waited = none_at old place i at waited
  none_at (Entry.here item ∷ old) zero i at waited = left_shut item item.fate refl i at waited
  none_at (Entry.here item ∷ old) (suc place) i at waited = none_at old place i at waited

module _ {Q F E : Type 0} where
  ends : (old : Mail Q F E) (step : MailStep Q F E) (reply : MailReply Q F E) (new : Mail Q F E) → MailSteps old step reply new → Once old.messages
      → (id : ℕ) → Decides step reply id → Awaits new.messages id → ⊥
  ends old (Answer other future) Done new t once id d w =
      away old.messages new.messages t.0 t.1 (Entry.here (record t.1 { fate = Answered future })) t.2.0 (ap (λ (m : Mail Q F E). m.messages) t.4) once
      (fate_shut t.1 (Answered future) (λ e. not_answered (Answered future) future refl e)) id (t.2.1 ∙ d) w
  ends old (FailStored other) Done new t once id d w = settles_away HasFailed (λ e. not_failed HasFailed refl e) old.messages new.messages other t.1 once id d w
  ends old (Fail other e) Done new t once id d w = settles_away HasFailed (λ e. not_failed HasFailed refl e) old.messages new.messages other t.0 once id d w
  ends old (Forget other) Done new t once id d w = elim t.4 [
    | inl h ↦ away old.messages new.messages t.0 t.1 (Entry.here (record t.1 { fate = Cancelled })) t.2 (ap (λ (m : Mail Q F E). m.messages) h.1) once
        (fate_shut t.1 Cancelled (λ e. not_cancelled Cancelled refl e)) id (t.3 ∙ d) w
    | inr h ↦ away old.messages new.messages t.0 t.1 (Entry.gone t.1.fate) t.2 (ap (λ (m : Mail Q F E). m.messages) h.2) once (gone_shut t.1.fate) id (t.3 ∙ d) w
  ]
  ends old WorkerGone Done new t once id d w =
      let v : Awaits (abandoned old.messages) id = subst (λ (ms : List (Entry Q F)). Awaits ms id) (ap (λ (m : Mail Q F E). m.messages) t.1) w in
      none_at old.messages v.0 v.1 v.2 v.4
  ends old _ _ new t once id d w = absurd d

  sent_some : (old : Mail Q F E) (step : MailStep Q F E) (id : ℕ) (new : Mail Q F E) → MailSteps old step (Sent id) new → 0 < length (queue new.messages)
  sent_some old (Send request) id new t =
      let all = ap (λ (m : Mail Q F E). queue m.messages) t.3 ∙ queue_last old.messages id request Open in
      omega (arith, some_last (queue old.messages) id, ap length all)
  sent_some old _ id new t = absurd t

  pub decided : DecidedWaitsNoMore Q F E
  decided old new step reply wakes s n id d stall =
      let next = s.1 s.0.0 s.0.1 in
      let at = next.2.0.sent id stall.0 stall.1 in
      ends s.0.0 step reply next.0 next.1 s.0.1.0.once id d (at.0, known id stall.0, at.1, refl, stall.2)

  -- the response that is named, since its outcome is decided
  pub response_goes : (old new : Mailbox Q F E) (step : MailStep Q F E) (reply : MailReply Q F E) (wakes : Wakes) → StepsAs StandsFor MailSteps old step reply new
      → NamesAll stalls old new wakes → (id : ℕ) → (reply ≡ Done → Decides step reply id)
      → ((key : ℕ) → wakes ≡ Wakes.One key → (reply ≡ Done) × (response_key id ≢ 2 ^ 64 - 1) × (response_key id ≡ key)) → OneGoesOn stalls new wakes
  response_goes old new step reply wakes s n id decides one key is stall =
      let o = one key is in
      let low : id < shared_from = elim (response_is id) [ inl h ↦ h.0 | inr h ↦ absurd (o.1 h) ] in
      decided old new step reply wakes s n id (decides o.0) (subst (Stalls new) (is_response stall.0 id low (stall.1 ∙ sym o.2)) stall.2)

  pub decides_as : (made step : MailStep Q F E) (reply : MailReply Q F E) (id : ℕ) → made ≡ step → Decides step Done id → reply ≡ Done → Decides made reply id
  decides_as made step reply id is d done =
      subst (λ (m : MailStep Q F E). Decides m reply id) (sym is) (subst (λ (r : MailReply Q F E). Decides step r id) (sym done) d)

  pub tickets : TicketsAreNamed Q F E
  tickets old new step reply wakes s n key low stall gone = elim (n.0 (ticket_key key) (Waiter.ticket key, refl, stall)) [
    | inl t ↦ absurd (freed t)
    | inr m ↦ (m, λ spared. freed (spared_stalls (stalls new) wakes (ticket_key key) spared))
  ]
    where
      freed : stalls new (ticket_key key) → ⊥
      freed t = gone (subst (Stalls new) (is_ticket t.0 key low t.1) t.2)

  pub responses_named : ResponsesAreNamed Q F E
  responses_named old new step reply wakes s n id low stall d = elim (n.0 (response_key id) (Waiter.response id, refl, stall)) [
    | inl t ↦ absurd (settled t)
    | inr m ↦ (m, λ spared. settled (spared_stalls (stalls new) wakes (response_key id) spared))
  ]
    where
      settled : stalls new (response_key id) → ⊥
      settled t = decided old new step reply wakes s n id d (subst (Stalls new) (is_response t.0 id low t.1) t.2)

  pub worker_named : WorkerIsNamed Q F E
  worker_named old new step reply wakes s n stall why = elim (n.0 0 (Waiter.worker, refl, stall)) [
    | inl t ↦ absurd (told t)
    | inr m ↦ (m, λ spared. told (spared_stalls (stalls new) wakes 0 spared))
  ]
    where
      fed : Stalls new Waiter.worker → ((id : ℕ) × (reply ≡ Sent id)) ⊎ (is_over new ≡ true) → ⊥
      fed w (inl sent) =
          let next = s.1 s.0.0 s.0.1 in
          let some = sent_some s.0.0 step sent.0 next.0 (subst (λ (r : MailReply Q F E). MailSteps s.0.0 step r next.0) sent.1 next.1) in
          omega (arith, some, w.0, ap length next.2.0.order)
      fed w (inr over) = absurd (let a = sym over ∙ w.1 in cc)

      told : stalls new 0 → ⊥
      told t = fed (subst (Stalls new) (is_worker t.0 t.1) t.2) why
