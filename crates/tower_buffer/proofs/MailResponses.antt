-- Who waits for an outcome, after a step of mail.
use Rattle.std.proofs.Common.{◌≡◌, ◌≢◌, ◌⊎◌, inl, inr, ℕ, zero, suc, true, false, is_some, Some, None, List, [], ◌∷◌, ◌++◌, slice_get, slice_set, refl, sym, ap, subst, ◌∙◌}
use Rattle.std.proofs.lemmas.Bool.Decides.{eqb_tells}
use Rattle.slab.specs.Slab.{get}
use Rattle.tower_latch.specs.Latch.{StepsAs}
use Rattle.tower_latch.specs.Wakes.{IsNamed, NamesAll}
use Rattle.tower_latch.specs.declared.Wakes.{Wakes}
use Rattle.tower_buffer.specs.Mail.{At, Clears, Entry, SentMessage, Mail, MailSteps, Settles, is_waiting}
use Rattle.tower_buffer.specs.Mailbox.{Follows, StandsFor}
use Rattle.tower_buffer.specs.MailKeys.{response_key}
use Rattle.tower_buffer.specs.MailWakes.{Awaits, Decides, NamesPlaces, WaitsWell, Waiter, Stalls, stalls}
use Rattle.tower_buffer.specs.MessageSteps.{Follows as MessagesFollow, KeepsRest, kept, known}
use Rattle.tower_buffer.specs.declared.buffer.message.Fate.{Fate}
use Rattle.tower_buffer.specs.declared.buffer.message.Fate.TheVariants.{Open, Answered, Failed as HasFailed, Cancelled, Lost as WasLost}
use Rattle.tower_buffer.specs.declared.buffer.mail.MailStep.{MailStep}
use Rattle.tower_buffer.specs.declared.buffer.mail.MailStep.TheVariants.{Join, Part, Reserve, Look, Cancel, Unreserve, Send, Take, Live, Answer, Fail, FailStored, Outcome, Forget, WorkerGone}
use Rattle.tower_buffer.specs.declared.buffer.mail.MailReply.{MailReply}
use Rattle.tower_buffer.specs.declared.buffer.mail.MailReply.TheVariants.{Done, Place, Waiting, Memory, Failed, Closed, Sent, Message, Cleared, Empty, End, Truth, Back, Future, Lost, Unknown}
use Rattle.tower_buffer.specs.declared.buffer.mailbox.Mailbox.{Mailbox}
use Rattle.tower_buffer.specs.declared.buffer.messages.Messages.{Messages}
use Rattle.tower_buffer.proofs.MailNames.{names_all}
use Rattle.tower_buffer.proofs.MailWaits.{waiting_is}
use Rattle.tower_buffer.proofs.Machine.{box_with, passes_on, served}
use Rattle.tower_buffer.proofs.Messages.{front_at, here_is, set_other, set_same}

module _ {F : Type 0} where
  pub not_cancelled : (fate : Fate F) → fate ≡ Cancelled → fate ≡ Open → ⊥
  not_cancelled fate a b = cc

  pub not_answered : (fate : Fate F) (future : F) → fate ≡ Answered future → fate ≡ Open → ⊥
  not_answered fate future a b = cc

  pub not_failed : (fate : Fate F) → fate ≡ HasFailed → fate ≡ Open → ⊥
  not_failed fate a b = cc

  pub not_lost : (fate : Fate F) → fate ≡ WasLost → fate ≡ Open → ⊥
  not_lost fate a b = cc

module _ {Q F : Type 0} where
  -- one message is changed, which isn't the one that is waited for
  still : (old new : List (Entry Q F)) (place : ℕ) (item : SentMessage Q F) (now : Entry Q F) → At old place item → new ≡ slice_set old place now
      → (other : ℕ) → (item.id ≡ other → item.fate ≡ Open → ⊥) → Awaits old other → Awaits new other
  still old new place item now at is other ne w =
      subst (λ (ms : List (Entry Q F)). Awaits ms other) (sym is) (w.0, w.1, set_other old place w.0 now apart ∙ w.2, w.3, w.4)
    where
      apart : w.0 ≢ place
      apart e =
          let s = here_is item w.1 (sym at ∙ ap (slice_get old) (sym e) ∙ w.2) in
          ne (ap (λ (i : SentMessage Q F). i.id) s ∙ w.3) (ap (λ (i : SentMessage Q F). i.fate) s ∙ w.4)

  decided : (old new : List (Entry Q F)) (place : ℕ) (item : SentMessage Q F) (now : Entry Q F) → At old place item → new ≡ slice_set old place now
      → (id : ℕ) → item.id ≡ id → (other : ℕ) → Awaits old other → Awaits new other ⊎ (id ≡ other)
  decided old new place item now at is id same other w = elim (eqb_tells id other) [
    | inl s ↦ inr s.1
    | inr d ↦ inl (still old new place item now at is other (λ e waited. d.1 (sym same ∙ e)) w)
  ]

  settled : (fate : Fate F) (old new : List (Entry Q F)) (id : ℕ) → Settles fate old id new → (other : ℕ) → Awaits old other → Awaits new other ⊎ (id ≡ other)
  settled fate old new id s other w = elim s.3 [
    | inl h ↦ decided old new s.0 s.1 (Entry.here (record s.1 { fate = fate })) s.2.0 h.1 id s.2.1 other w
    | inr h ↦ decided old new s.0 s.1 (Entry.gone Cancelled) s.2.0 h.1 id s.2.1 other w
  ]

module _ {Q F E : Type 0} where
  stays : (old new : Mail Q F E) (other : ℕ) → Awaits old.messages other → new.messages ≡ old.messages → {P : Type 0} → Awaits new.messages other ⊎ P
  stays old new other w e = inl (subst (λ (ms : List (Entry Q F)). Awaits ms other) (sym e) w)

  cleared : (n : ℕ) (old new : Mail Q F E) → Clears n old new → (other : ℕ) → Awaits old.messages other → Awaits new.messages other
  cleared zero old new c other w = subst (λ (m : Mail Q F E). Awaits m.messages other) (sym c) w
  cleared (suc n) old new c other w =
      let last = c.2 in
      still c.0.messages new.messages last.0 last.1 (Entry.gone Cancelled) last.3.0 (ap (λ (m : Mail Q F E). m.messages) last.6) other
      (λ e. not_cancelled last.1.fate last.4) (cleared n old c.0 c.1 other w)

  -- who waits for a message that is taken still waits
  opened : (old new : Mail Q F E) (place : ℕ) (item : SentMessage Q F) → At old.messages place item → item.fate ≡ Open
      → new.messages ≡ slice_set old.messages place (Entry.here (record item { request = None })) → (other : ℕ) → Awaits old.messages other → Awaits new.messages other
  opened old new place item at waited is other w = elim (eqb_tells item.id other) [
    | inl s ↦ subst (λ (ms : List (Entry Q F)). Awaits ms other) (sym is)
        (place, record item { request = None }, set_same old.messages place (Entry.here (record item { request = None })) (Entry.here item) at, s.1, waited)
    | inr d ↦ still old.messages new.messages place item (Entry.here (record item { request = None })) at is other (λ e waited. d.1 e) w
  ]

  -- whoever waits for an outcome still does, unless the step decides it
  pub responses : (old : Mail Q F E) (step : MailStep Q F E) (reply : MailReply Q F E) (new : Mail Q F E) → MailSteps old step reply new
      → (other : ℕ) → Awaits old.messages other → Awaits new.messages other ⊎ Decides step reply other
  responses old Join Done new t other w = stays old new other w (ap (λ (m : Mail Q F E). m.messages) t)
  responses old Join Memory new t other w = stays old new other w (ap (λ (m : Mail Q F E). m.messages) t.1)
  responses old Part Done new t other w = stays old new other w (ap (λ (m : Mail Q F E). m.messages) t.1)
  responses old Part Unknown new t other w = stays old new other w (ap (λ (m : Mail Q F E). m.messages) t.1)
  responses old Reserve Place new t other w = stays old new other w (ap (λ (m : Mail Q F E). m.messages) t.2)
  responses old Reserve (Waiting key) new t other w = stays old new other w (ap (λ (m : Mail Q F E). m.messages) t.2)
  responses old Reserve Memory new t other w = stays old new other w (ap (λ (m : Mail Q F E). m.messages) t.1)
  responses old Reserve (Failed e) new t other w = stays old new other w (ap (λ (m : Mail Q F E). m.messages) t.2)
  responses old Reserve Closed new t other w = stays old new other w (ap (λ (m : Mail Q F E). m.messages) t.2)
  responses old (Look key) Place new t other w = stays old new other w (ap (λ (m : Mail Q F E). m.messages) t.2)
  responses old (Look key) (Waiting again) new t other w = stays old new other w (ap (λ (m : Mail Q F E). m.messages) t.2)
  responses old (Look key) Unknown new t other w = stays old new other w (ap (λ (m : Mail Q F E). m.messages) t.2)
  responses old (Look key) Memory new t other w = stays old new other w (ap (λ (m : Mail Q F E). m.messages) t.2)
  responses old (Look key) (Failed e) new t other w = stays old new other w (ap (λ (m : Mail Q F E). m.messages) t.2)
  responses old (Look key) Closed new t other w = stays old new other w (ap (λ (m : Mail Q F E). m.messages) t.2)
  responses old (Cancel key) Done new t other w = stays old new other w (elim t [ inl h ↦ ap (λ (m : Mail Q F E). m.messages) h.1 | inr h ↦ ap (λ (m : Mail Q F E). m.messages) h.2 ])
  responses old (Cancel key) Unknown new t other w = stays old new other w (ap (λ (m : Mail Q F E). m.messages) t.2)
  responses old Unreserve Done new t other w = stays old new other w (ap (λ (m : Mail Q F E). m.messages) t.2)
  responses old Unreserve Unknown new t other w = stays old new other w (ap (λ (m : Mail Q F E). m.messages) t.1)
  responses old (Send request) (Sent id) new t other w = inl (subst (λ (ms : List (Entry Q F)). Awaits ms other) (sym (ap (λ (m : Mail Q F E). m.messages) t.3)) (w.0, w.1, front_at old.messages (Entry.here (record { id = id; request = Some request; fate = Open })) (Entry.here w.1) w.0 w.2, w.3, w.4))
  responses old (Send request) (Failed e) new t other w = stays old new other w (ap (λ (m : Mail Q F E). m.messages) t.4)
  responses old (Send request) Closed new t other w = stays old new other w (ap (λ (m : Mail Q F E). m.messages) t.4)
  responses old (Send request) Memory new t other w = stays old new other w (ap (λ (m : Mail Q F E). m.messages) t.3)
  responses old (Send request) Unknown new t other w = stays old new other w (ap (λ (m : Mail Q F E). m.messages) t.1)
  responses old Take (Message id request) new t other w = inl (opened t.1 new t.3.0 t.3.1 t.3.2.0 t.3.3 (ap (λ (m : Mail Q F E). m.messages) t.3.6) other (cleared t.0 old t.1 t.2 other w))
  responses old Take Cleared new t other w = inl (cleared (suc t.0) old new t.1 other w)
  responses old Take Empty new t other w = stays old new other w (ap (λ (m : Mail Q F E). m.messages) t.2)
  responses old Take End new t other w = stays old new other w (ap (λ (m : Mail Q F E). m.messages) t.2)
  responses old (Live id) (Truth true) new t other w = stays old new other w (ap (λ (m : Mail Q F E). m.messages) t.4)
  responses old (Live id) (Truth false) new t other w = inl (still old.messages new.messages t.0 t.1 (Entry.gone Cancelled) t.2.0 (ap (λ (m : Mail Q F E). m.messages) t.4) other (λ e. not_cancelled t.1.fate t.3) w)
  responses old (Live id) Unknown new t other w = stays old new other w (ap (λ (m : Mail Q F E). m.messages) t.1)
  responses old (Answer id future) Done new t other w = decided old.messages new.messages t.0 t.1 (Entry.here (record t.1 { fate = Answered future })) t.2.0 (ap (λ (m : Mail Q F E). m.messages) t.4) id t.2.1 other w
  responses old (Answer id future) (Back back) new t other w = inl (still old.messages new.messages t.0 t.1 (Entry.gone Cancelled) t.2.0 (ap (λ (m : Mail Q F E). m.messages) t.5) other (λ e. not_cancelled t.1.fate t.3) w)
  responses old (Answer id future) Unknown new t other w = stays old new other w (ap (λ (m : Mail Q F E). m.messages) t.1)
  responses old (Fail id e) Done new t other w = settled HasFailed old.messages new.messages id t.0 other w
  responses old (Fail id e) Unknown new t other w = stays old new other w (ap (λ (m : Mail Q F E). m.messages) t.1)
  responses old (FailStored id) Done new t other w = settled HasFailed old.messages new.messages id t.1 other w
  responses old (FailStored id) Unknown new t other w = stays old new other w (ap (λ (m : Mail Q F E). m.messages) t.1)
  responses old (Outcome id) (Waiting again) new t other w = stays old new other w (ap (λ (m : Mail Q F E). m.messages) t.6)
  responses old (Outcome id) (Future future) new t other w = inl (still old.messages new.messages t.0 t.1 (Entry.gone t.1.fate) t.2 (ap (λ (m : Mail Q F E). m.messages) t.5) other (λ e. not_answered t.1.fate future t.4) w)
  responses old (Outcome id) (Failed e) new t other w = inl (still old.messages new.messages t.0 t.1 (Entry.gone t.1.fate) t.2 (ap (λ (m : Mail Q F E). m.messages) t.6) other (λ e. not_failed t.1.fate t.4) w)
  responses old (Outcome id) Memory new t other w = stays old new other w (ap (λ (m : Mail Q F E). m.messages) t.5)
  responses old (Outcome id) Lost new t other w = inl (still old.messages new.messages t.0 t.1 (Entry.gone t.1.fate) t.2 (ap (λ (m : Mail Q F E). m.messages) t.5) other (λ e. not_lost t.1.fate t.4) w)
  responses old (Outcome id) Unknown new t other w = stays old new other w (ap (λ (m : Mail Q F E). m.messages) t.1)
  responses old (Forget id) Done new t other w = elim t.4 [
    | inl h ↦ decided old.messages new.messages t.0 t.1 (Entry.here (record t.1 { fate = Cancelled })) t.2 (ap (λ (m : Mail Q F E). m.messages) h.1) id t.3 other w
    | inr h ↦ decided old.messages new.messages t.0 t.1 (Entry.gone t.1.fate) t.2 (ap (λ (m : Mail Q F E). m.messages) h.2) id t.3 other w
  ]
  responses old (Forget id) Unknown new t other w = stays old new other w (ap (λ (m : Mail Q F E). m.messages) t.1)
  responses old WorkerGone Done new t other w = inr tt
  responses old _ _ new t other w = absurd t

  -- a reply to `Outcome` that waits leaves the message waited for
  outcome_waits : (old : Mail Q F E) (id : ℕ) (reply : MailReply Q F E) (new : Mail Q F E) → MailSteps old (Outcome id) reply new → is_waiting reply ≡ true → Awaits new.messages id
  outcome_waits old id reply new s waits = pick (waiting_is reply waits)
    where
      pick : ((key : ℕ) × (reply ≡ Waiting key)) ⊎ (reply ≡ Empty) → Awaits new.messages id
      pick (inl w) =
          let t : MailSteps old (Outcome id) (Waiting w.0) new = subst (λ (r : MailReply Q F E). MailSteps old (Outcome id) r new) w.1 s in
          subst (λ (m : Mail Q F E). Awaits m.messages id) (sym t.6) (t.0, t.1, t.2, t.3, t.4)
      pick (inr w) = absurd (subst (λ (r : MailReply Q F E). MailSteps old (Outcome id) r new) w s)

  unanswered_stalls : (box : Mailbox Q F E) (mail : Mail Q F E) → StandsFor box mail → (id : ℕ) → Awaits mail.messages id → Stalls box (Waiter.response id)
  unanswered_stalls box mail s id w = (kept w.1, ap (get box.messages.links.entries) (sym w.3) ∙ s.0.stands w.0 w.1 w.2, w.4)

  responses_named : (old new : Mailbox Q F E) (step : MailStep Q F E) (reply : MailReply Q F E) (wakes : Wakes) → StepsAs StandsFor MailSteps old step reply new
      → ((id : ℕ) → Decides step reply id → IsNamed wakes (response_key id))
      → (id : ℕ) → Stalls old (Waiter.response id) → Stalls new (Waiter.response id) ⊎ IsNamed wakes (response_key id)
  responses_named old new step reply wakes s named id stall =
      let stood = s.0 in
      let next = s.1 stood.0 stood.1 in
      let at = stood.1.0.sent id stall.0 stall.1 in
      elim (responses stood.0 step reply next.0 next.1 id (at.0, known id stall.0, at.1, refl, stall.2)) [
        | inl w ↦ inl (unanswered_stalls new next.0 next.2 id w)
        | inr d ↦ inr (named id d)
      ]

  -- each step names whoever stalls no more
  pub step_names : (was old new : Mailbox Q F E) (step : MailStep Q F E) (reply : MailReply Q F E) (wakes : Wakes) → was ≡ old → Follows was step reply new
      → ((id : ℕ) → Decides step reply id → IsNamed wakes (response_key id)) → NamesPlaces was new wakes → WaitsWell new wakes → NamesAll stalls old new wakes
  step_names was old new step reply wakes same f named places waits =
      subst (λ (m : Mailbox Q F E). NamesAll stalls m new wakes) same
      (names_all was new wakes places.0 places.1 (responses_named was new step reply wakes (served was was new step step reply refl refl f) named) waits)

  -- so does a step of the messages alone
  pub names_on : (was old : Mailbox Q F E) (now : Messages Q F E) (step : MailStep Q F E) (reply : MailReply Q F E) (wakes : Wakes) → was ≡ old
      → MessagesFollow was.messages step reply now → (rest : KeepsRest was.messages now) → ((id : ℕ) → Decides step reply id → IsNamed wakes (response_key id))
      → WaitsWell (box_with was now rest) wakes → NamesAll stalls old (box_with was now rest) wakes
  names_on was old now step reply wakes same f rest named waits =
      step_names was old (box_with was now rest) step reply wakes same (passes_on was now step reply f rest) named ((λ s. inl (rest.0 ∙ s.0, s.1)), (λ key s. inl s)) waits

  -- who is told to wait for an outcome stalls
  pub outcome_stalls : (was : Mailbox Q F E) (now : Messages Q F E) (id : ℕ) (reply : MailReply Q F E) → MessagesFollow was.messages (Outcome id) reply now → (rest : KeepsRest was.messages now)
      → is_waiting reply ≡ true → Stalls (box_with was now rest) (Waiter.response id)
  outcome_stalls was now id reply f rest waits =
      let new = box_with was now rest in
      let s = served was was new (Outcome id) (Outcome id) reply refl refl (passes_on was now (Outcome id) reply f rest) in
      let next = s.1 s.0.0 s.0.1 in
      unanswered_stalls new next.0 next.2 id (outcome_waits s.0.0 id reply next.0 next.1 waits)

  -- only a reply that the step was made decides
  is_done : (step : MailStep Q F E) (reply : MailReply Q F E) (id : ℕ) → Decides step reply id → reply ≡ Done
  is_done (Answer other future) Done id d = refl
  is_done (FailStored other) Done id d = refl
  is_done (Forget other) Done id d = refl
  is_done (Fail other e) Done id d = refl
  is_done WorkerGone Done id d = refl
  is_done _ _ id d = absurd d

  pub answer_named : (other : ℕ) (future : F) (reply : MailReply Q F E) (wakes : Wakes) → (reply ≡ Done → IsNamed wakes (response_key other))
      → (id : ℕ) → Decides {Q = Q} {F = F} {E = E} (Answer other future) reply id → IsNamed wakes (response_key id)
  answer_named other future reply wakes named id d =
      let done = is_done (Answer other future) reply id d in
      let same : other ≡ id = subst (λ (r : MailReply Q F E). Decides (Answer other future) r id) done d in
      subst (λ (k : ℕ). IsNamed wakes (response_key k)) same (named done)

  pub failure_named : (other : ℕ) (reply : MailReply Q F E) (wakes : Wakes) → (reply ≡ Done → IsNamed wakes (response_key other))
      → (id : ℕ) → Decides {Q = Q} {F = F} {E = E} (FailStored other) reply id → IsNamed wakes (response_key id)
  failure_named other reply wakes named id d =
      let done = is_done (FailStored other) reply id d in
      let same : other ≡ id = subst (λ (r : MailReply Q F E). Decides (FailStored other) r id) done d in
      subst (λ (k : ℕ). IsNamed wakes (response_key k)) same (named done)

  pub forget_named : (other : ℕ) (reply : MailReply Q F E) (wakes : Wakes) → (reply ≡ Done → IsNamed wakes (response_key other))
      → (id : ℕ) → Decides {Q = Q} {F = F} {E = E} (Forget other) reply id → IsNamed wakes (response_key id)
  forget_named other reply wakes named id d =
      let done = is_done (Forget other) reply id d in
      let same : other ≡ id = subst (λ (r : MailReply Q F E). Decides (Forget other) r id) done d in
      subst (λ (k : ℕ). IsNamed wakes (response_key k)) same (named done)

  pub fail_named : (other : ℕ) (e : E) (reply : MailReply Q F E) (wakes : Wakes) → (reply ≡ Done → wakes ≡ Wakes.Unstalled)
      → (id : ℕ) → Decides {Q = Q} {F = F} {E = E} (Fail other e) reply id → IsNamed wakes (response_key id)
  fail_named other e reply wakes all id d = subst (λ (w : Wakes). IsNamed w (response_key id)) (sym (all (is_done (Fail other e) reply id d))) tt

  pub gone_named : (reply : MailReply Q F E) (wakes : Wakes) → (reply ≡ Done → wakes ≡ Wakes.All)
      → (id : ℕ) → Decides {Q = Q} {F = F} {E = E} WorkerGone reply id → IsNamed wakes (response_key id)
  gone_named reply wakes all id d = subst (λ (w : Wakes). IsNamed w (response_key id)) (sym (all (is_done WorkerGone reply id d))) tt
