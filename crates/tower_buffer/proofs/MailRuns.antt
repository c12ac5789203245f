-- The laws of mail.
use Rattle.std.proofs.Common.{◌≡◌, inl, inr, ℕ, zero, suc, ◌<◌, true, false, unwrap_or, Option, Some, None, List, [], ◌∷◌, ◌++◌, slice_set, refl, sym, ap, subst, ◌∙◌, arith}
use Rattle.tower_latch.specs.Latch.{Serves}
use Rattle.tower_buffer.specs.Mail.{At, Clears, Entry, SentMessage, Mail, MailSteps, Settles, abandoned, left_by}
use Rattle.tower_buffer.specs.MailLaws.{Grow, Lasts}
use Rattle.tower_buffer.specs.declared.buffer.message.Fate.{Fate}
use Rattle.tower_buffer.specs.declared.buffer.message.Fate.TheVariants.{Open, Answered, Failed as HasFailed, Cancelled, Lost as WasLost}
use Rattle.tower_buffer.specs.declared.buffer.mail.MailStep.{MailStep}
use Rattle.tower_buffer.specs.declared.buffer.mail.MailStep.TheVariants.{Join, Part, Reserve, Look, Cancel, Unreserve, Send, Take, Live, Answer, Fail, FailStored, Outcome, Forget, WorkerGone}
use Rattle.tower_buffer.specs.declared.buffer.mail.MailReply.{MailReply}
use Rattle.tower_buffer.specs.declared.buffer.mail.MailReply.TheVariants.{Done, Place, Waiting, Memory, Failed, Closed, Sent, Message, Cleared, Empty, End, Truth, Back, Future, Lost, Unknown}

module _ {Q F : Type 0} where
  still : (entry : Entry Q F) → Lasts entry entry
  still entry = record { outcome = inr refl; out = inr refl }

  later : (a b c : Entry Q F) → Lasts a b → Lasts b c → Lasts a c
  later a b c ab bc = record {
    outcome = elim ab.outcome [
      | inl none ↦ inl none
      | inr same ↦ elim bc.outcome [ inl none ↦ inl (sym same ∙ none) | inr again ↦ inr (again ∙ same) ]
    ];
    out = elim bc.out [ inl none ↦ inl none | inr same ↦ elim ab.out [ inl none ↦ inl (same ∙ none) | inr again ↦ inr (same ∙ again) ] ];
  }

  grow_same : (old new : List (Entry Q F)) → new ≡ old → Grow old new
  grow_same old new e place entry at = (entry, rw e at, still entry)

  grow_on : (a b c : List (Entry Q F)) → Grow a b → Grow b c → Grow a c
  grow_on a b c ab bc place entry at =
      let one = ab place entry at in
      let two = bc place one.0 one.1 in (two.0, two.1, later entry one.0 two.0 one.2 two.2)

  grow_last : (old more : List (Entry Q F)) → Grow old (old ++ more)
  grow_last [] more place entry at = absurd (cc)
  grow_last (first ∷ old) more zero entry at = (entry, at, still entry)
  grow_last (first ∷ old) more (suc place) entry at = grow_last old more place entry at

  grow_set : (old : List (Entry Q F)) (spot : ℕ) (item : SentMessage Q F) (now : Entry Q F) → At old spot item → Lasts (Entry.here item) now → Grow old (slice_set old spot now)
  grow_set [] spot item now there lasts place entry at = absurd (cc)
  grow_set (first ∷ old) zero item now there lasts zero entry at =
      (now, refl, subst (λ (e : Entry Q F). Lasts e now) (ap (λ o. unwrap_or o first) (sym there ∙ at)) lasts)
  grow_set (first ∷ old) zero item now there lasts (suc place) entry at = (entry, at, still entry)
  grow_set (first ∷ old) (suc spot) item now there lasts zero entry at = (entry, at, still entry)
  grow_set (first ∷ old) (suc spot) item now there lasts (suc place) entry at = grow_set old spot item now there lasts place entry at

  left_lasts : (item : SentMessage Q F) (fate : Fate F) → item.fate ≡ fate → Lasts (Entry.here item) (left_by item fate)
  left_lasts item Open e = record { outcome = inl e; out = inl refl }
  left_lasts item Cancelled e = record { outcome = inr (sym e); out = inl refl }
  left_lasts item (Answered f) e = still (Entry.here item)
  left_lasts item HasFailed e = still (Entry.here item)
  left_lasts item WasLost e = still (Entry.here item)

  grow_left : (old : List (Entry Q F)) → Grow old (abandoned old)
  grow_left [] place entry at = absurd (cc)
  grow_left (Entry.gone fate ∷ old) zero entry at = (entry, at, still entry)
  grow_left (Entry.here item ∷ old) zero entry at =
      (left_by item item.fate, refl, subst (λ (e : Entry Q F). Lasts e (left_by item item.fate)) (ap (λ o. unwrap_or o (Entry.here item)) at) (left_lasts item item.fate refl))
  grow_left (Entry.gone fate ∷ old) (suc place) entry at = grow_left old place entry at
  grow_left (Entry.here item ∷ old) (suc place) entry at = grow_left old place entry at

  -- a change of one message
  cancelled_goes : (item : SentMessage Q F) → item.fate ≡ Cancelled → Lasts (Entry.here item) (Entry.gone Cancelled)
  cancelled_goes item e = record { outcome = inr (sym e); out = inl refl }

  settled_lasts : (item : SentMessage Q F) (fate : Fate F) → item.fate ≡ Open → Lasts (Entry.here item) (Entry.here (record item { fate = fate }))
  settled_lasts item fate e = record { outcome = inl e; out = inr refl }

  goes : (item : SentMessage Q F) → Lasts (Entry.here item) (Entry.gone item.fate)
  goes item = record { outcome = inr refl; out = inl refl }

  grow_settles : (fate : Fate F) (old new : List (Entry Q F)) (id : ℕ) → Settles fate old id new → Grow old new
  grow_settles fate old new id s = elim s.3 [
    | inl h ↦ grow_on old _ new (grow_set old s.0 s.1 (Entry.here (record s.1 { fate = fate })) s.2.0 (settled_lasts s.1 fate h.0)) (grow_same _ new h.1)
    | inr h ↦ grow_on old _ new (grow_set old s.0 s.1 (Entry.gone Cancelled) s.2.0 (cancelled_goes s.1 h.0)) (grow_same _ new h.1)
  ]

module _ {Q F E : Type 0} where
  -- a step that changes one message so
  one : (old new : Mail Q F E) (spot : ℕ) (item : SentMessage Q F) (now : Entry Q F) → At old.messages spot item → Lasts (Entry.here item) now
      → new.messages ≡ slice_set old.messages spot now → Grow old.messages new.messages
  one old new spot item now at lasts e = grow_on old.messages _ new.messages (grow_set old.messages spot item now at lasts) (grow_same _ new.messages e)

  clears_grow : (n : ℕ) (old new : Mail Q F E) → Clears n old new → Grow old.messages new.messages
  clears_grow zero old new c = grow_same old.messages new.messages (ap (λ (m : Mail Q F E). m.messages) c)
  clears_grow (suc n) old new c =
      let last = c.2 in
      grow_on old.messages c.0.messages new.messages (clears_grow n old c.0 c.1)
      (one c.0 new last.0 last.1 (Entry.gone Cancelled) last.3.0 (cancelled_goes last.1 last.4) (ap (λ (m : Mail Q F E). m.messages) last.6))

  messages_of : (old new : Mail Q F E) → new ≡ old → new.messages ≡ old.messages
  messages_of old new e = ap (λ (m : Mail Q F E). m.messages) e

  grows : (old : Mail Q F E) (step : MailStep Q F E) (reply : MailReply Q F E) (new : Mail Q F E) → MailSteps old step reply new → Grow old.messages new.messages
  grows old Join Done new t = grow_same _ _ (ap (λ (m : Mail Q F E). m.messages) t)
  grows old Join Memory new t = grow_same _ _ (ap (λ (m : Mail Q F E). m.messages) t.1)
  grows old Part Done new t = grow_same _ _ (ap (λ (m : Mail Q F E). m.messages) t.1)
  grows old Part Unknown new t = grow_same _ _ (ap (λ (m : Mail Q F E). m.messages) t.1)
  grows old Reserve Place new t = grow_same _ _ (ap (λ (m : Mail Q F E). m.messages) t.2)
  grows old Reserve (Waiting key) new t = grow_same _ _ (ap (λ (m : Mail Q F E). m.messages) t.2)
  grows old Reserve Memory new t = grow_same _ _ (ap (λ (m : Mail Q F E). m.messages) t.1)
  grows old Reserve (Failed e) new t = grow_same _ _ (ap (λ (m : Mail Q F E). m.messages) t.2)
  grows old Reserve Closed new t = grow_same _ _ (ap (λ (m : Mail Q F E). m.messages) t.2)
  grows old (Look key) Place new t = grow_same _ _ (ap (λ (m : Mail Q F E). m.messages) t.2)
  grows old (Look key) (Waiting again) new t = grow_same _ _ (ap (λ (m : Mail Q F E). m.messages) t.2)
  grows old (Look key) Unknown new t = grow_same _ _ (ap (λ (m : Mail Q F E). m.messages) t.2)
  grows old (Look key) Memory new t = grow_same _ _ (ap (λ (m : Mail Q F E). m.messages) t.2)
  grows old (Look key) (Failed e) new t = grow_same _ _ (ap (λ (m : Mail Q F E). m.messages) t.2)
  grows old (Look key) Closed new t = grow_same _ _ (ap (λ (m : Mail Q F E). m.messages) t.2)
  grows old (Cancel key) Done new t =
      grow_same _ _ (elim t [ inl h ↦ ap (λ (m : Mail Q F E). m.messages) h.1 | inr h ↦ ap (λ (m : Mail Q F E). m.messages) h.2 ])
  grows old (Cancel key) Unknown new t = grow_same _ _ (ap (λ (m : Mail Q F E). m.messages) t.2)
  grows old Unreserve Done new t = grow_same _ _ (ap (λ (m : Mail Q F E). m.messages) t.2)
  grows old Unreserve Unknown new t = grow_same _ _ (ap (λ (m : Mail Q F E). m.messages) t.1)
  grows old (Send request) (Sent id) new t =
      grow_on old.messages _ new.messages (grow_last old.messages _) (grow_same _ new.messages (ap (λ (m : Mail Q F E). m.messages) t.3))
  grows old (Send request) (Failed e) new t = grow_same _ _ (ap (λ (m : Mail Q F E). m.messages) t.4)
  grows old (Send request) Closed new t = grow_same _ _ (ap (λ (m : Mail Q F E). m.messages) t.4)
  grows old (Send request) Memory new t = grow_same _ _ (ap (λ (m : Mail Q F E). m.messages) t.3)
  grows old (Send request) Unknown new t = grow_same _ _ (ap (λ (m : Mail Q F E). m.messages) t.1)
  grows old Take (Message id request) new t =
      let last = t.3 in
      grow_on old.messages t.1.messages new.messages (clears_grow t.0 old t.1 t.2)
      (one t.1 new last.0 last.1 (Entry.here (record last.1 { request = None })) last.2.0 (record { outcome = inr refl; out = inl refl }) (ap (λ (m : Mail Q F E). m.messages) last.6))
  grows old Take Cleared new t = clears_grow (suc t.0) old new t.1
  grows old Take Empty new t = grow_same _ _ (ap (λ (m : Mail Q F E). m.messages) t.2)
  grows old Take End new t = grow_same _ _ (ap (λ (m : Mail Q F E). m.messages) t.2)
  grows old (Live id) (Truth true) new t = grow_same _ _ (ap (λ (m : Mail Q F E). m.messages) t.4)
  grows old (Live id) (Truth false) new t = one old new t.0 t.1 (Entry.gone Cancelled) t.2.0 (cancelled_goes t.1 t.3) (ap (λ (m : Mail Q F E). m.messages) t.4)
  grows old (Live id) Unknown new t = grow_same _ _ (ap (λ (m : Mail Q F E). m.messages) t.1)
  grows old (Answer id future) Done new t =
      one old new t.0 t.1 (Entry.here (record t.1 { fate = Answered future })) t.2.0 (settled_lasts t.1 (Answered future) t.3) (ap (λ (m : Mail Q F E). m.messages) t.4)
  grows old (Answer id future) (Back back) new t = one old new t.0 t.1 (Entry.gone Cancelled) t.2.0 (cancelled_goes t.1 t.3) (ap (λ (m : Mail Q F E). m.messages) t.5)
  grows old (Answer id future) Unknown new t = grow_same _ _ (ap (λ (m : Mail Q F E). m.messages) t.1)
  grows old (Fail id e) Done new t = grow_settles HasFailed old.messages new.messages id t.0
  grows old (Fail id e) Unknown new t = grow_same _ _ (ap (λ (m : Mail Q F E). m.messages) t.1)
  grows old (FailStored id) Done new t = grow_settles HasFailed old.messages new.messages id t.1
  grows old (FailStored id) Unknown new t = grow_same _ _ (ap (λ (m : Mail Q F E). m.messages) t.1)
  grows old (Outcome id) (Waiting again) new t = grow_same _ _ (ap (λ (m : Mail Q F E). m.messages) t.6)
  grows old (Outcome id) (Future future) new t = one old new t.0 t.1 (Entry.gone t.1.fate) t.2 (goes t.1) (ap (λ (m : Mail Q F E). m.messages) t.5)
  grows old (Outcome id) (Failed e) new t = one old new t.0 t.1 (Entry.gone t.1.fate) t.2 (goes t.1) (ap (λ (m : Mail Q F E). m.messages) t.6)
  grows old (Outcome id) Memory new t = grow_same _ _ (ap (λ (m : Mail Q F E). m.messages) t.5)
  grows old (Outcome id) Lost new t = one old new t.0 t.1 (Entry.gone t.1.fate) t.2 (goes t.1) (ap (λ (m : Mail Q F E). m.messages) t.5)
  grows old (Outcome id) Unknown new t = grow_same _ _ (ap (λ (m : Mail Q F E). m.messages) t.1)
  grows old (Forget id) Done new t = elim t.4 [
    | inl h ↦ one old new t.0 t.1 (Entry.here (record t.1 { fate = Cancelled })) t.2 (settled_lasts t.1 Cancelled h.0) (ap (λ (m : Mail Q F E). m.messages) h.1)
    | inr h ↦ one old new t.0 t.1 (Entry.gone t.1.fate) t.2 (goes t.1) (ap (λ (m : Mail Q F E). m.messages) h.2)
  ]
  grows old (Forget id) Unknown new t = grow_same _ _ (ap (λ (m : Mail Q F E). m.messages) t.1)
  grows old WorkerGone Done new t =
      grow_on old.messages _ new.messages (grow_left old.messages) (grow_same _ new.messages (ap (λ (m : Mail Q F E). m.messages) t.1))
  grows old _ _ new t = absurd t

  pub each_once : (old new : Mail Q F E) (steps : List (MailStep Q F E × MailReply Q F E)) → Serves MailSteps old steps new → Grow old.messages new.messages
  each_once old new [] serves = grow_same old.messages new.messages (ap (λ (m : Mail Q F E). m.messages) serves)
  each_once old new (step ∷ steps) serves =
      grow_on old.messages serves.0.messages new.messages (grows old step.0 step.1 serves.0 serves.1) (each_once serves.0 new steps serves.2)

  abbrev Shut : Mail Q F E → Mail Q F E → Type 0
  Shut old new = (old.is_closed ≡ true → new.is_closed ≡ true) × ((e : E) → old.stored ≡ Some e → new.stored ≡ Some e)

  shut_on : (a b c : Mail Q F E) → Shut a b → Shut b c → Shut a c
  shut_on a b c ab bc = (λ h. bc.0 (ab.0 h), λ e h. bc.1 e (ab.1 e h))

  clears_shut : (n : ℕ) (old new : Mail Q F E) → Clears n old new → Shut old new
  clears_shut zero old new c = (λ was. ap (λ (m : Mail Q F E). m.is_closed) c ∙ was, λ first had. ap (λ (m : Mail Q F E). m.stored) c ∙ had)
  clears_shut (suc n) old new c =
      let e = c.2.6 in
      shut_on old c.0 new (clears_shut n old c.0 c.1) (λ was. ap (λ (m : Mail Q F E). m.is_closed) e ∙ was, λ first had. ap (λ (m : Mail Q F E). m.stored) e ∙ had)

  shuts : (old : Mail Q F E) (step : MailStep Q F E) (reply : MailReply Q F E) (new : Mail Q F E) → MailSteps old step reply new → Shut old new
  shuts old Join Done new t = (λ was. ap (λ (m : Mail Q F E). m.is_closed) t ∙ was, λ first had. ap (λ (m : Mail Q F E). m.stored) t ∙ had)
  shuts old Join Memory new t = (λ was. ap (λ (m : Mail Q F E). m.is_closed) t.1 ∙ was, λ first had. ap (λ (m : Mail Q F E). m.stored) t.1 ∙ had)
  shuts old Part Done new t = (λ was. ap (λ (m : Mail Q F E). m.is_closed) t.1 ∙ was, λ first had. ap (λ (m : Mail Q F E). m.stored) t.1 ∙ had)
  shuts old Part Unknown new t = (λ was. ap (λ (m : Mail Q F E). m.is_closed) t.1 ∙ was, λ first had. ap (λ (m : Mail Q F E). m.stored) t.1 ∙ had)
  shuts old Reserve Place new t = (λ was. ap (λ (m : Mail Q F E). m.is_closed) t.2 ∙ was, λ first had. ap (λ (m : Mail Q F E). m.stored) t.2 ∙ had)
  shuts old Reserve (Waiting key) new t = (λ was. ap (λ (m : Mail Q F E). m.is_closed) t.2 ∙ was, λ first had. ap (λ (m : Mail Q F E). m.stored) t.2 ∙ had)
  shuts old Reserve Memory new t = (λ was. ap (λ (m : Mail Q F E). m.is_closed) t.1 ∙ was, λ first had. ap (λ (m : Mail Q F E). m.stored) t.1 ∙ had)
  shuts old Reserve (Failed e) new t = (λ was. ap (λ (m : Mail Q F E). m.is_closed) t.2 ∙ was, λ first had. ap (λ (m : Mail Q F E). m.stored) t.2 ∙ had)
  shuts old Reserve Closed new t = (λ was. ap (λ (m : Mail Q F E). m.is_closed) t.2 ∙ was, λ first had. ap (λ (m : Mail Q F E). m.stored) t.2 ∙ had)
  shuts old (Look key) Place new t = (λ was. ap (λ (m : Mail Q F E). m.is_closed) t.2 ∙ was, λ first had. ap (λ (m : Mail Q F E). m.stored) t.2 ∙ had)
  shuts old (Look key) (Waiting again) new t = (λ was. ap (λ (m : Mail Q F E). m.is_closed) t.2 ∙ was, λ first had. ap (λ (m : Mail Q F E). m.stored) t.2 ∙ had)
  shuts old (Look key) Unknown new t = (λ was. ap (λ (m : Mail Q F E). m.is_closed) t.2 ∙ was, λ first had. ap (λ (m : Mail Q F E). m.stored) t.2 ∙ had)
  shuts old (Look key) Memory new t = (λ was. ap (λ (m : Mail Q F E). m.is_closed) t.2 ∙ was, λ first had. ap (λ (m : Mail Q F E). m.stored) t.2 ∙ had)
  shuts old (Look key) (Failed e) new t = (λ was. ap (λ (m : Mail Q F E). m.is_closed) t.2 ∙ was, λ first had. ap (λ (m : Mail Q F E). m.stored) t.2 ∙ had)
  shuts old (Look key) Closed new t = (λ was. ap (λ (m : Mail Q F E). m.is_closed) t.2 ∙ was, λ first had. ap (λ (m : Mail Q F E). m.stored) t.2 ∙ had)
  shuts old (Cancel key) Done new t = elim t [ inl h ↦ (λ was. ap (λ (m : Mail Q F E). m.is_closed) h.1 ∙ was, λ first had. ap (λ (m : Mail Q F E). m.stored) h.1 ∙ had) | inr h ↦ (λ was. ap (λ (m : Mail Q F E). m.is_closed) h.2 ∙ was, λ first had. ap (λ (m : Mail Q F E). m.stored) h.2 ∙ had) ]
  shuts old (Cancel key) Unknown new t = (λ was. ap (λ (m : Mail Q F E). m.is_closed) t.2 ∙ was, λ first had. ap (λ (m : Mail Q F E). m.stored) t.2 ∙ had)
  shuts old Unreserve Done new t = (λ was. ap (λ (m : Mail Q F E). m.is_closed) t.2 ∙ was, λ first had. ap (λ (m : Mail Q F E). m.stored) t.2 ∙ had)
  shuts old Unreserve Unknown new t = (λ was. ap (λ (m : Mail Q F E). m.is_closed) t.1 ∙ was, λ first had. ap (λ (m : Mail Q F E). m.stored) t.1 ∙ had)
  shuts old (Send request) (Sent id) new t = (λ was. ap (λ (m : Mail Q F E). m.is_closed) t.3 ∙ was, λ first had. ap (λ (m : Mail Q F E). m.stored) t.3 ∙ had)
  shuts old (Send request) (Failed e) new t = (λ was. ap (λ (m : Mail Q F E). m.is_closed) t.4 ∙ was, λ first had. ap (λ (m : Mail Q F E). m.stored) t.4 ∙ had)
  shuts old (Send request) Closed new t = (λ was. ap (λ (m : Mail Q F E). m.is_closed) t.4 ∙ was, λ first had. ap (λ (m : Mail Q F E). m.stored) t.4 ∙ had)
  shuts old (Send request) Memory new t = (λ was. ap (λ (m : Mail Q F E). m.is_closed) t.3 ∙ was, λ first had. ap (λ (m : Mail Q F E). m.stored) t.3 ∙ had)
  shuts old (Send request) Unknown new t = (λ was. ap (λ (m : Mail Q F E). m.is_closed) t.1 ∙ was, λ first had. ap (λ (m : Mail Q F E). m.stored) t.1 ∙ had)
  shuts old Take (Message id request) new t = let e = t.3.6 in
      shut_on old t.1 new (clears_shut t.0 old t.1 t.2) (λ was. ap (λ (m : Mail Q F E). m.is_closed) e ∙ was, λ first had. ap (λ (m : Mail Q F E). m.stored) e ∙ had)
  shuts old Take Cleared new t = clears_shut (suc t.0) old new t.1
  shuts old Take Empty new t = (λ was. ap (λ (m : Mail Q F E). m.is_closed) t.2 ∙ was, λ first had. ap (λ (m : Mail Q F E). m.stored) t.2 ∙ had)
  shuts old Take End new t = (λ was. ap (λ (m : Mail Q F E). m.is_closed) t.2 ∙ was, λ first had. ap (λ (m : Mail Q F E). m.stored) t.2 ∙ had)
  shuts old (Live id) (Truth true) new t = (λ was. ap (λ (m : Mail Q F E). m.is_closed) t.4 ∙ was, λ first had. ap (λ (m : Mail Q F E). m.stored) t.4 ∙ had)
  shuts old (Live id) (Truth false) new t = (λ was. ap (λ (m : Mail Q F E). m.is_closed) t.4 ∙ was, λ first had. ap (λ (m : Mail Q F E). m.stored) t.4 ∙ had)
  shuts old (Live id) Unknown new t = (λ was. ap (λ (m : Mail Q F E). m.is_closed) t.1 ∙ was, λ first had. ap (λ (m : Mail Q F E). m.stored) t.1 ∙ had)
  shuts old (Answer id future) Done new t = (λ was. ap (λ (m : Mail Q F E). m.is_closed) t.4 ∙ was, λ first had. ap (λ (m : Mail Q F E). m.stored) t.4 ∙ had)
  shuts old (Answer id future) (Back back) new t = (λ was. ap (λ (m : Mail Q F E). m.is_closed) t.5 ∙ was, λ first had. ap (λ (m : Mail Q F E). m.stored) t.5 ∙ had)
  shuts old (Answer id future) Unknown new t = (λ was. ap (λ (m : Mail Q F E). m.is_closed) t.1 ∙ was, λ first had. ap (λ (m : Mail Q F E). m.stored) t.1 ∙ had)
  shuts old (Fail id e) Done new t = (λ was. ap (λ (m : Mail Q F E). m.is_closed) t.1, λ first had. ap (λ (m : Mail Q F E). m.stored) t.1 ∙ ap (λ o. Some (unwrap_or o e)) had)
  shuts old (Fail id e) Unknown new t = (λ was. ap (λ (m : Mail Q F E). m.is_closed) t.1 ∙ was, λ first had. ap (λ (m : Mail Q F E). m.stored) t.1 ∙ had)
  shuts old (FailStored id) Done new t = (λ was. ap (λ (m : Mail Q F E). m.is_closed) t.2 ∙ was, λ first had. ap (λ (m : Mail Q F E). m.stored) t.2 ∙ had)
  shuts old (FailStored id) Unknown new t = (λ was. ap (λ (m : Mail Q F E). m.is_closed) t.1 ∙ was, λ first had. ap (λ (m : Mail Q F E). m.stored) t.1 ∙ had)
  shuts old (Outcome id) (Waiting again) new t = (λ was. ap (λ (m : Mail Q F E). m.is_closed) t.6 ∙ was, λ first had. ap (λ (m : Mail Q F E). m.stored) t.6 ∙ had)
  shuts old (Outcome id) (Future future) new t = (λ was. ap (λ (m : Mail Q F E). m.is_closed) t.5 ∙ was, λ first had. ap (λ (m : Mail Q F E). m.stored) t.5 ∙ had)
  shuts old (Outcome id) (Failed e) new t = (λ was. ap (λ (m : Mail Q F E). m.is_closed) t.6 ∙ was, λ first had. ap (λ (m : Mail Q F E). m.stored) t.6 ∙ had)
  shuts old (Outcome id) Memory new t = (λ was. ap (λ (m : Mail Q F E). m.is_closed) t.5 ∙ was, λ first had. ap (λ (m : Mail Q F E). m.stored) t.5 ∙ had)
  shuts old (Outcome id) Lost new t = (λ was. ap (λ (m : Mail Q F E). m.is_closed) t.5 ∙ was, λ first had. ap (λ (m : Mail Q F E). m.stored) t.5 ∙ had)
  shuts old (Outcome id) Unknown new t = (λ was. ap (λ (m : Mail Q F E). m.is_closed) t.1 ∙ was, λ first had. ap (λ (m : Mail Q F E). m.stored) t.1 ∙ had)
  shuts old (Forget id) Done new t = elim t.4 [ inl h ↦ (λ was. ap (λ (m : Mail Q F E). m.is_closed) h.1 ∙ was, λ first had. ap (λ (m : Mail Q F E). m.stored) h.1 ∙ had) | inr h ↦ (λ was. ap (λ (m : Mail Q F E). m.is_closed) h.2 ∙ was, λ first had. ap (λ (m : Mail Q F E). m.stored) h.2 ∙ had) ]
  shuts old (Forget id) Unknown new t = (λ was. ap (λ (m : Mail Q F E). m.is_closed) t.1 ∙ was, λ first had. ap (λ (m : Mail Q F E). m.stored) t.1 ∙ had)
  shuts old WorkerGone Done new t = (λ was. ap (λ (m : Mail Q F E). m.is_closed) t.1, λ first had. ap (λ (m : Mail Q F E). m.stored) t.1 ∙ had)
  shuts old _ _ new t = absurd t

  pub stays_shut : (old new : Mail Q F E) (steps : List (MailStep Q F E × MailReply Q F E)) → Serves MailSteps old steps new → Shut old new
  stays_shut old new [] serves = (λ was. ap (λ (m : Mail Q F E). m.is_closed) serves ∙ was, λ first had. ap (λ (m : Mail Q F E). m.stored) serves ∙ had)
  stays_shut old new (step ∷ steps) serves = shut_on old serves.0 new (shuts old step.0 step.1 serves.0 serves.1) (stays_shut serves.0 new steps serves.2)

  pub fails_at_once : (old new : Mail Q F E) (id : ℕ) (e : E) → MailSteps old (Fail id e) Done new
      → (new.stored ≡ Some (unwrap_or old.stored e)) × (new.is_closed ≡ true) × Settles HasFailed old.messages id new.messages
  fails_at_once old new id e t = (ap (λ (m : Mail Q F E). m.stored) t.1, ap (λ (m : Mail Q F E). m.is_closed) t.1, t.0)

module _ {Q F : Type 0} where
  set_here : (messages : List (Entry Q F)) (place : ℕ) (item now : SentMessage Q F) → At messages place item → At (slice_set messages place (Entry.here now)) place now
  set_here [] place item now at = absurd (cc)
  set_here (first ∷ messages) zero item now at = refl
  set_here (first ∷ messages) (suc place) item now at = set_here messages place item now at

  item_request : Option (Entry Q F) → Option Q
  item_request None = None
  item_request (Some (Entry.gone fate)) = None
  item_request (Some (Entry.here item)) = item.request

  -- once the oldest queued one is taken, it and those before it aren't queued
  none_older : (messages : List (Entry Q F)) (place : ℕ) (item now : SentMessage Q F) → At messages place item → now.request ≡ None
      → ((k : ℕ) (other : SentMessage Q F) → k < place → At messages k other → other.request ≡ None)
      → (k : ℕ) (other : SentMessage Q F) → k < suc place → At (slice_set messages place (Entry.here now)) k other → other.request ≡ None
  unfolding item_request
  none_older [] place item now at out before k other low there = absurd (cc)
  none_older (first ∷ messages) zero item now at out before zero other low there = sym (ap item_request there) ∙ out
  none_older (first ∷ messages) zero item now at out before (suc k) other low there = absurd (omega (arith, low))
  none_older (first ∷ messages) (suc place) item now at out before zero other low there = before 0 other (omega arith) there
  none_older (first ∷ messages) (suc place) item now at out before (suc k) other low there =
      none_older messages place item now at out (λ j l under here. before (suc j) l (omega (arith, under)) here) k other (omega (arith, low)) there

module _ {Q F E : Type 0} where
  pub in_order : (old new : Mail Q F E) (id : ℕ) (request : Q) → MailSteps old Take (Message id request) new
      → (place : ℕ) × (item : SentMessage Q F) × At new.messages place item × (item.id ≡ id)
      × ((before : ℕ) (other : SentMessage Q F) → before < suc place → At new.messages before other → other.request ≡ None)
  in_order old new id request t =
      let last = t.3 in
      let now : SentMessage Q F = record last.1 { request = None } in
      let e = ap (λ (m : Mail Q F E). m.messages) last.6 in (
        last.0,
        now,
        rw e (set_here t.1.messages last.0 last.1 now last.2.0),
        last.4,
        λ k other low there. none_older t.1.messages last.0 last.1 now last.2.0 refl last.2.2 k other low
            (subst (λ (ms : List (Entry Q F)). At ms k other) e there),
      )
