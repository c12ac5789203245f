-- Messages are taken in the order of sending.
use Rattle.std.proofs.Common.{◌≡◌, inl, inr, ℕ, zero, suc, true, false, Option, Some, None, List, [], ◌∷◌, ◌++◌, take, unwrap_or, slice_set, refl, sym, ap, subst, ◌∙◌, arith}
use Rattle.std.proofs.lemmas.List.{append_assoc, append-nil}
use Rattle.tower_latch.specs.Latch.{Serves}
use Rattle.tower_latch.specs.HistoryLemmas.{plain_run, serves_first}
use Rattle.tower_buffer.specs.Mail.{At, Clears, Entry, SentMessage, Mail, MailSteps, OldestAt, Settles, abandoned, initial, left_by}
use Rattle.tower_buffer.specs.MailHistory.{TakenAsSent, Within, sent, sent_by, taken, taken_by}
use Rattle.tower_buffer.specs.Mailbox.{Opens, StandsFor}
use Rattle.tower_buffer.specs.declared.buffer.message.Fate.{Fate}
use Rattle.tower_buffer.specs.declared.buffer.message.Fate.TheVariants.{Open, Answered, Failed as HasFailed, Cancelled, Lost as WasLost}
use Rattle.tower_buffer.specs.declared.buffer.mail.MailStep.{MailStep}
use Rattle.tower_buffer.specs.declared.buffer.mail.MailStep.TheVariants.{Join, Part, Reserve, Look, Cancel, Unreserve, Send, Take, Live, Answer, Fail, FailStored, Outcome, Forget, WorkerGone}
use Rattle.tower_buffer.specs.declared.buffer.mail.MailReply.{MailReply}
use Rattle.tower_buffer.specs.declared.buffer.mail.MailReply.TheVariants.{Done, Place, Waiting, Memory, Failed, Closed, Sent, Message, Cleared, Empty, End, Truth, Back, Future, Lost, Unknown}

module _ {X : Type 0} where
  all_within : (xs : List X) → Within xs xs
  all_within [] = tt
  all_within (x ∷ xs) = inl (refl, all_within xs)

  same_within : (xs ys : List X) → xs ≡ ys → Within xs ys
  same_within xs ys e = subst (λ (zs : List X). Within xs zs) e (all_within xs)

  within_more : (xs ys : List X) (y : X) → Within xs ys → Within xs (y ∷ ys)
  within_more [] ys y w = tt
  within_more (x ∷ xs) ys y w = inr w

  within_on : (xs ys zs : List X) → Within xs ys → Within ys zs → Within xs zs
  within_on [] ys zs v w = tt
  within_on (x ∷ xs) [] zs v w = absurd v
  within_on (x ∷ xs) (y ∷ ys) [] v w = absurd w
  within_on (x ∷ xs) (y ∷ ys) (z ∷ zs) v w = elim w [
    | inl h ↦ elim v [ inl g ↦ inl (g.0 ∙ h.0, within_on xs ys zs g.1 h.1) | inr g ↦ inr (within_on (x ∷ xs) ys zs g h.1) ]
    | inr h ↦ inr (within_on (x ∷ xs) (y ∷ ys) zs v h)
  ]

  within_both : (us vs xs ys : List X) → Within us vs → Within xs ys → Within (us ++ xs) (vs ++ ys)
  within_both [] [] xs ys v w = w
  within_both [] (b ∷ vs) xs ys v w = within_more xs (vs ++ ys) b (within_both [] vs xs ys tt w)
  within_both (a ∷ us) [] xs ys v w = absurd v
  within_both (a ∷ us) (b ∷ vs) xs ys v w = elim v [
    | inl h ↦ inl (h.0, within_both us vs xs ys h.1 w)
    | inr h ↦ inr (within_both (a ∷ us) vs xs ys h w)
  ]

abbrev asked : {Q : Type 0} → ℕ → Option Q → List (ℕ × Q)
asked id None = []
asked id (Some request) = (id, request) ∷ []

module _ {Q F : Type 0} where
  abbrev one_waits : Entry Q F → List (ℕ × Q)
  one_waits (Entry.here item) = asked item.id item.request
  one_waits (Entry.gone fate) = []

  -- the messages that are queued
  abbrev waiting : List (Entry Q F) → List (ℕ × Q)
  waiting [] = []
  waiting (entry ∷ entries) = one_waits entry ++ waiting entries

  -- none is queued that wasn't, and they keep their order
  abbrev Fewer : List (Entry Q F) → List (Entry Q F) → Type 0
  Fewer old new = Within (waiting new) (waiting old)

  fewer_same : (old new : List (Entry Q F)) → new ≡ old → Fewer old new
  fewer_same old new e = same_within (waiting new) (waiting old) (ap waiting e)

  fewer_set : (old : List (Entry Q F)) (spot : ℕ) (item : SentMessage Q F) (now : Entry Q F) → At old spot item → Within (one_waits now) (one_waits (Entry.here item))
      → Fewer old (slice_set old spot now)
  fewer_set [] spot item now there w = absurd (cc)
  fewer_set (first ∷ old) zero item now there w =
      within_both (one_waits now) (one_waits first) (waiting old) (waiting old)
      (subst (λ (e : Entry Q F). Within (one_waits now) (one_waits e)) (sym (ap (λ o. unwrap_or o first) there)) w) (all_within (waiting old))
  fewer_set (first ∷ old) (suc spot) item now there w =
      within_both (one_waits first) (one_waits first) _ _ (all_within (one_waits first)) (fewer_set old spot item now there w)

  left_waits : (item : SentMessage Q F) (fate : Fate F) → Within (one_waits (left_by item fate)) (one_waits (Entry.here item))
  left_waits item Open = tt
  left_waits item Cancelled = tt
  left_waits item (Answered f) = all_within (one_waits (Entry.here item))
  left_waits item HasFailed = all_within (one_waits (Entry.here item))
  left_waits item WasLost = all_within (one_waits (Entry.here item))

  fewer_left : (old : List (Entry Q F)) → Fewer old (abandoned old)
  fewer_left [] = tt
  fewer_left (Entry.gone fate ∷ old) = within_both (one_waits (Entry.gone fate)) (one_waits (Entry.gone fate)) _ _ (all_within (one_waits (Entry.gone fate))) (fewer_left old)
  fewer_left (Entry.here item ∷ old) = within_both (one_waits (left_by item item.fate)) (one_waits (Entry.here item)) _ _ (left_waits item item.fate) (fewer_left old)

  -- the new one is queued behind the others
  queued_last : (old : List (Entry Q F)) (id : ℕ) (request : Q)
      → waiting (old ++ Entry.here (record { id = id; request = Some request; fate = Open }) ∷ []) ≡ waiting old ++ (id, request) ∷ []
  queued_last [] id request = refl
  queued_last (first ∷ old) id request =
      ap (λ (rest : List (ℕ × Q)). one_waits first ++ rest) (queued_last old id request) ∙ sym (append_assoc (one_waits first) (waiting old) ((id, request) ∷ []))

  -- the oldest is the first that is queued
  oldest_first : (old : List (Entry Q F)) (spot : ℕ) (item : SentMessage Q F) (request : Q) → OldestAt old spot item request
      → (item.id, request) ∷ waiting (slice_set old spot (Entry.here (record item { request = None }))) ≡ waiting old
  oldest_first [] spot item request o = absurd (let at = o.0 in cc)
  oldest_first (first ∷ old) zero item request o =
      let same : first ≡ Entry.here item = ap (λ o. unwrap_or o first) o.0 in
      ap (λ (part : List (ℕ × Q)). part ++ waiting old) (sym (ap one_waits same ∙ ap (asked item.id) o.1))
  oldest_first (Entry.gone fate ∷ old) (suc spot) item request o =
      oldest_first old spot item request (o.0, o.1, (λ k other low at. o.2 (suc k) other (omega (arith, low)) at))
  oldest_first (Entry.here first ∷ old) (suc spot) item request o =
      let none : first.request ≡ None = o.2 0 first (omega arith) refl in
      let more = oldest_first old spot item request (o.0, o.1, (λ k other low at. o.2 (suc k) other (omega (arith, low)) at)) in
      rw none more

module _ {Q F E : Type 0} where
  -- a step that changes one message so
  one : (old new : Mail Q F E) (spot : ℕ) (item : SentMessage Q F) (now : Entry Q F) → At old.messages spot item → Within (one_waits now) (one_waits (Entry.here item))
      → new.messages ≡ slice_set old.messages spot now → Fewer old.messages new.messages
  one old new spot item now at w e = within_on (waiting new.messages) (waiting (slice_set old.messages spot now)) (waiting old.messages)
      (fewer_same (slice_set old.messages spot now) new.messages e) (fewer_set old.messages spot item now at w)

  behind : (xs : List (ℕ × Q)) (old : Mail Q F E) → Within xs (waiting old.messages) → Within xs (waiting old.messages ++ [])
  behind xs old w = subst (λ (all : List (ℕ × Q)). Within xs all) (sym (append-nil (waiting old.messages))) w

  as_was : (old new : Mail Q F E) → new.messages ≡ old.messages → Within (waiting new.messages) (waiting old.messages ++ [])
  as_was old new e = behind (waiting new.messages) old (fewer_same old.messages new.messages e)

  changed : (old new : Mail Q F E) (spot : ℕ) (item : SentMessage Q F) (now : Entry Q F) → At old.messages spot item → Within (one_waits now) (one_waits (Entry.here item))
      → new.messages ≡ slice_set old.messages spot now → Within (waiting new.messages) (waiting old.messages ++ [])
  changed old new spot item now at w e = behind (waiting new.messages) old (one old new spot item now at w e)

  clears_fewer : (n : ℕ) (old new : Mail Q F E) → Clears n old new → Fewer old.messages new.messages
  clears_fewer zero old new c = fewer_same old.messages new.messages (ap (λ (m : Mail Q F E). m.messages) c)
  clears_fewer (suc n) old new c =
      let last = c.2 in
      within_on (waiting new.messages) (waiting c.0.messages) (waiting old.messages)
      (one c.0 new last.0 last.1 (Entry.gone Cancelled) last.3.0 tt (ap (λ (m : Mail Q F E). m.messages) last.6)) (clears_fewer n old c.0 c.1)

  settles_fewer : (fate : Fate F) (old new : Mail Q F E) (id : ℕ) → Settles fate old.messages id new.messages → Fewer old.messages new.messages
  settles_fewer fate old new id s = elim s.3 [
    | inl h ↦ one old new s.0 s.1 (Entry.here (record s.1 { fate = fate })) s.2.0 (all_within (one_waits (Entry.here s.1))) h.1
    | inr h ↦ one old new s.0 s.1 (Entry.gone Cancelled) s.2.0 tt h.1
  ]

  -- what is taken was queued first, and what is queued was queued or is sent
  abbrev Passes : Mail Q F E → MailStep Q F E → MailReply Q F E → Mail Q F E → Type 0
  Passes old step reply new = Within (taken_by step reply ++ waiting new.messages) (waiting old.messages ++ sent_by step reply)

  passes : (old : Mail Q F E) (step : MailStep Q F E) (reply : MailReply Q F E) (new : Mail Q F E) → MailSteps old step reply new → Passes old step reply new
  passes old Join Done new t = as_was old new (ap (λ (m : Mail Q F E). m.messages) t)
  passes old Join Memory new t = as_was old new (ap (λ (m : Mail Q F E). m.messages) t.1)
  passes old Part Done new t = as_was old new (ap (λ (m : Mail Q F E). m.messages) t.1)
  passes old Part Unknown new t = as_was old new (ap (λ (m : Mail Q F E). m.messages) t.1)
  passes old Reserve Place new t = as_was old new (ap (λ (m : Mail Q F E). m.messages) t.2)
  passes old Reserve (Waiting key) new t = as_was old new (ap (λ (m : Mail Q F E). m.messages) t.2)
  passes old Reserve Memory new t = as_was old new (ap (λ (m : Mail Q F E). m.messages) t.1)
  passes old Reserve (Failed e) new t = as_was old new (ap (λ (m : Mail Q F E). m.messages) t.2)
  passes old Reserve Closed new t = as_was old new (ap (λ (m : Mail Q F E). m.messages) t.2)
  passes old (Look key) Place new t = as_was old new (ap (λ (m : Mail Q F E). m.messages) t.2)
  passes old (Look key) (Waiting again) new t = as_was old new (ap (λ (m : Mail Q F E). m.messages) t.2)
  passes old (Look key) Unknown new t = as_was old new (ap (λ (m : Mail Q F E). m.messages) t.2)
  passes old (Look key) Memory new t = as_was old new (ap (λ (m : Mail Q F E). m.messages) t.2)
  passes old (Look key) (Failed e) new t = as_was old new (ap (λ (m : Mail Q F E). m.messages) t.2)
  passes old (Look key) Closed new t = as_was old new (ap (λ (m : Mail Q F E). m.messages) t.2)
  passes old (Cancel key) Done new t =
      as_was old new (elim t [ inl h ↦ ap (λ (m : Mail Q F E). m.messages) h.1 | inr h ↦ ap (λ (m : Mail Q F E). m.messages) h.2 ])
  passes old (Cancel key) Unknown new t = as_was old new (ap (λ (m : Mail Q F E). m.messages) t.2)
  passes old Unreserve Done new t = as_was old new (ap (λ (m : Mail Q F E). m.messages) t.2)
  passes old Unreserve Unknown new t = as_was old new (ap (λ (m : Mail Q F E). m.messages) t.1)
  passes old (Send request) (Sent id) new t =
      same_within (waiting new.messages) (waiting old.messages ++ (id, request) ∷ []) (ap waiting (ap (λ (m : Mail Q F E). m.messages) t.3) ∙ queued_last old.messages id request)
  passes old (Send request) (Failed e) new t = as_was old new (ap (λ (m : Mail Q F E). m.messages) t.4)
  passes old (Send request) Closed new t = as_was old new (ap (λ (m : Mail Q F E). m.messages) t.4)
  passes old (Send request) Memory new t = as_was old new (ap (λ (m : Mail Q F E). m.messages) t.3)
  passes old (Send request) Unknown new t = as_was old new (ap (λ (m : Mail Q F E). m.messages) t.1)
  passes old Take (Message id request) new t =
      let last = t.3 in
      let first : (id, request) ∷ waiting new.messages ≡ waiting t.1.messages =
      ap (λ (i : ℕ). (i, request) ∷ waiting new.messages) (sym last.4)
      ∙ ap (λ (entries : List (Entry Q F)). (last.1.id, request) ∷ waiting entries) (ap (λ (m : Mail Q F E). m.messages) last.6)
      ∙ oldest_first t.1.messages last.0 last.1 request last.2 in
      behind ((id, request) ∷ waiting new.messages) old
      (within_on ((id, request) ∷ waiting new.messages) (waiting t.1.messages) (waiting old.messages)
      (same_within ((id, request) ∷ waiting new.messages) (waiting t.1.messages) first) (clears_fewer t.0 old t.1 t.2))
  passes old Take Cleared new t = behind (waiting new.messages) old (clears_fewer (suc t.0) old new t.1)
  passes old Take Empty new t = as_was old new (ap (λ (m : Mail Q F E). m.messages) t.2)
  passes old Take End new t = as_was old new (ap (λ (m : Mail Q F E). m.messages) t.2)
  passes old (Live id) (Truth true) new t = as_was old new (ap (λ (m : Mail Q F E). m.messages) t.4)
  passes old (Live id) (Truth false) new t = changed old new t.0 t.1 (Entry.gone Cancelled) t.2.0 tt (ap (λ (m : Mail Q F E). m.messages) t.4)
  passes old (Live id) Unknown new t = as_was old new (ap (λ (m : Mail Q F E). m.messages) t.1)
  passes old (Answer id future) Done new t =
      changed old new t.0 t.1 (Entry.here (record t.1 { fate = Answered future })) t.2.0 (all_within (one_waits (Entry.here t.1))) (ap (λ (m : Mail Q F E). m.messages) t.4)
  passes old (Answer id future) (Back back) new t = changed old new t.0 t.1 (Entry.gone Cancelled) t.2.0 tt (ap (λ (m : Mail Q F E). m.messages) t.5)
  passes old (Answer id future) Unknown new t = as_was old new (ap (λ (m : Mail Q F E). m.messages) t.1)
  passes old (Fail id e) Done new t = behind (waiting new.messages) old (settles_fewer HasFailed old new id t.0)
  passes old (Fail id e) Unknown new t = as_was old new (ap (λ (m : Mail Q F E). m.messages) t.1)
  passes old (FailStored id) Done new t = behind (waiting new.messages) old (settles_fewer HasFailed old new id t.1)
  passes old (FailStored id) Unknown new t = as_was old new (ap (λ (m : Mail Q F E). m.messages) t.1)
  passes old (Outcome id) (Waiting again) new t = as_was old new (ap (λ (m : Mail Q F E). m.messages) t.6)
  passes old (Outcome id) (Future future) new t = changed old new t.0 t.1 (Entry.gone t.1.fate) t.2 tt (ap (λ (m : Mail Q F E). m.messages) t.5)
  passes old (Outcome id) (Failed e) new t = changed old new t.0 t.1 (Entry.gone t.1.fate) t.2 tt (ap (λ (m : Mail Q F E). m.messages) t.6)
  passes old (Outcome id) Memory new t = as_was old new (ap (λ (m : Mail Q F E). m.messages) t.5)
  passes old (Outcome id) Lost new t = changed old new t.0 t.1 (Entry.gone t.1.fate) t.2 tt (ap (λ (m : Mail Q F E). m.messages) t.5)
  passes old (Outcome id) Unknown new t = as_was old new (ap (λ (m : Mail Q F E). m.messages) t.1)
  passes old (Forget id) Done new t = elim t.4 [
    | inl h ↦ changed old new t.0 t.1 (Entry.here (record t.1 { fate = Cancelled })) t.2 (all_within (one_waits (Entry.here t.1))) (ap (λ (m : Mail Q F E). m.messages) h.1)
    | inr h ↦ changed old new t.0 t.1 (Entry.gone t.1.fate) t.2 tt (ap (λ (m : Mail Q F E). m.messages) h.2)
  ]
  passes old (Forget id) Unknown new t = as_was old new (ap (λ (m : Mail Q F E). m.messages) t.1)
  passes old WorkerGone Done new t =
      behind (waiting new.messages) old
      (within_on (waiting new.messages) (waiting (abandoned old.messages)) (waiting old.messages) (fewer_same (abandoned old.messages) new.messages (ap (λ (m : Mail Q F E). m.messages) t.1)) (fewer_left old.messages))
  passes old _ _ new t = absurd t

  served : (old new : Mail Q F E) (steps : List (MailStep Q F E × MailReply Q F E)) → Serves MailSteps old steps new
      → Within (taken steps) (waiting old.messages ++ sent steps)
  served old new [] serves = tt
  served old new (step ∷ steps) serves =
      let mid : Mail Q F E = serves.0 in
      let t : List (ℕ × Q) = taken_by step.0 step.1 in
      let s : List (ℕ × Q) = sent_by step.0 step.1 in
      let later = within_both t t (taken steps) (waiting mid.messages ++ sent steps) (all_within t) (served mid new steps serves.2) in
      let now = within_both (t ++ waiting mid.messages) (waiting old.messages ++ s) (sent steps) (sent steps) (passes old step.0 step.1 mid serves.1) (all_within (sent steps)) in
      within_on (t ++ taken steps) (t ++ (waiting mid.messages ++ sent steps)) (waiting old.messages ++ (s ++ sent steps)) later
      (subst (λ (part : List (ℕ × Q)). Within part (waiting old.messages ++ (s ++ sent steps))) (append_assoc t (waiting mid.messages) (sent steps))
      (subst (λ (all : List (ℕ × Q)). Within ((t ++ waiting mid.messages) ++ sent steps) all) (append_assoc (waiting old.messages) s (sent steps)) now))

  pub taken_as_sent : TakenAsSent Q F E
  taken_as_sent bound box opening history held is legal n =
      let whole = plain_run Opens StandsFor MailSteps box (initial bound) opening history held is legal in
      let first = serves_first MailSteps (initial bound) whole.0 history n whole.1 in
      served (initial bound) first.0 (take n history) first.1
