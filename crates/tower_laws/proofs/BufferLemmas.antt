-- The history of mail, as a queue, outcomes and an error.
use Rattle.std.proofs.Common.{◌≡◌, ◌≢◌, ◌⊎◌, inl, inr, ⊎_elim, ℕ, zero, suc, Bool, true, false, if◌then◌else◌, unwrap_or, Option, Some, None, List, [], ◌∷◌, ◌++◌, take, slice_set, refl, sym, ap, subst, ◌∙◌, arith}
use Rattle.std.specs.Prelude.{nat_eq}
use Rattle.std.proofs.lemmas.Bool.Decides.{eqb_tells}
use Rattle.std.proofs.lemmas.List.{append_assoc, append-nil}
use Rattle.tower_latch.specs.HistoryLemmas.{serves_at, plain_run}
use Rattle.tower_latch.specs.Latch.{Serves}
use Rattle.futures.specs.declared.task.Poll.{Poll}
use Rattle.futures.specs.declared.task.Poll.TheVariants.{Pending}
use Rattle.tower_base.specs.declared.service.Service.{Ghosts as ServiceOf}
use Rattle.tower_buffer.proofs.Orders.{poll_orderly}
use Rattle.tower_buffer.specs.Worker.{WorkerView, Stepped}
use Rattle.tower_base.specs.Iterations.{Iterates}
use Rattle.tower_buffer.specs.WorkerOrder.{Book, WorkerSteps, Orderly, OrderlyIteration, book_of}
use Rattle.tower_laws.specs.Responses.{PendingFor}
use Rattle.tower_laws.specs.Buffer.{InOrder, WorkerSettlesEach, without, failed, lost, waits_after, given_after, error_after, waiting, given, first_error, TakesFirst, TellsWhatWasGiven, asks_place, TellsFirstError, HoldOfMail, InEachRun, InEachHistory}
use Rattle.tower_buffer.specs.Mail.{At, Clears, Entry, SentMessage, Mail, MailSteps, NoneQueued, NoneWith, OldestAt, Settles, Tells, abandoned, initial, left_by}
use Rattle.tower_buffer.specs.Mailbox.{Opens, StandsFor}
use Rattle.tower_buffer.specs.declared.buffer.message.Fate.{Fate}
use Rattle.tower_buffer.specs.declared.buffer.message.Fate.TheVariants.{Open, Answered, Failed as HasFailed, Cancelled, Lost as WasLost}
use Rattle.tower_buffer.specs.declared.buffer.mail.MailStep.{MailStep}
use Rattle.tower_buffer.specs.declared.buffer.mail.MailStep.TheVariants.{Join, Part, Reserve, Look, Cancel, Unreserve, Send, Take, Live, Answer, Fail, FailStored, Outcome, Forget, WorkerGone}
use Rattle.tower_buffer.specs.declared.buffer.mail.MailReply.{MailReply}
use Rattle.tower_buffer.specs.declared.buffer.mail.MailReply.TheVariants.{Done, Place, Waiting, Memory, Failed, Closed, Sent, Message, Cleared, Empty, End, Truth, Back, Future, Lost, Unknown}

-- What is looked up is the first of two, by whether the ids are the same.
when_same : {X : Type 0} (id other : ℕ) (a b c : X) → (id ≡ other → a ≡ c) → (id ≢ other → b ≡ c) → (if nat_eq id other then a else b) ≡ c
when_same {X} id other a b c same differs = ⊎_elim
    (λ h. ap (λ (t : Bool). if t then a else b) h.0 ∙ same h.1) (λ h. ap (λ (t : Bool). if t then a else b) h.0 ∙ differs h.1) (eqb_tells id other)

if_same : {X : Type 0} (id other : ℕ) (a b : X) → id ≡ other → (if nat_eq id other then a else b) ≡ a
if_same id other a b e = when_same id other a b a (λ s. refl) (λ n. absurd (n e))

if_other : {X : Type 0} (id other : ℕ) (a b : X) → id ≢ other → (if nat_eq id other then a else b) ≡ b
if_other id other a b n = when_same id other a b b (λ s. absurd (n s)) (λ m. refl)

lost_if : {F : Type 0} (t : Bool) (a b : Option (Fate F)) → lost (if t then a else b) ≡ (if t then lost a else lost b)
lost_if true a b = refl
lost_if false a b = refl

-- the outcome of a message that somebody waits for
abbrev visible : {F : Type 0} → Fate F → Option (Fate F)
visible Cancelled = None
visible fate = Some fate

hidden : {F : Type 0} (fate : Fate F) → ¬ (fate ≢ Cancelled) → visible fate ≡ None
hidden Open n = absurd (n (λ c. cc))
hidden Cancelled n = refl
hidden (Answered f) n = absurd (n (λ c. cc))
hidden HasFailed n = absurd (n (λ c. cc))
hidden WasLost n = absurd (n (λ c. cc))

abbrev failed_at : {F : Type 0} → (ℕ → Option (Fate F)) → ℕ → ℕ → Option (Fate F)
failed_at told id other = if nat_eq other id then failed (told other) else told other

module _ {Q F : Type 0} where
  -- a message that waits to be taken: it is queued, and nobody cancelled it
  abbrev one_waits : ℕ → Option Q → Fate F → List (ℕ × Q)
  one_waits id (Some request) Open = (id, request) ∷ []
  one_waits id request fate = []

  abbrev entry_waits : Entry Q F → List (ℕ × Q)
  entry_waits (Entry.here item) = one_waits item.id item.request item.fate
  entry_waits (Entry.gone fate) = []

  abbrev all_wait : List (Entry Q F) → List (ℕ × Q)
  all_wait [] = []
  all_wait (entry ∷ entries) = entry_waits entry ++ all_wait entries

  out_waits : (id : ℕ) (request : Option Q) (fate : Fate F) → request ≡ None → one_waits id request fate ≡ []
  out_waits id (Some request) fate e = cc
  out_waits id None fate e = refl

  shut_waits : (id : ℕ) (request : Option Q) (fate : Fate F) → fate ≢ Open → one_waits id request fate ≡ []
  shut_waits id (Some request) Open n = absurd (n refl)
  shut_waits id None Open n = refl
  shut_waits id (Some request) (Answered f) n = refl
  shut_waits id (Some request) HasFailed n = refl
  shut_waits id (Some request) Cancelled n = refl
  shut_waits id (Some request) WasLost n = refl
  shut_waits id None (Answered f) n = refl
  shut_waits id None HasFailed n = refl
  shut_waits id None Cancelled n = refl
  shut_waits id None WasLost n = refl

  here_is : (a b : SentMessage Q F) → Some (Entry.here a) ≡ Some (Entry.here b) → a ≡ b
  here_is a b e = cc

  head_is : (first : Entry Q F) (item : SentMessage Q F) (rest : List (Entry Q F)) → At (first ∷ rest) zero item → first ≡ Entry.here item
  head_is first item rest at = ap (λ o. unwrap_or o first) at

  -- No id stands twice.
  abbrev Once : List (Entry Q F) → Type 0
  Once messages = (p q : ℕ) (a b : SentMessage Q F) → At messages p a → At messages q b → a.id ≡ b.id → p ≡ q

  once_rest : (first : Entry Q F) (rest : List (Entry Q F)) → Once (first ∷ rest) → Once rest
  once_rest first rest once p q a b at there same = let e = once (suc p) (suc q) a b at there same in omega (arith, e)

  -- Each message that is there was there, with its id.
  abbrev Keeps : List (Entry Q F) → List (Entry Q F) → Type 0
  Keeps old new = (p : ℕ) (b : SentMessage Q F) → At new p b → (a : SentMessage Q F) × At old p a × (a.id ≡ b.id)

  once_kept : (old new : List (Entry Q F)) → Keeps old new → Once old → Once new
  once_kept old new keeps once p q a b at there same =
      let x = keeps p a at in
      let y = keeps q b there in
      once p q x.0 y.0 x.1 y.1 (x.2 ∙ same ∙ sym y.2)

  -- What stands at a place after a write.
  was_set : (messages : List (Entry Q F)) (place p : ℕ) (now : Entry Q F) (b : SentMessage Q F) → At (slice_set messages place now) p b
      → ((p ≡ place) × (now ≡ Entry.here b)) ⊎ ((p ≢ place) × At messages p b)
  was_set [] place p now b at = absurd (cc)
  was_set (first ∷ messages) zero zero now b at = inl (refl, ap (λ o. unwrap_or o now) at)
  was_set (first ∷ messages) zero (suc p) now b at = inr (λ e. omega (arith, e), at)
  was_set (first ∷ messages) (suc place) zero now b at = inr (λ e. omega (arith, e), at)
  was_set (first ∷ messages) (suc place) (suc p) now b at = ⊎_elim
      (λ h. inl (ap suc h.0, h.1)) (λ h. inr (λ e. h.0 (omega (arith, e)), h.1)) (was_set messages place p now b at)

  -- the entry that is written is gone, or has the id of the item
  abbrev SameId : SentMessage Q F → Entry Q F → Type 0
  SameId item now = (b : SentMessage Q F) → now ≡ Entry.here b → item.id ≡ b.id

  keeps_set : (messages : List (Entry Q F)) (place : ℕ) (item : SentMessage Q F) (now : Entry Q F) → At messages place item → SameId item now → Keeps messages (slice_set messages place now)
  keeps_set messages place item now at same p b there = ⊎_elim
      (λ h. (item, subst (λ (i : ℕ). At messages i item) (sym h.0) at, same b h.1)) (λ h. (b, h.1, refl)) (was_set messages place p now b there)

  gone_same : (item : SentMessage Q F) (fate : Fate F) → SameId item (Entry.gone fate)
  gone_same item fate b e = absurd (cc)

  fate_same : (item : SentMessage Q F) (fate : Fate F) → SameId item (Entry.here (record item { fate = fate }))
  fate_same item fate b e = ap (λ (l : SentMessage Q F). l.id) (here_is (record item { fate = fate }) b (ap Some e))

  request_same : (item : SentMessage Q F) → SameId item (Entry.here (record item { request = None }))
  request_same item b e = ap (λ (l : SentMessage Q F). l.id) (here_is (record item { request = None }) b (ap Some e))

  -- A message that doesn't wait changes to one that doesn't.
  set_same : (messages : List (Entry Q F)) (place : ℕ) (item : SentMessage Q F) (now : Entry Q F) → At messages place item
      → entry_waits now ≡ entry_waits (Entry.here item) → all_wait (slice_set messages place now) ≡ all_wait messages
  set_same [] place item now at e = absurd (cc)
  set_same (first ∷ messages) zero item now at e =
      ap (λ (part : List (ℕ × Q)). part ++ all_wait messages) (e ∙ ap entry_waits (sym (head_is first item messages at)))
  set_same (first ∷ messages) (suc place) item now at e = ap (λ (rest : List (ℕ × Q)). entry_waits first ++ rest) (set_same messages place item now at e)

  -- nothing is left out
  without_none : (messages : List (Entry Q F)) (id : ℕ) → ((p : ℕ) (b : SentMessage Q F) → At messages p b → b.id ≢ id) → without id (all_wait messages) ≡ all_wait messages
  without_none [] id none = refl
  without_none (Entry.gone fate ∷ messages) id none = without_none messages id (λ p b at. none (suc p) b at)
  without_none (Entry.here item ∷ messages) id none = kept (without_none messages id (λ p b at. none (suc p) b at)) item.request item.fate
    where
      kept : without id (all_wait messages) ≡ all_wait messages → (request : Option Q) (fate : Fate F) → without id (one_waits item.id request fate ++ all_wait messages) ≡ one_waits item.id request fate ++ all_wait messages
      kept rest (Some request) Open = ⊎_elim
          (λ same. absurd (none zero item refl (sym same.1)))
          (λ differs. ap (λ (b : Bool). if b then without id (all_wait messages) else (item.id, request) ∷ without id (all_wait messages)) differs.0
          ∙ ap (λ (l : List (ℕ × Q)). (item.id, request) ∷ l) rest)
          (eqb_tells id item.id)
      kept rest None Open = rest
      kept rest (Some request) (Answered f) = rest
      kept rest (Some request) HasFailed = rest
      kept rest (Some request) Cancelled = rest
      kept rest (Some request) WasLost = rest
      kept rest None (Answered f) = rest
      kept rest None HasFailed = rest
      kept rest None Cancelled = rest
      kept rest None WasLost = rest

  -- A message of another id stays, and the one of this id is left out.
  without_one : (id : ℕ) (request : Option Q) (fate : Fate F) (rest : List (ℕ × Q)) → without id (one_waits id request fate ++ rest) ≡ without id rest
  without_one id (Some request) Open rest = ⊎_elim
      (λ same. ap (λ (b : Bool). if b then without id rest else (id, request) ∷ without id rest) same.0)
      (λ differs. absurd (differs.1 refl)) (eqb_tells id id)
  without_one id None Open rest = refl
  without_one id (Some request) (Answered f) rest = refl
  without_one id (Some request) HasFailed rest = refl
  without_one id (Some request) Cancelled rest = refl
  without_one id (Some request) WasLost rest = refl
  without_one id None (Answered f) rest = refl
  without_one id None HasFailed rest = refl
  without_one id None Cancelled rest = refl
  without_one id None WasLost rest = refl

  without_other : (id other : ℕ) (request : Option Q) (fate : Fate F) (rest : List (ℕ × Q)) → id ≢ other
      → without id (one_waits other request fate ++ rest) ≡ one_waits other request fate ++ without id rest
  without_other id other (Some request) Open rest n = ⊎_elim
      (λ same. absurd (n same.1))
      (λ differs. ap (λ (b : Bool). if b then without id rest else (other, request) ∷ without id rest) differs.0) (eqb_tells id other)
  without_other id other None Open rest n = refl
  without_other id other (Some request) (Answered f) rest n = refl
  without_other id other (Some request) HasFailed rest n = refl
  without_other id other (Some request) Cancelled rest n = refl
  without_other id other (Some request) WasLost rest n = refl
  without_other id other None (Answered f) rest n = refl
  without_other id other None HasFailed rest n = refl
  without_other id other None Cancelled rest n = refl
  without_other id other None WasLost rest n = refl

  -- A message that no longer waits leaves the others in their order.
  set_leaves : (messages : List (Entry Q F)) (place : ℕ) (item : SentMessage Q F) (now : Entry Q F) → At messages place item → Once messages → entry_waits now ≡ []
      → all_wait (slice_set messages place now) ≡ without item.id (all_wait messages)
  set_leaves [] place item now at once e = absurd (cc)
  set_leaves (first ∷ messages) zero item now at once e =
      let same = head_is first item messages at in
      ap (λ (part : List (ℕ × Q)). part ++ all_wait messages) e
      ∙ sym (without_none messages item.id (λ p b there is. let z = once zero (suc p) item b at there (sym is) in omega (arith, z)))
      ∙ sym (without_one item.id item.request item.fate (all_wait messages))
      ∙ ap (λ (x : Entry Q F). without item.id (entry_waits x ++ all_wait messages)) (sym same)
  set_leaves (Entry.gone fate ∷ messages) (suc place) item now at once e = set_leaves messages place item now at (once_rest (Entry.gone fate) messages once) e
  set_leaves (Entry.here first ∷ messages) (suc place) item now at once e =
      ap (λ (rest : List (ℕ × Q)). one_waits first.id first.request first.fate ++ rest) (set_leaves messages place item now at (once_rest (Entry.here first) messages once) e)
      ∙ sym (without_other item.id first.id first.request first.fate (all_wait messages)
      (λ is. let z = once (suc place) zero item first at refl is in omega (arith, z)))

  last_waits : (messages : List (Entry Q F)) (now : Entry Q F) → all_wait (messages ++ now ∷ []) ≡ all_wait messages ++ entry_waits now
  last_waits [] now = append-nil (entry_waits now)
  last_waits (first ∷ messages) now =
      ap (λ (rest : List (ℕ × Q)). entry_waits first ++ rest) (last_waits messages now) ∙ sym (append_assoc (entry_waits first) (all_wait messages) (entry_waits now))

  none_waits : (messages : List (Entry Q F)) → NoneQueued messages → all_wait messages ≡ []
  none_waits [] none = refl
  none_waits (Entry.gone fate ∷ messages) none = none_waits messages (λ p b at. none (suc p) b at)
  none_waits (Entry.here item ∷ messages) none =
      ap (λ (part : List (ℕ × Q)). part ++ all_wait messages) (out_waits item.id item.request item.fate (none zero item refl))
      ∙ none_waits messages (λ p b at. none (suc p) b at)

  left_waits : (item : SentMessage Q F) (fate : Fate F) → item.fate ≡ fate → entry_waits (left_by item fate) ≡ []
  left_waits item Open e = refl
  left_waits item Cancelled e = refl
  left_waits item (Answered f) e = shut_waits item.id item.request item.fate (λ o. cc)
  left_waits item HasFailed e = shut_waits item.id item.request item.fate (λ o. cc)
  left_waits item WasLost e = shut_waits item.id item.request item.fate (λ o. cc)

  abandoned_waits : (messages : List (Entry Q F)) → all_wait (abandoned messages) ≡ []
  abandoned_waits [] = refl
  abandoned_waits (Entry.gone fate ∷ messages) = abandoned_waits messages
  abandoned_waits (Entry.here item ∷ messages) =
      ap (λ (part : List (ℕ × Q)). part ++ all_wait (abandoned messages)) (left_waits item item.fate refl) ∙ abandoned_waits messages

  -- the oldest that is queued, and that nobody cancelled, waits first
  oldest_first : (messages : List (Entry Q F)) (place : ℕ) (item : SentMessage Q F) (request : Q) → OldestAt messages place item request → item.fate ≡ Open
      → (rest : List (ℕ × Q)) × (all_wait messages ≡ (item.id, request) ∷ rest)
  oldest_first [] place item request o open_ = absurd (let at = o.0 in cc)
  oldest_first (first ∷ messages) zero item request o open_ = (
    all_wait messages,
    ap (λ (x : Entry Q F). entry_waits x ++ all_wait messages) (head_is first item messages o.0)
        ∙ ap (λ (r : Option Q). one_waits item.id r item.fate ++ all_wait messages) o.1
        ∙ ap (λ (f : Fate F). one_waits item.id (Some request) f ++ all_wait messages) open_,
  )
  oldest_first (Entry.gone fate ∷ messages) (suc place) item request o open_ =
      oldest_first messages place item request (o.0, o.1, (λ k other low at. o.2 (suc k) other (omega (arith, low)) at)) open_
  oldest_first (Entry.here first ∷ messages) (suc place) item request o open_ =
      let more = oldest_first messages place item request (o.0, o.1, (λ k other low at. o.2 (suc k) other (omega (arith, low)) at)) open_ in
      (more.0, ap (λ (part : List (ℕ × Q)). part ++ all_wait messages) (out_waits first.id first.request first.fate (o.2 zero first (omega arith) refl)) ∙ more.1)

  -- what the worker leaves, from what was there
  was_left : (messages : List (Entry Q F)) (p : ℕ) (b : SentMessage Q F) → At (abandoned messages) p b
      → (item : SentMessage Q F) × At messages p item × (left_by item item.fate ≡ Entry.here b)
  was_left [] p b at = absurd (cc)
  was_left (Entry.gone fate ∷ messages) zero b at = absurd (cc)
  was_left (Entry.here item ∷ messages) zero b at = (item, refl, ap (λ o. unwrap_or o (left_by item item.fate)) at)
  was_left (Entry.gone fate ∷ messages) (suc p) b at = was_left messages p b at
  was_left (Entry.here item ∷ messages) (suc p) b at = was_left messages p b at

  abbrev look : List (Entry Q F) → ℕ → Option (Fate F)
  look [] id = None
  look (Entry.gone fate ∷ messages) id = look messages id
  look (Entry.here item ∷ messages) id = if nat_eq id item.id then visible item.fate else look messages id

  look_none : (messages : List (Entry Q F)) (id : ℕ) → ((p : ℕ) (b : SentMessage Q F) → At messages p b → b.id ≢ id) → look messages id ≡ None
  look_none [] id none = refl
  look_none (Entry.gone fate ∷ messages) id none = look_none messages id (λ p b at. none (suc p) b at)
  look_none (Entry.here item ∷ messages) id none =
      if_other id item.id (visible item.fate) (look messages id) (λ e. none zero item refl (sym e)) ∙ look_none messages id (λ p b at. none (suc p) b at)

  -- no other has the id of the first
  others_differ : (item : SentMessage Q F) (messages : List (Entry Q F)) → Once (Entry.here item ∷ messages) → (p : ℕ) (b : SentMessage Q F) → At messages p b → b.id ≢ item.id
  others_differ item messages once p b at is = let z = once zero (suc p) item b refl at (sym is) in omega (arith, z)

  look_at : (messages : List (Entry Q F)) (place : ℕ) (item : SentMessage Q F) → At messages place item → Once messages → look messages item.id ≡ visible item.fate
  look_at [] place item at once = absurd (cc)
  look_at (Entry.gone fate ∷ messages) zero item at once = absurd (cc (at))
  look_at (Entry.here first ∷ messages) zero item at once =
      let same : first ≡ item = here_is first item at in
      if_same item.id first.id (visible first.fate) (look messages item.id) (sym (ap (λ (l : SentMessage Q F). l.id) same)) ∙ ap (λ (l : SentMessage Q F). visible l.fate) same
  look_at (Entry.gone fate ∷ messages) (suc place) item at once = look_at messages place item at (once_rest (Entry.gone fate) messages once)
  look_at (Entry.here first ∷ messages) (suc place) item at once =
      if_other item.id first.id (visible first.fate) (look messages item.id) (others_differ first messages once place item at) ∙ look_at messages place item at (once_rest (Entry.here first) messages once)

  look_set : (messages : List (Entry Q F)) (place : ℕ) (item now : SentMessage Q F) (id : ℕ) → At messages place item → Once messages → now.id ≡ item.id
      → look (slice_set messages place (Entry.here now)) id ≡ (if nat_eq id item.id then visible now.fate else look messages id)
  look_set [] place item now id at once same = absurd (cc)
  look_set (Entry.gone fate ∷ messages) zero item now id at once same = absurd (cc (at))
  look_set (Entry.here first ∷ messages) zero item now id at once same =
      let is : first.id ≡ item.id = ap (λ (l : SentMessage Q F). l.id) (here_is first item at) in
      when_same id now.id (visible now.fate) (look messages id) (if nat_eq id item.id then visible now.fate else look (Entry.here first ∷ messages) id)
      (λ e. sym (if_same id item.id (visible now.fate) (look (Entry.here first ∷ messages) id) (e ∙ same)))
      (λ n. sym (if_other id item.id (visible now.fate) (look (Entry.here first ∷ messages) id) (λ e. n (e ∙ sym same))
      ∙ if_other id first.id (visible first.fate) (look messages id) (λ e. n (e ∙ is ∙ sym same))))
  look_set (Entry.gone fate ∷ messages) (suc place) item now id at once same = look_set messages place item now id at (once_rest (Entry.gone fate) messages once) same
  look_set (Entry.here first ∷ messages) (suc place) item now id at once same =
      let differs = others_differ first messages once place item at in
      when_same id first.id (visible first.fate) (look (slice_set messages place (Entry.here now)) id) (if nat_eq id item.id then visible now.fate else look (Entry.here first ∷ messages) id)
      (λ e. sym (if_other id item.id (visible now.fate) (look (Entry.here first ∷ messages) id) (λ k. differs (sym k ∙ e)) ∙ if_same id first.id (visible first.fate) (look messages id) e))
      (λ n. look_set messages place item now id at (once_rest (Entry.here first) messages once) same
      ∙ ap (λ (x : Option (Fate F)). if nat_eq id item.id then visible now.fate else x) (sym (if_other id first.id (visible first.fate) (look messages id) n)))

  look_gone : (messages : List (Entry Q F)) (place : ℕ) (item : SentMessage Q F) (fate : Fate F) (id : ℕ) → At messages place item → Once messages
      → look (slice_set messages place (Entry.gone fate)) id ≡ (if nat_eq id item.id then None else look messages id)
  look_gone [] place item fate id at once = absurd (cc)
  look_gone (Entry.gone other ∷ messages) zero item fate id at once = absurd (cc (at))
  look_gone (Entry.here first ∷ messages) zero item fate id at once =
      let is : first.id ≡ item.id = ap (λ (l : SentMessage Q F). l.id) (here_is first item at) in
      sym (when_same id item.id None (look (Entry.here first ∷ messages) id) (look messages id)
      (λ e. sym (look_none messages id (λ p b there k. others_differ first messages once p b there (k ∙ e ∙ sym is))))
      (λ n. if_other id first.id (visible first.fate) (look messages id) (λ e. n (e ∙ is))))
  look_gone (Entry.gone other ∷ messages) (suc place) item fate id at once = look_gone messages place item fate id at (once_rest (Entry.gone other) messages once)
  look_gone (Entry.here first ∷ messages) (suc place) item fate id at once =
      let differs = others_differ first messages once place item at in
      when_same id first.id (visible first.fate) (look (slice_set messages place (Entry.gone fate)) id) (if nat_eq id item.id then None else look (Entry.here first ∷ messages) id)
      (λ e. sym (if_other id item.id None (look (Entry.here first ∷ messages) id) (λ k. differs (sym k ∙ e)) ∙ if_same id first.id (visible first.fate) (look messages id) e))
      (λ n. look_gone messages place item fate id at (once_rest (Entry.here first) messages once)
      ∙ ap (λ (x : Option (Fate F)). if nat_eq id item.id then None else x) (sym (if_other id first.id (visible first.fate) (look messages id) n)))

  look_last : (messages : List (Entry Q F)) (now : SentMessage Q F) (id : ℕ) → ((p : ℕ) (b : SentMessage Q F) → At messages p b → b.id ≢ now.id)
      → look (messages ++ Entry.here now ∷ []) id ≡ (if nat_eq id now.id then visible now.fate else look messages id)
  look_last [] now id none = refl
  look_last (Entry.gone fate ∷ messages) now id none = look_last messages now id (λ p b at. none (suc p) b at)
  look_last (Entry.here first ∷ messages) now id none =
      let differs : first.id ≢ now.id = none zero first refl in
      when_same id first.id (visible first.fate) (look (messages ++ Entry.here now ∷ []) id) (if nat_eq id now.id then visible now.fate else look (Entry.here first ∷ messages) id)
      (λ e. sym (if_other id now.id (visible now.fate) (look (Entry.here first ∷ messages) id) (λ k. differs (sym e ∙ k)) ∙ if_same id first.id (visible first.fate) (look messages id) e))
      (λ n. look_last messages now id (λ p b at. none (suc p) b at)
      ∙ ap (λ (x : Option (Fate F)). if nat_eq id now.id then visible now.fate else x) (sym (if_other id first.id (visible first.fate) (look messages id) n)))

  look_left : (messages : List (Entry Q F)) (id : ℕ) → Once messages → look (abandoned messages) id ≡ lost (look messages id)
  look_left [] id once = refl
  look_left (Entry.gone fate ∷ messages) id once = look_left messages id (once_rest (Entry.gone fate) messages once)
  look_left (Entry.here item ∷ messages) id once = by (look_left messages id (once_rest (Entry.here item) messages once)) item.fate refl
    where
      still : look (abandoned messages) id ≡ lost (look messages id) → (x : Option (Fate F)) → x ≡ lost (visible item.fate) → (if nat_eq id item.id then x else look (abandoned messages) id) ≡ lost (if nat_eq id item.id then visible item.fate else look messages id)
      still rest x is = (λ i. if nat_eq id item.id then is i else rest i) ∙ sym (lost_if (nat_eq id item.id) (visible item.fate) (look messages id))

      by : look (abandoned messages) id ≡ lost (look messages id) → (fate : Fate F) → item.fate ≡ fate → look (left_by item fate ∷ abandoned messages) id ≡ lost (if nat_eq id item.id then visible item.fate else look messages id)
      by rest Open e = still rest (Some WasLost) (sym (ap (λ (f : Fate F). lost (visible f)) e))
      by rest Cancelled e =
          let none : id ≡ item.id → look messages id ≡ None = λ is. look_none messages id (λ p b at k. others_differ item messages once p b at (k ∙ is)) in
          sym (lost_if (nat_eq id item.id) (visible item.fate) (look messages id)
          ∙ when_same id item.id (lost (visible item.fate)) (lost (look messages id)) (look (abandoned messages) id)
          (λ is. ap (λ (f : Fate F). lost (visible f)) e ∙ sym (rest ∙ ap lost (none is))) (λ n. sym rest))
      by rest (Answered f) e = still rest (visible item.fate) (ap visible e ∙ sym (ap (λ (f : Fate F). lost (visible f)) e))
      by rest HasFailed e = still rest (visible item.fate) (ap visible e ∙ sym (ap (λ (f : Fate F). lost (visible f)) e))
      by rest WasLost e = still rest (visible item.fate) (ap visible e ∙ sym (ap (λ (f : Fate F). lost (visible f)) e))

  none_looks : (messages : List (Entry Q F)) (id : ℕ) → NoneWith (λ (item : SentMessage Q F). item.fate ≢ Cancelled) messages id → look messages id ≡ None
  none_looks [] id none = refl
  none_looks (Entry.gone fate ∷ messages) id none = none_looks messages id (λ p b at. none (suc p) b at)
  none_looks (Entry.here item ∷ messages) id none = when_same id item.id (visible item.fate) (look messages id) None
      (λ e. hidden item.fate (none zero item refl (sym e))) (λ n. none_looks messages id (λ p b at. none (suc p) b at))

  -- each outcome is the one that was given
  abbrev AsGiven : (ℕ → Option (Fate F)) → List (Entry Q F) → Type 0
  AsGiven told messages = (id : ℕ) → told id ≡ look messages id

  module _ (messages : List (Entry Q F)) (place : ℕ) (item : SentMessage Q F) (told : ℕ → Option (Fate F)) (at : At messages place item) (once : Once messages) (as_given : AsGiven told messages) where
    itself : (id : ℕ) → (if nat_eq id item.id then visible item.fate else look messages id) ≡ look messages id
    itself id = when_same id item.id (visible item.fate) (look messages id) (look messages id)
        (λ e. sym (ap (look messages) e ∙ look_at messages place item at once)) (λ n. refl)

    -- another outcome, or the same
    given_here : (now : SentMessage Q F) → now.id ≡ item.id → AsGiven (λ id. if nat_eq id item.id then visible now.fate else told id) (slice_set messages place (Entry.here now))
    given_here now same id =
        ap (λ (x : Option (Fate F)). if nat_eq id item.id then visible now.fate else x) (as_given id) ∙ sym (look_set messages place item now id at once same)

    given_same : (now : SentMessage Q F) → now.id ≡ item.id → visible now.fate ≡ visible item.fate → AsGiven told (slice_set messages place (Entry.here now))
    given_same now same fate id =
        as_given id ∙ sym (itself id) ∙ ap (λ (x : Option (Fate F)). if nat_eq id item.id then x else look messages id) (sym fate) ∙ sym (look_set messages place item now id at once same)

    given_gone : (fate : Fate F) → AsGiven (λ id. if nat_eq id item.id then None else told id) (slice_set messages place (Entry.gone fate))
    given_gone fate id = ap (λ (x : Option (Fate F)). if nat_eq id item.id then None else x) (as_given id) ∙ sym (look_gone messages place item fate id at once)

    given_hidden : (fate : Fate F) → visible item.fate ≡ None → AsGiven told (slice_set messages place (Entry.gone fate))
    given_hidden fate none id =
        as_given id ∙ sym (itself id) ∙ ap (λ (x : Option (Fate F)). if nat_eq id item.id then x else look messages id) none ∙ sym (look_gone messages place item fate id at once)

  -- What stands at a place once one is appended.
  was_last : (messages : List (Entry Q F)) (p : ℕ) (now : Entry Q F) (b : SentMessage Q F) → At (messages ++ now ∷ []) p b → At messages p b ⊎ ((now ≡ Entry.here b) × ((a : SentMessage Q F) → ¬ At messages p a))
  was_last [] zero now b at = inr (ap (λ o. unwrap_or o now) at, λ a none. absurd (cc))
  was_last [] (suc p) now b at = absurd (cc)
  was_last (first ∷ messages) zero now b at = inl at
  was_last (first ∷ messages) (suc p) now b at = was_last messages p now b at

  last_place : (messages : List (Entry Q F)) (p q : ℕ) (now : Entry Q F) (a b : SentMessage Q F) → At (messages ++ now ∷ []) p a → At (messages ++ now ∷ []) q b
      → ((x : SentMessage Q F) → ¬ At messages p x) → ((x : SentMessage Q F) → ¬ At messages q x) → p ≡ q
  last_place [] zero zero now a b at there none other = refl
  last_place [] (suc p) q now a b at there none other = absurd (cc)
  last_place [] zero (suc q) now a b at there none other = absurd (cc)
  last_place (first ∷ messages) zero q now a b at there none other = absurd (none a at)
  last_place (first ∷ messages) (suc p) zero now a b at there none other = absurd (other b there)
  last_place (first ∷ messages) (suc p) (suc q) now a b at there none other = ap suc (last_place messages p q now a b at there none other)

  once_last : (messages : List (Entry Q F)) (now : SentMessage Q F) → Once messages → ((p : ℕ) (b : SentMessage Q F) → At messages p b → b.id ≢ now.id) → Once (messages ++ Entry.here now ∷ [])
  once_last messages now once none p q a b at there same = ⊎_elim
      (λ h. ⊎_elim
      (λ k. once p q a b h k same)
      (λ k. absurd (none p a h (same ∙ sym (ap (λ (l : SentMessage Q F). l.id) (here_is now b (ap Some k.0))))))
      (was_last messages q (Entry.here now) b there))
      (λ h. ⊎_elim
      (λ k. absurd (none q b k (sym same ∙ sym (ap (λ (l : SentMessage Q F). l.id) (here_is now a (ap Some h.0))))))
      (λ k. last_place messages p q (Entry.here now) a b at there h.1 k.1)
      (was_last messages q (Entry.here now) b there))
      (was_last messages p (Entry.here now) a at)

-- what of mail the law speaks of
record Known (Q F E : Type 0) : Type 0 where
  messages : List (Entry Q F)
  stored : Option E
  shut : Bool

module _ {Q F E : Type 0} where
  abbrev part : Mail Q F E → Known Q F E
  part mail = record { messages = mail.messages; stored = mail.stored; shut = mail.is_closed }

  -- The messages that wait, what was given to each, and the first error are those of the mail.
  record Told (wait : List (ℕ × Q)) (told : ℕ → Option (Fate F)) (error : Option E) (mail : Known Q F E) : Type 0 where
    once : Once mail.messages
    waits : wait ≡ all_wait mail.messages
    as_given : AsGiven told mail.messages
    first : error ≡ mail.stored
    closed : (e : E) → mail.stored ≡ Some e → mail.shut ≡ true

  module _ (wait : List (ℕ × Q)) (told : ℕ → Option (Fate F)) (error : Option E) where
    quiet : (old new : Mail Q F E) → part new ≡ part old → Told wait told error (part old) → Told wait told error (part new)
    quiet old new same h = subst (Told wait told error) (sym same) h

    -- A write of one message that doesn't wait, before and after.
    writes : (old new : Mail Q F E) (place : ℕ) (item : SentMessage Q F) (now : Entry Q F) (after : ℕ → Option (Fate F)) → At old.messages place item
        → SameId item now → entry_waits (Entry.here item) ≡ [] → entry_waits now ≡ [] → AsGiven after (slice_set old.messages place now)
        → part new ≡ record { messages = slice_set old.messages place now; stored = old.stored; shut = old.is_closed }
        → Told wait told error (part old) → Told wait after error (part new)
    writes old new place item now after at same was is given_now e h = subst (Told wait after error) (sym e) (record {
      once = once_kept old.messages (slice_set old.messages place now) (keeps_set old.messages place item now at same) h.once;
      waits = h.waits ∙ sym (set_same old.messages place item now at (is ∙ sym was));
      as_given = given_now;
      first = h.first;
      closed = h.closed;
    })

    -- A write of a message that no longer waits.
    leaves : (old new : Mail Q F E) (place : ℕ) (item : SentMessage Q F) (now : Entry Q F) (after : ℕ → Option (Fate F)) → At old.messages place item
        → SameId item now → entry_waits now ≡ [] → AsGiven after (slice_set old.messages place now)
        → part new ≡ record { messages = slice_set old.messages place now; stored = old.stored; shut = old.is_closed }
        → Told wait told error (part old) → Told (without item.id wait) after error (part new)
    leaves old new place item now after at same is given_now e h = subst (Told (without item.id wait) after error) (sym e) (record {
      once = once_kept old.messages (slice_set old.messages place now) (keeps_set old.messages place item now at same) h.once;
      waits = ap (without item.id) h.waits ∙ sym (set_leaves old.messages place item now at h.once is);
      as_given = given_now;
      first = h.first;
      closed = h.closed;
    })

    -- A message that nobody waits for is gone.
    goes : (old new : Mail Q F E) (place : ℕ) (item : SentMessage Q F) → At old.messages place item → item.fate ≡ Cancelled
        → part new ≡ record { messages = slice_set old.messages place (Entry.gone Cancelled); stored = old.stored; shut = old.is_closed }
        → Told wait told error (part old) → Told wait told error (part new)
    goes old new place item at none e h =
        writes old new place item (Entry.gone Cancelled) told at (gone_same item Cancelled) (shut_waits item.id item.request item.fate (λ o. let k = sym none ∙ o in cc)) refl
        (given_hidden old.messages place item told at h.once h.as_given Cancelled (ap visible none)) e h

    clears : (n : ℕ) (old new : Mail Q F E) → Clears n old new → Told wait told error (part old) → Told wait told error (part new)
    clears zero old new c h = quiet old new (ap part c) h
    clears (suc n) old new c h = let last = c.2 in goes c.0 new last.0 last.1 last.3.0 last.4 (ap part last.6) (clears n old c.0 c.1 h)

    -- An outcome is told, and the message is gone.
    told_gone : (old new : Mail Q F E) (id place : ℕ) (item : SentMessage Q F) (fate : Fate F) → At old.messages place item → item.id ≡ id → item.fate ≡ fate → fate ≢ Open
        → part new ≡ record { messages = slice_set old.messages place (Entry.gone item.fate); stored = old.stored; shut = old.is_closed }
        → Told wait told error (part old) → Told wait (λ other. if nat_eq other id then None else told other) error (part new)
    told_gone old new id place item fate at same is ended e h =
        subst (λ (i : ℕ). Told wait (λ other. if nat_eq other i then None else told other) error (part new)) same
        (writes old new place item (Entry.gone item.fate) (λ other. if nat_eq other item.id then None else told other) at (gone_same item item.fate)
        (shut_waits item.id item.request item.fate (λ o. ended (sym is ∙ o))) refl (given_gone old.messages place item told at h.once h.as_given item.fate) e h)

    -- A message without an outcome gets one, or it is gone if nobody waits for it.
    settled : (old new : Mail Q F E) (id : ℕ) (shut : Bool) (stored : Option E) → Settles HasFailed old.messages id new.messages
        → (error_now : Option E) → error_now ≡ stored → ((e : E) → stored ≡ Some e → shut ≡ true)
        → part new ≡ record { messages = new.messages; stored = stored; shut = shut }
        → Told wait told error (part old) → Told wait (failed_at told id) error_now (part new)
    settled old new id shut stored s error_now is closes e h =
        subst (λ (i : ℕ). Told wait (failed_at told i) error_now (part new)) s.2.1 (⊎_elim
        (λ open_. made (Entry.here (record s.1 { fate = HasFailed })) (fate_same s.1 HasFailed) (out_waits s.1.id s.1.request HasFailed s.2.2)
        (λ other. by (ap visible open_.0) other ∙ given_here old.messages s.0 s.1 told s.2.0 h.once h.as_given (record s.1 { fate = HasFailed }) refl other) open_.1)
        (λ none. made (Entry.gone Cancelled) (gone_same s.1 Cancelled) refl
        (λ other. hides (ap visible none.0) other ∙ given_hidden old.messages s.0 s.1 told s.2.0 h.once h.as_given Cancelled (ap visible none.0) other) none.1)
        s.3)
      where
        was : entry_waits (Entry.here s.1) ≡ []
        was = out_waits s.1.id s.1.request s.1.fate s.2.2

        there : told s.1.id ≡ visible s.1.fate
        there = h.as_given s.1.id ∙ look_at old.messages s.0 s.1 s.2.0 h.once

        by : visible s.1.fate ≡ Some Open → (other : ℕ) → failed_at told s.1.id other ≡ (if nat_eq other s.1.id then Some HasFailed else told other)
        by open_ other = when_same other s.1.id (failed (told other)) (told other) (if nat_eq other s.1.id then Some HasFailed else told other)
            (λ k. ap (λ (i : ℕ). failed (told i)) k ∙ ap failed (there ∙ open_) ∙ sym (if_same other s.1.id (Some HasFailed) (told other) k))
            (λ n. sym (if_other other s.1.id (Some HasFailed) (told other) n))

        hides : visible s.1.fate ≡ None → (other : ℕ) → failed_at told s.1.id other ≡ told other
        hides none other = when_same other s.1.id (failed (told other)) (told other) (told other)
            (λ k. ap (λ (i : ℕ). failed (told i)) k ∙ ap failed (there ∙ none) ∙ sym (ap told k ∙ there ∙ none)) (λ n. refl)

        made : (now : Entry Q F) → SameId s.1 now → entry_waits now ≡ [] → AsGiven (failed_at told s.1.id) (slice_set old.messages s.0 now) → new.messages ≡ slice_set old.messages s.0 now
            → Told wait (failed_at told s.1.id) error_now (part new)
        made now same none given_now written =
            subst (Told wait (failed_at told s.1.id) error_now) (sym (e ∙ ap (λ (ms : List (Entry Q F)). record { messages = ms; stored = stored; shut = shut }) written)) (record {
              once = once_kept old.messages (slice_set old.messages s.0 now) (keeps_set old.messages s.0 s.1 now s.2.0 same) h.once;
              waits = h.waits ∙ sym (set_same old.messages s.0 s.1 now s.2.0 (none ∙ sym was));
              as_given = given_now;
              first = is;
              closed = closes;
            })

  steps_told : (wait : List (ℕ × Q)) (told : ℕ → Option (Fate F)) (error : Option E) (old : Mail Q F E) (step : MailStep Q F E) (reply : MailReply Q F E) (new : Mail Q F E)
      → MailSteps old step reply new → Told wait told error (part old)
      → Told (waits_after wait step reply) (λ id. given_after id (told id) step reply) (error_after error step reply) (part new)
  steps_told w g x old Join Done new t h = quiet w g x old new (ap part t) h
  steps_told w g x old Join Memory new t h = quiet w g x old new (ap part t.1) h
  steps_told w g x old Part Done new t h = quiet w g x old new (ap part t.1) h
  steps_told w g x old Part Unknown new t h = quiet w g x old new (ap part t.1) h
  steps_told w g x old Reserve Place new t h = quiet w g x old new (ap part t.2) h
  steps_told w g x old Reserve (Waiting key) new t h = quiet w g x old new (ap part t.2) h
  steps_told w g x old Reserve Memory new t h = quiet w g x old new (ap part t.1) h
  steps_told w g x old Reserve (Failed e) new t h = quiet w g x old new (ap part t.2) h
  steps_told w g x old Reserve Closed new t h = quiet w g x old new (ap part t.2) h
  steps_told w g x old (Look key) Place new t h = quiet w g x old new (ap part t.2) h
  steps_told w g x old (Look key) (Waiting again) new t h = quiet w g x old new (ap part t.2) h
  steps_told w g x old (Look key) Unknown new t h = quiet w g x old new (ap part t.2) h
  steps_told w g x old (Look key) Memory new t h = quiet w g x old new (ap part t.2) h
  steps_told w g x old (Look key) (Failed e) new t h = quiet w g x old new (ap part t.2) h
  steps_told w g x old (Look key) Closed new t h = quiet w g x old new (ap part t.2) h
  steps_told w g x old (Cancel key) Done new t h = quiet w g x old new (elim t [ inl k ↦ ap part k.1 | inr k ↦ ap part k.2 ]) h
  steps_told w g x old (Cancel key) Unknown new t h = quiet w g x old new (ap part t.2) h
  steps_told w g x old Unreserve Done new t h = quiet w g x old new (ap part t.2) h
  steps_told w g x old Unreserve Unknown new t h = quiet w g x old new (ap part t.1) h
  steps_told w g x old (Send request) (Sent id) new t h =
      let now : SentMessage Q F = record { id = id; request = Some request; fate = Open } in
      let after : ℕ → Option (Fate F) = λ other. if nat_eq other id then Some Open else g other in
      let none : (p : ℕ) (b : SentMessage Q F) → At old.messages p b → b.id ≢ id = λ p b at same. t.2 p b at same tt in
      subst (Told (w ++ (id, request) ∷ []) after x) (sym (ap part t.3)) (record {
        once = once_last old.messages now h.once none;
        waits = ap (λ (l : List (ℕ × Q)). l ++ (id, request) ∷ []) h.waits ∙ sym (last_waits old.messages (Entry.here now));
        as_given = λ other. ap (λ (o : Option (Fate F)). if nat_eq other id then Some Open else o) (h.as_given other) ∙ sym (look_last old.messages now other none);
        first = h.first;
        closed = h.closed;
      })
  steps_told w g x old (Send request) (Failed e) new t h = quiet w g x old new (ap part t.4) h
  steps_told w g x old (Send request) Closed new t h = quiet w g x old new (ap part t.4) h
  steps_told w g x old (Send request) Memory new t h = quiet w g x old new (ap part t.3) h
  steps_told w g x old (Send request) Unknown new t h = quiet w g x old new (ap part t.1) h
  steps_told w g x old Take (Message id request) new t h =
      let last = t.3 in
      let cleared = clears w g x t.0 old t.1 t.2 h in
      let now : SentMessage Q F = record last.1 { request = None } in
      subst (λ (i : ℕ). Told (without i w) g x (part new)) last.4
      (leaves w g x t.1 new last.0 last.1 (Entry.here now) g last.2.0 (request_same last.1) refl
      (given_same t.1.messages last.0 last.1 g last.2.0 cleared.once cleared.as_given now refl refl) (ap part last.6) cleared)
  steps_told w g x old Take Cleared new t h = clears w g x (suc t.0) old new t.1 h
  steps_told w g x old Take Empty new t h = quiet w g x old new (ap part t.2) h
  steps_told w g x old Take End new t h = quiet w g x old new (ap part t.2) h
  steps_told w g x old (Live id) (Truth true) new t h = quiet w g x old new (ap part t.4) h
  steps_told w g x old (Live id) (Truth false) new t h = goes w g x old new t.0 t.1 t.2.0 t.3 (ap part t.4) h
  steps_told w g x old (Live id) Unknown new t h = quiet w g x old new (ap part t.1) h
  steps_told w g x old (Answer id future) Done new t h =
      let now : SentMessage Q F = record t.1 { fate = Answered future } in
      subst (λ (i : ℕ). Told w (λ other. if nat_eq other i then Some (Answered future) else g other) x (part new)) t.2.1
      (writes w g x old new t.0 t.1 (Entry.here now) (λ other. if nat_eq other t.1.id then Some (Answered future) else g other) t.2.0 (fate_same t.1 (Answered future))
      (out_waits t.1.id t.1.request t.1.fate t.2.2) (out_waits t.1.id t.1.request (Answered future) t.2.2)
      (given_here old.messages t.0 t.1 g t.2.0 h.once h.as_given now refl) (ap part t.4) h)
  steps_told w g x old (Answer id future) (Back back) new t h = goes w g x old new t.0 t.1 t.2.0 t.3 (ap part t.5) h
  steps_told w g x old (Answer id future) Unknown new t h = quiet w g x old new (ap part t.1) h
  steps_told w g x old (Fail id e) Done new t h =
      settled w g x old new id true (Some (unwrap_or old.stored e)) t.0 (Some (unwrap_or x e)) (ap (λ (o : Option E). Some (unwrap_or o e)) h.first) (λ y k. refl) (ap part t.1) h
  steps_told w g x old (Fail id e) Unknown new t h = quiet w g x old new (ap part t.1) h
  steps_told w g x old (FailStored id) Done new t h = settled w g x old new id old.is_closed old.stored t.1 x h.first h.closed (ap part t.2) h
  steps_told w g x old (FailStored id) Unknown new t h = quiet w g x old new (ap part t.1) h
  steps_told w g x old (Outcome id) (Waiting again) new t h = quiet w g x old new (ap part t.6) h
  steps_told w g x old (Outcome id) (Future future) new t h = told_gone w g x old new id t.0 t.1 (Answered future) t.2 t.3 t.4 (λ o. cc) (ap part t.5) h
  steps_told w g x old (Outcome id) (Failed e) new t h = told_gone w g x old new id t.0 t.1 HasFailed t.2 t.3 t.4 (λ o. cc) (ap part t.6) h
  steps_told w g x old (Outcome id) Memory new t h = quiet w g x old new (ap part t.5) h
  steps_told w g x old (Outcome id) Lost new t h = told_gone w g x old new id t.0 t.1 WasLost t.2 t.3 t.4 (λ o. cc) (ap part t.5) h
  steps_told w g x old (Outcome id) Unknown new t h = quiet w g x old new (ap part t.1) h
  steps_told w g x old (Forget id) Done new t h =
      subst (λ (i : ℕ). Told (without i w) (λ other. if nat_eq other i then None else g other) x (part new)) t.3 (elim t.4 [
        | inl k ↦ leaves w g x old new t.0 t.1 (Entry.here (record t.1 { fate = Cancelled })) (λ other. if nat_eq other t.1.id then None else g other) t.2 (fate_same t.1 Cancelled)
            (shut_waits t.1.id t.1.request Cancelled (λ o. cc)) (given_here old.messages t.0 t.1 g t.2 h.once h.as_given (record t.1 { fate = Cancelled }) refl) (ap part k.1) h
        | inr k ↦ leaves w g x old new t.0 t.1 (Entry.gone t.1.fate) (λ other. if nat_eq other t.1.id then None else g other) t.2 (gone_same t.1 t.1.fate) refl
            (given_gone old.messages t.0 t.1 g t.2 h.once h.as_given t.1.fate) (ap part k.2) h
      ])
  steps_told w g x old (Forget id) Unknown new t h = quiet w g x old new (ap part t.1) h
  steps_told w g x old WorkerGone Done new t h = subst (Told [] (λ id. lost (g id)) x) (sym (ap part t.1)) (record {
    once = once_kept old.messages (abandoned old.messages) (λ p b at. let was = was_left old.messages p b at in
        (was.0, was.1, left_id was.0 b was.0.fate was.2)) h.once;
    waits = sym (abandoned_waits old.messages);
    as_given = λ id. ap lost (h.as_given id) ∙ sym (look_left old.messages id h.once);
    first = h.first;
    closed = λ e k. refl;
  })
    where
      left_id : (item b : SentMessage Q F) (fate : Fate F) → left_by item fate ≡ Entry.here b → item.id ≡ b.id
      left_id item b Open e = ap (λ (l : SentMessage Q F). l.id) (here_is (record { id = item.id; request = None; fate = WasLost }) b (ap Some e))
      left_id item b Cancelled e = absurd (cc (e))
      left_id item b (Answered f) e = ap (λ (l : SentMessage Q F). l.id) (here_is item b (ap Some e))
      left_id item b HasFailed e = ap (λ (l : SentMessage Q F). l.id) (here_is item b (ap Some e))
      left_id item b WasLost e = ap (λ (l : SentMessage Q F). l.id) (here_is item b (ap Some e))
  steps_told w g x old _ _ new t h = absurd t

  runs_told : (wait : List (ℕ × Q)) (told : ℕ → Option (Fate F)) (error : Option E) (old : Mail Q F E) (steps : List (MailStep Q F E × MailReply Q F E)) (new : Mail Q F E)
      → Serves MailSteps old steps new → Told wait told error (part old)
      → Told (waiting wait steps) (λ id. given id (told id) steps) (first_error error steps) (part new)
  runs_told w g x old [] new run h = quiet w g x old new (ap part run) h
  runs_told w g x old (step ∷ steps) new run h =
      runs_told (waits_after w step.0 step.1) (λ id. given_after id (g id) step.0 step.1) (error_after x step.0 step.1) run.0 steps new run.2
      (steps_told w g x old step.0 step.1 run.0 run.1 h)

  at_first : (bound : ℕ) → Told [] (λ id. None) None (part (initial bound))
  at_first bound = record {
    once = λ p q a b at there same. absurd (cc);
    waits = refl;
    as_given = λ id. refl;
    first = refl;
    closed = λ e k. absurd (cc);
  }

  after_all : (bound : ℕ) (past : List (MailStep Q F E × MailReply Q F E)) (mail : Mail Q F E) → Serves MailSteps (initial bound) past mail
      → Told (waiting [] past) (λ id. given id None past) (first_error None past) (part mail)
  after_all bound past mail run = runs_told [] (λ id. None) None (initial bound) past mail run (at_first bound)

  -- the three statements of one step
  takes_first : (past : List (MailStep Q F E × MailReply Q F E)) (old new : Mail Q F E) (step : MailStep Q F E) (reply : MailReply Q F E)
      → Told (waiting [] past) (λ id. given id None past) (first_error None past) (part old) → MailSteps old step reply new → TakesFirst past step reply
  takes_first past old new Take (Message id request) h t =
      let last = t.3 in
      let cleared = clears _ _ _ t.0 old t.1 t.2 h in
      let first = oldest_first t.1.messages last.0 last.1 request last.2 last.3 in
      (first.0, cleared.waits ∙ first.1 ∙ ap (λ (i : ℕ). (i, request) ∷ first.0) last.4)
  takes_first past old new Take Cleared h t = let cleared = clears _ _ _ (suc t.0) old new t.1 h in cleared.waits ∙ none_waits new.messages t.2
  takes_first past old new Take Empty h t = h.waits ∙ none_waits old.messages t.0
  takes_first past old new Take End h t = h.waits ∙ none_waits old.messages t.0
  takes_first past old new Take _ h t = absurd t
  takes_first past old new _ _ h t = tt

  outcome_is : (past : List (MailStep Q F E × MailReply Q F E)) (mail : Mail Q F E) (id place : ℕ) (item : SentMessage Q F) (fate : Fate F)
      → Told (waiting [] past) (λ id. given id None past) (first_error None past) (part mail) → At mail.messages place item → item.id ≡ id → item.fate ≡ fate
      → given id None past ≡ visible fate
  outcome_is past mail id place item fate h at same is =
      subst (λ (i : ℕ). given i None past ≡ visible fate) same (h.as_given item.id ∙ look_at mail.messages place item at h.once ∙ ap visible is)

  tells_given : (past : List (MailStep Q F E × MailReply Q F E)) (old new : Mail Q F E) (step : MailStep Q F E) (reply : MailReply Q F E)
      → Told (waiting [] past) (λ id. given id None past) (first_error None past) (part old) → MailSteps old step reply new → TellsWhatWasGiven past step reply
  tells_given past old new (Outcome id) (Waiting again) h t = outcome_is past old id t.0 t.1 Open h t.2 t.3 t.4
  tells_given past old new (Outcome id) (Future future) h t = outcome_is past old id t.0 t.1 (Answered future) h t.2 t.3 t.4
  tells_given past old new (Outcome id) (Failed e) h t = outcome_is past old id t.0 t.1 HasFailed h t.2 t.3 t.4
  tells_given past old new (Outcome id) Memory h t = outcome_is past old id t.0 t.1 HasFailed h t.2 t.3 t.4
  tells_given past old new (Outcome id) Lost h t = outcome_is past old id t.0 t.1 WasLost h t.2 t.3 t.4
  tells_given past old new (Outcome id) Unknown h t = h.as_given id ∙ none_looks old.messages id t.0
  tells_given past old new (Outcome id) _ h t = absurd t
  tells_given past old new _ _ h t = tt

  failed_is : (f e : E) → ◌≡◌ {A = MailReply Q F E} (Failed f) (Failed e) → f ≡ e
  failed_is f e same = cc

  stored_is : (stored : Option E) (f : E) (reply : MailReply Q F E) → reply ≡ Failed f → Tells stored reply → stored ≡ Some f
  stored_is (Some e) f (Failed g) is t = ap Some (sym t ∙ failed_is g f is)
  stored_is None f (Failed g) is t = absurd t
  stored_is stored f Done is t = absurd (cc (is))
  stored_is stored f Place is t = absurd (cc (is))
  stored_is stored f (Waiting key) is t = absurd (cc (is))
  stored_is stored f Memory is t = absurd (cc (is))
  stored_is stored f Closed is t = absurd (cc (is))
  stored_is stored f (Sent id) is t = absurd (cc (is))
  stored_is stored f (Message id request) is t = absurd (cc (is))
  stored_is stored f Cleared is t = absurd (cc (is))
  stored_is stored f Empty is t = absurd (cc (is))
  stored_is stored f End is t = absurd (cc (is))
  stored_is stored f (Truth b) is t = absurd (cc (is))
  stored_is stored f (Back g) is t = absurd (cc (is))
  stored_is stored f (Future g) is t = absurd (cc (is))
  stored_is stored f Lost is t = absurd (cc (is))
  stored_is stored f Unknown is t = absurd (cc (is))

  not_closed : (stored : Option E) (e : E) (reply : MailReply Q F E) → reply ≡ Closed → stored ≡ Some e → ¬ (Tells stored reply)
  not_closed (Some x) e Closed same is t = t
  not_closed None e Closed same is t = cc
  not_closed stored e Done same is t = cc
  not_closed stored e Place same is t = cc
  not_closed stored e (Waiting key) same is t = cc
  not_closed stored e Memory same is t = cc
  not_closed stored e (Failed g) same is t = cc
  not_closed stored e (Sent id) same is t = cc
  not_closed stored e (Message id request) same is t = cc
  not_closed stored e Cleared same is t = cc
  not_closed stored e Empty same is t = cc
  not_closed stored e End same is t = cc
  not_closed stored e (Truth b) same is t = cc
  not_closed stored e (Back g) same is t = cc
  not_closed stored e (Future g) same is t = cc
  not_closed stored e Lost same is t = cc
  not_closed stored e Unknown same is t = cc

  names_first : (old : Mail Q F E) (step : MailStep Q F E) (reply : MailReply Q F E) (new : Mail Q F E) (e : E) → MailSteps old step reply new → reply ≡ Failed e → old.stored ≡ Some e
  names_first old Reserve (Failed f) new e t same = stored_is old.stored e (Failed f) same t.1
  names_first old (Look key) (Failed f) new e t same = stored_is old.stored e (Failed f) same t.1
  names_first old (Send request) (Failed f) new e t same = stored_is old.stored e (Failed f) same t.2
  names_first old (Outcome id) (Failed f) new e t same = t.5 ∙ ap Some (failed_is f e same)
  names_first old _ (Failed f) new e t same = absurd t
  names_first old step Done new e t same = absurd (cc (same))
  names_first old step Place new e t same = absurd (cc (same))
  names_first old step (Waiting key) new e t same = absurd (cc (same))
  names_first old step Memory new e t same = absurd (cc (same))
  names_first old step Closed new e t same = absurd (cc (same))
  names_first old step (Sent id) new e t same = absurd (cc (same))
  names_first old step (Message id request) new e t same = absurd (cc (same))
  names_first old step Cleared new e t same = absurd (cc (same))
  names_first old step Empty new e t same = absurd (cc (same))
  names_first old step End new e t same = absurd (cc (same))
  names_first old step (Truth b) new e t same = absurd (cc (same))
  names_first old step (Back f) new e t same = absurd (cc (same))
  names_first old step (Future f) new e t same = absurd (cc (same))
  names_first old step Lost new e t same = absurd (cc (same))
  names_first old step Unknown new e t same = absurd (cc (same))

  -- closed mail with a stored error gives no place
  refuses : (old : Mail Q F E) (step : MailStep Q F E) (reply : MailReply Q F E) (new : Mail Q F E) (e : E) → MailSteps old step reply new → asks_place step ≡ true
      → old.stored ≡ Some e → old.is_closed ≡ true → (reply ≡ Failed e) ⊎ (reply ≡ Memory)
  refuses old Reserve Place new e t asks is shut = absurd (let no = t.0 in cc)
  refuses old Reserve (Waiting key) new e t asks is shut = absurd (let no = t.0 in cc)
  refuses old Reserve Memory new e t asks is shut = inr refl
  refuses old Reserve (Failed f) new e t asks is shut = inl (ap Failed (let there = stored_is old.stored f (Failed f) refl t.1 in cc))
  refuses old Reserve Closed new e t asks is shut = absurd (not_closed old.stored e Closed refl is t.1)
  refuses old Reserve _ new e t asks is shut = absurd t
  refuses old (Look key) Place new e t asks is shut = absurd (let no = t.0 in cc)
  refuses old (Look key) (Waiting again) new e t asks is shut = absurd (let no = t.0 in cc)
  refuses old (Look key) Unknown new e t asks is shut = absurd (let no = t.0 in cc)
  refuses old (Look key) Memory new e t asks is shut = inr refl
  refuses old (Look key) (Failed f) new e t asks is shut = inl (ap Failed (let there = stored_is old.stored f (Failed f) refl t.1 in cc))
  refuses old (Look key) Closed new e t asks is shut = absurd (not_closed old.stored e Closed refl is t.1)
  refuses old (Look key) _ new e t asks is shut = absurd t
  refuses old Join reply new e t asks is shut = absurd (cc (asks))
  refuses old Part reply new e t asks is shut = absurd (cc (asks))
  refuses old (Cancel key) reply new e t asks is shut = absurd (cc (asks))
  refuses old Unreserve reply new e t asks is shut = absurd (cc (asks))
  refuses old (Send request) reply new e t asks is shut = absurd (cc (asks))
  refuses old Take reply new e t asks is shut = absurd (cc (asks))
  refuses old (Live id) reply new e t asks is shut = absurd (cc (asks))
  refuses old (Answer id future) reply new e t asks is shut = absurd (cc (asks))
  refuses old (Fail id f) reply new e t asks is shut = absurd (cc (asks))
  refuses old (FailStored id) reply new e t asks is shut = absurd (cc (asks))
  refuses old (Outcome id) reply new e t asks is shut = absurd (cc (asks))
  refuses old (Forget id) reply new e t asks is shut = absurd (cc (asks))
  refuses old WorkerGone reply new e t asks is shut = absurd (cc (asks))

  tells_first_error : (past : List (MailStep Q F E × MailReply Q F E)) (old new : Mail Q F E) (step : MailStep Q F E) (reply : MailReply Q F E)
      → Told (waiting [] past) (λ id. given id None past) (first_error None past) (part old) → MailSteps old step reply new → TellsFirstError past step reply
  tells_first_error past old new step reply h t = (
    λ e same. h.first ∙ names_first old step reply new e t same,
    λ e asks is. let stored = sym h.first ∙ is in refuses old step reply new e t asks stored (h.closed e stored),
  )

  -- P holds in each run, if it follows from what is known of the mail.
  abbrev Follows : (List (MailStep Q F E × MailReply Q F E) → MailStep Q F E → MailReply Q F E → Type 0) → Type 0
  Follows P = (past : List (MailStep Q F E × MailReply Q F E)) (old new : Mail Q F E) (step : MailStep Q F E) (reply : MailReply Q F E)
      → Told (waiting [] past) (λ id. given id None past) (first_error None past) (part old) → MailSteps old step reply new → P past step reply

  in_each_run : (P : List (MailStep Q F E × MailReply Q F E) → MailStep Q F E → MailReply Q F E → Type 0) → Follows P → InEachRun P
  in_each_run P follows bound past mail next step reply run made = follows past mail next step reply (after_all bound past mail run) made

  in_each_history : (P : List (MailStep Q F E × MailReply Q F E) → MailStep Q F E → MailReply Q F E → Type 0) → InEachRun P → InEachHistory P
  in_each_history P each bound box opening history held is legal place step reply at =
      let run = plain_run Opens StandsFor MailSteps box (initial bound) opening history held is legal in
      let here = serves_at MailSteps (initial bound) run.0 history place step reply run.1 at in
      each bound (take place history) here.0 here.1 step reply here.2 here.3

  both : (P : List (MailStep Q F E × MailReply Q F E) → MailStep Q F E → MailReply Q F E → Type 0) → Follows P → HoldOfMail P
  both P follows = let each = in_each_run P follows in (each, in_each_history P each)

  pub order : HoldOfMail (TakesFirst {Q = Q} {F = F} {E = E})
  order = both TakesFirst takes_first

  pub outcomes : HoldOfMail (TellsWhatWasGiven {Q = Q} {F = F} {E = E})
  outcomes = both TellsWhatWasGiven tells_given

  pub errors : HoldOfMail (TellsFirstError {Q = Q} {F = F} {E = E})
  errors = both TellsFirstError tells_first_error

-- The worker keeps to its order over all its polls.
module _ {L S Q A E F : Type 0} (gave : L → MailStep Q F E → MailReply Q F E → Type 0) (s : ServiceOf S Q A E F) where
  further : (latch : L) (n m : ℕ) (old mid new : Book) → WorkerSteps gave latch n old mid → WorkerSteps gave latch m mid new → (k : ℕ) × WorkerSteps gave latch k old new
  further latch n zero old mid new v w = (n, subst (WorkerSteps gave latch n old) (sym w) v)
  further latch n (suc m) old mid new v w = let r = further latch n m old mid w.0 v w.1 in (suc r.0, (w.0, r.1, w.2))

  joined : (old mid new : WorkerView L S Q) → InOrder gave old mid → InOrder gave mid new → InOrder gave old new
  joined old mid new a b =
      let c = subst (λ (l : L). (n : ℕ) × WorkerSteps gave l n (book_of mid) (book_of new)) a.0 b.1 in
      (b.0 ∙ a.0, further old.latch a.1.0 c.0 _ _ _ a.1.1 c.1)

  passed : (old : WorkerView L S Q) (answer : Option (Poll (Unit {0}))) (new : WorkerView L S Q) → OrderlyIteration gave old answer new → InOrder gave old new
  passed old answer new p = (p.same, (p.steps, p.works))

  went : (n : ℕ) (old new : WorkerView L S Q) → Iterates (OrderlyIteration gave) n old new → InOrder gave old new
  unfolding Iterates
  went zero old new here = subst (InOrder gave old) (sym here) (refl, (zero, refl))
  went (suc n) old new (mid, before, pass) = joined old mid new (went n old mid before) (passed mid None new pass)

  polled : (old : WorkerView L S Q) (answer : Poll (Unit {0})) (new : WorkerView L S Q) → Orderly gave old answer new → InOrder gave old new
  polled old answer new p = ⊎_elim
      (λ h. joined old p.last new (went p.count old p.last p.went) (passed p.last (Some answer) new h.1))
      (λ h. subst (InOrder gave old) (sym h.2) (went p.count old p.last p.went))
      p.ends

  waits : (polls : ℕ) (first last : WorkerView L S Q) → PendingFor (Stepped gave s) polls first last → InOrder gave first last
  waits zero first last here = subst (InOrder gave first) (sym here) (refl, (zero, refl))
  waits (suc polls) first last (next, step, rest) = joined first next last (polled first Pending next (poll_orderly gave s first Pending next step)) (waits polls next last rest)

  pub worker_settles : WorkerSettlesEach gave s
  worker_settles first last new polls answer before step = joined first last new (waits polls first last before) (polled last answer new (poll_orderly gave s last answer new step))
